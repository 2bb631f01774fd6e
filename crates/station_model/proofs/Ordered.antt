-- What refusal 1 asks of a station's serials and counts holds after each call, if it held before it: no serial above
-- started or held twice, started at most the accepted calls, the counts in balance. Assumes nothing.
use mathlib.Core.Path.{◌≡◌, refl}
use mathlib.Core.Bool.{Bool}
use mathlib.Core.List.{[]}
use Prim.Native.Nat.{ℕ, zero, suc, ◌+◌, ◌≤◌}
use native.Mathlib.Omega.{arith}
use lib.ListN.{length}
use Rattle.ranges.specs.Settings.{Settings}
use Rattle.station_model.specs.declared.Event.{Event}
use Rattle.station_model.specs.Station.{Station, fresh, acted, refusal, outcome, step}
use Rattle.station_model.proofs.Books.{by_cause}
use Rattle.station_model.proofs.Fair.{Spare}
use Rattle.station_model.proofs.Starts.{one_acted}
use Rattle.station_model.proofs.Ledger.{unrefused, fair_acted, books_fresh}
use Rattle.station_model.proofs.Memory.{Unique}
use Rattle.station_model.proofs.Recall.{unique_of, unique_act}

pub record Ordered (s : Station) : Type 0 where
  pub unique : Unique s
  pub accepted : s.bank.started ≤ s.accepted
  pub balance : s.bank.started ≡ length s.bank.challengers + s.counts.twins + s.counts.outscored + s.counts.aged
      + s.counts.replaced + s.counts.cleared

-- a serial is left for a call that is not refused
pub ordered_spare : (s : Station) (e : Event) → Ordered s → refusal s e ≡ 0 → Spare s.bank
ordered_spare s e o z = omega (arith, o.accepted, (unrefused s e z).0)

module _ (k : Settings) where
  ordered_outcome : (s : Station) (e : Event) (r : ℕ) → refusal s e ≡ r → Ordered s → Ordered (outcome k s e r).station
  ordered_outcome s e zero z o =
      let f = fair_acted k s e (ordered_spare s e o z) in
      record {
        unique = unique_act s (acted k s e) o.unique f;
        accepted = omega (arith, o.accepted, one_acted k s e);
        balance = omega (arith, o.balance, f.balanced, by_cause (acted k s e).told.left);
      }
  ordered_outcome s e (suc n) z o = o

  pub ordered_step : (s : Station) (e : Event) → Ordered s → Ordered (step k s e).station
  unfolding step
  ordered_step s e o = ordered_outcome s e (refusal s e) refl o

  -- so many departures in one answer at the most: an array of as many places as the width is enough
  pub few : (s : Station) (e : Event) → Spare s.bank → length (acted k s e).told.left ≤ suc (length s.bank.challengers)
  few s e h = omega (arith, (fair_acted k s e h).balanced, one_acted k s e)

pub ordered_fresh : (width : ℕ) (switching : Bool) → Ordered (fresh width switching)
ordered_fresh width switching = record {
  unique = unique_of [] (fresh width switching) (books_fresh width switching);
  accepted = omega arith;
  balance = refl;
}
