-- An accepted call keeps the books of any solid station, and a fresh station has them. Assumes nothing.
use mathlib.Core.Path.{◌≡◌, refl, ap, sym, subst}
use mathlib.Core.Bool.{Bool}
use Prim.Native.Nat.{ℕ, ◌<◌}
use native.Mathlib.Omega.{arith}
use lib.Dec.{T}
use Rattle.ranges.specs.Settings.{Settings, standard}
use Rattle.tracker.specs.declared.SpeedTracker.{SpeedTracker}
use Rattle.tracker.specs.Model.{Tracker}
use Rattle.tracker.specs.Model as Tracked
use Rattle.tracker.specs.Steps as Tracking
use Rattle.tracker.specs.Sound.{sound}
use Rattle.bank_model.specs.Steps.{fresh_bank}
use Rattle.bank.specs.declared.TimingBank.{TimingBank}
use Rattle.bank.specs.View as Banked
use Rattle.bank.specs.Sturdy.{Sturdy}
use Rattle.station_model.specs.declared.Counts.{Counts}
use Rattle.station_model.specs.declared.Event.{Event}
use Rattle.station_model.specs.Station.{fresh, acted, accepted, refusal, outcome, step}
use Rattle.station_model.specs.Station as Model
use Rattle.station_model.specs.Watch.{gone, departures}
use Rattle.station_model.proofs.Books.{by_cause}
use Rattle.station_model.proofs.Starts.{one_acted}
use Rattle.station_model.proofs.Ledger.{fair_acted, books_fresh}
use Rattle.station.specs.declared.Station.{Station}
use Rattle.station.specs.View.{view}
use Rattle.station.specs.Parts.{Booked, Steady}

pub booked_accepted : (k : Settings) (m : Model.Station) (e : Event) → m.accepted < 4294967295 → Booked m → Booked (accepted m (acted k m e)).station
booked_accepted k m e below b =
    let a = acted k m e in
    let f = b.few in
    let x = fair_acted k m e (omega arith) in
    let one = one_acted k m e in
    let g = x.balanced in
    record {
      once = λ n. omega (arith, b.once n, x.kept n);
      few = omega arith;
      balance = omega (arith, b.balance, by_cause a.told.left);
    }

pub booked_fresh : (width : ℕ) (switching : Bool) → Booked (fresh width switching)
unfolding departures gone
booked_fresh width switching =
    let b = books_fresh width switching in
    record { once = λ n. omega (arith, b.once n); few = omega arith; balance = refl }

-- a call that no refusal meets is what its event does
pub step_accepted : (k : Settings) (m : Model.Station) (e : Event) → refusal m e ≡ 0 → accepted m (acted k m e) ≡ step k m e
unfolding step
step_accepted k m e z = sym (ap (outcome k m e) z)

-- ---- a start
abbrev none : Counts
none = record { twins = 0; outscored = 0; aged = 0; replaced = 0; cleared = 0 }

module _ (width : ℕ) (switching : Bool) (p : SpeedTracker) (b : TimingBank) (n : Counts)
    (x : (Tracked.view p ≡ Tracking.fresh) × T (sound standard p)) (y : Banked.view b ≡ fresh_bank width switching) (t : Sturdy b) (z : n ≡ none) where
  abbrev started : Station
  started = record { primary = p; serial = 0; bank = b; counts = n; accepted = 0 }

  is : view started ≡ fresh width switching
  is = λ i. record { primary = x.0 i; serial = 0; bank = y i; counts = z i; accepted = 0 }

  pub fresh_is : (view started ≡ fresh width switching) × Steady started
  fresh_is = (is, record { solid = record { primary = x.1; bank = t; books = subst Booked (sym is) (booked_fresh width switching) }; unready = λ e. ap (λ (m : Model.Station). m.bank.pending) is })
