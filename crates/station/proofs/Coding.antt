-- The code of a switch follows from the primary's serial, before and after. Assumes nothing.
use mathlib.Core.Path.{◌≡◌, refl, ap}
use mathlib.Core.Logic.{◌≢◌}
use mathlib.Core.Bool.{Bool, cond}
use mathlib.Core.Option.{Option, none, some}
use Prim.Native.Nat.{ℕ}
use native.Mathlib.Omega.{arith}
use borrow.Author.Tests.{eq-eqb, ne_eqb}
use lib.Dec.{eqb}
use lib.ListN.{get_elem?}
use Rattle.tracker.specs.Model.{Tracker}
use Rattle.bank_model.specs.Model.{Hyp, Bank}
use Rattle.bank_model.specs.Steps.{Taken, on, exchanged, unpended, observed, untaken, taken_at, taken_of, take_switch}
use Rattle.station_model.specs.declared.Code.TheVariants.{Switched, Nothing}
use Rattle.station_model.specs.Station.{switch_act}
use Rattle.station_model.specs.Station as Model
use Rattle.station_model.proofs.Lists.{by_cond, in_at}
use Rattle.station_model.proofs.Books.{in_among, ind_eq}
use Rattle.station.specs.Parts.{Booked}

-- ---- a switch: no serial is held twice
module _ (m : Model.Station) (u : Booked m) where
  abbrev p : Tracker
  p = m.primary

  abbrev Right : Taken → Type 0
  Right t = cond (eqb t.serial m.serial) Nothing Switched ≡ (switch_act t).code

  coded_stays : (b : Bank) → Right (untaken b p m.serial)
  coded_stays b = ap (λ (x : Bool). cond x Nothing Switched) (eq-eqb m.serial m.serial refl)

  coded_moves : (i : ℕ) (c : Hyp) → get_elem? m.bank.challengers i ≡ some c → Right (exchanged m.bank p m.serial i c)
  coded_moves i c f = ap (λ (x : Bool). cond x Nothing Switched) (ne_eqb c.serial m.serial apart)
    where
      apart : c.serial ≢ m.serial
      apart z = omega (arith, u.once c.serial, in_among c m.bank.challengers (in_at m.bank.challengers i c f), ind_eq c.serial m.serial z)

  coded_at : (i : ℕ) (o : Option Hyp) → get_elem? m.bank.challengers i ≡ o → Right (taken_at m.bank p m.serial i o)
  coded_at i none f = coded_stays (unpended m.bank m.bank.challengers m.bank.log)
  coded_at i (some c) f = by_cond Right m.bank.switching (λ x. coded_moves i c f) (λ x. coded_stays (observed m.bank p i c))

  coded_of : (o : Option ℕ) → Right (taken_of m.bank p m.serial o)
  coded_of none = coded_stays m.bank
  coded_of (some i) = coded_at i (get_elem? m.bank.challengers i) refl

  pub coded_switch : Right (take_switch m.bank p m.serial)
  unfolding take_switch
  coded_switch = by_cond Right (on m.bank) (λ x. coded_of m.bank.pending) (λ x. coded_stays m.bank)
