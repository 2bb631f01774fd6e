-- A start. Assumes nothing.
use mathlib.Core.Path.{◌≡◌, refl, ap, sym, ◌∙◌}
use mathlib.Core.Bool.{Bool, true, false, cond}
use Prim.Native.Nat.{ℕ}
use lib.Dec.{leb}
use Rattle.ranges.specs.Settings.{standard}
use Rattle.std.specs.Prelude.{Result}
use Rattle.refusals.specs.declared.Refusal.{Refusal}
use Rattle.refusals.specs.Refusal.{coded, refusal_of}
use Rattle.bank_model.specs.Departures.{widest}
use Rattle.station_model.specs.Station.{fresh}
use Rattle.station.specs.declared.Station.{Station}
use Rattle.station.specs.Answers as Stations
use Rattle.plain_station.specs.declared.PlainStation.{PlainStation}
use Rattle.plain_station.specs.Plain.{plain_station}
use Rattle.hullathan.specs.Host.{switches}
use Rattle.hullathan.specs.Promise.{Begins}
use Rattle.hullathan.proofs.Forms.{form_means}
use Rattle.hullathan.proofs.Promising.{promises}

width_code : (b : Bool) → coded (cond b 0 3) ≡ cond b 0 131
width_code true = refl
width_code false = refl

fresh_of : (b : Bool) (width : ℕ) (switching : Bool) → fresh (cond b width 1) (cond b switching false) ≡ cond b (fresh width switching) (fresh 1 false)
fresh_of true width switching = refl
fresh_of false width switching = refl

pub begun : (width n : ℕ) (on : Bool) (why : Result (Unit {0}) Refusal) (s : Station) (code : ℕ) (q : PlainStation)
    → on ≡ switches n → code ≡ coded (refusal_of why) → q ≡ plain_station s
    → Stations.Begins standard width on why s → Begins width n code q
begun width n on why s code q o c e h =
    let m = form_means s q _ e (h.state ∙ ap (λ (b : Bool). cond (leb width widest) (fresh width b) (fresh 1 false)) o) h.still in
    record {
      says = c ∙ ap coded h.says ∙ width_code (leb width widest);
      state = m.state;
      still = m.still;
      neat = m.neat;
      promise = promises _ _ q m.still (m.state ∙ sym (fresh_of (leb width widest) width (switches n)));
    }
