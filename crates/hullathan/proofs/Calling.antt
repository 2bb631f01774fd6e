-- What one call hands back is what its contract says. Assumes nothing.
use mathlib.Core.Path.{◌≡◌, refl, ap, sym, ◌∙◌, subst}
use mathlib.Core.Bool.{Bool, true, false, cond, true≢false}
use mathlib.Core.Option.{Option, none, some}
use Prim.Native.Nat.{◌≤◌}
use native.Mathlib.Omega.{arith}
use lib.ListN.{length}
use Rattle.std.proofs.lemmas.List.{length-take}
use Rattle.bank_model.specs.Departures.{most_left}
use Rattle.station_model.specs.declared.Event.{Event}
use Rattle.station_model.specs.Station.{number, taken}
use Rattle.station_model.specs.Station as Model
use Rattle.station.specs.declared.Station.{Station}
use Rattle.station.specs.declared.Outcome.{Outcome}
use Rattle.station.specs.View.{outcome, view}
use Rattle.station.specs.Parts.{Next, Steady}
use Rattle.station.proofs.Sounding.{solid_sound}
use Rattle.plain_station.specs.declared.PlainStation.{PlainStation}
use Rattle.plain_station.specs.Plain.{plain_station, station_of}
use Rattle.hullathan.specs.declared.PlainAnswer.{PlainAnswer}
use Rattle.hullathan.specs.declared.Called.{Called}
use Rattle.hullathan.specs.Host.{Answers, asked, good, meant, row_of}
use Rattle.hullathan.specs.Parts.{Handed, Row, Told, Turns}
use Rattle.hullathan.proofs.Asking.{asked_sorts, turns_next}
use Rattle.hullathan.proofs.Forms.{form_means}
use Rattle.hullathan.proofs.Rows.{row_is}

abbrev code_taken : Model.Outcome → Bool
code_taken o = taken o.answer.code

-- ---- what a turn says of those that left
pub turn_few : (s : Station) (e : Option Event) (o : Outcome) → Turns s e o → length (asked (view s) e).answer.departures ≤ most_left
turn_few s e o h =
    let g = o.answer.gone in
    subst (λ (m : Model.Outcome). length m.answer.departures ≤ most_left) h.is (omega (arith, g.listed.few, length-take g.left_len g.left))

-- ---- one event of a batch
pub told_as_law : (s : Station) (e q : Option Event) (o : Outcome) (r : PlainAnswer) → q ≡ e → Turns s q o → r ≡ row_of (outcome o) → Told s e o.station r
told_as_law s e q o r k h f = subst (λ (z : Option Event). Told s z o.station r) k (record { solid = h.solid; state = ap (λ (m : Model.Outcome). m.station) h.is; row = f ∙ ap row_of h.is; few = turn_few s q o h })

-- an event of the loop that goes the short ways
pub next_told : (s : Station) (v : Event) (e : Option Event) (o : Outcome) (r : PlainAnswer) → Steady s → some v ≡ e → Next s v o
    → Row o.answer o.station r → Steady o.station × Told s e o.station r
next_told s v e o r h k n f =
    (n.steady, told_as_law s e (some v) o r k (turns_next s v o h n) (row_is o r n.steady.solid f))

-- one that no event has: the station stays
pub none_told : (s : Station) (e : Option Event) (r : PlainAnswer) → Steady s → none ≡ e → r ≡ row_of (asked (view s) none) → Steady s × Told s e s r
unfolding asked
none_told s e r h k f =
    (h, subst (λ (z : Option Event). Told s z s r) k (record { solid = h.solid; state = refl; row = f; few = omega arith }))

-- ---- a call on a sound station
pub handed : (p : PlainStation) (s : Station) (e : Option Event) (o : Outcome) (r : PlainAnswer) (q : PlainStation) → Turns s e o → r ≡ row_of (outcome o)
    → q ≡ cond (taken o.answer.code) (plain_station o.station) p → Handed p s e (record { station = q; answer = r })
handed p s e o r q h f g =
    let code : code_taken (outcome o) ≡ code_taken (asked (view s) e) = ap code_taken h.is in
    record {
      told = f ∙ ap row_of h.is;
      few = turn_few s e o h;
      kept = λ z. g ∙ rw (code ∙ z);
      went = λ z. form_means o.station q _ (g ∙ rw (code ∙ z)) (ap (λ (m : Model.Outcome). m.station) h.is) (solid_sound o.station h.solid);
    }

-- what was found after a turn
abbrev pub Finds : PlainStation → Outcome → Called → Type 0
Finds p o r = (r.answer ≡ row_of (outcome o)) × (r.station ≡ cond (taken o.answer.code) (plain_station o.station) p)

pub turn_handed : (p : PlainStation) (s : Station) (e : Option Event) (o : Outcome) (r : Called) → Turns s e o → Finds p o r → Handed p s e r
turn_handed p s e o r t f = handed p s e o r.answer r.station t f.0 f.1

-- ---- a form that is a sound station's
module _ (p : PlainStation) (e : Option Event) (r : Called) (i : good p ≡ true) (h : Handed p (station_of p) e r) where
  abbrev After : Type 0
  After = (meant r.station ≡ (asked (meant p) e).station) × (good r.station ≡ true)

  after : (b : Bool) → code_taken (asked (meant p) e) ≡ b → After
  after true z = ((h.went z).state, (h.went z).still)
  after false z = let k = h.kept z in (ap meant k ∙ sym ((asked_sorts (meant p) e).same z), ap good k ∙ i)

  answers_good : Answers e p r.answer r.station
  answers_good = record {
    unsound = λ f. absurd (true≢false (sym i ∙ f));
    told = λ f. h.told;
    few = λ f. h.few;
    kept = λ f. h.kept;
    state = λ f. (after (code_taken (asked (meant p) e)) refl).0;
    still = λ f. (after (code_taken (asked (meant p) e)) refl).1;
    neat = λ f z. (h.went z).neat;
  }

-- read from it
pub answers_on : (p : PlainStation) (s : Station) (e g : Option Event) (r : Called) → good p ≡ true → s ≡ station_of p → g ≡ e → Handed p s g r → Answers e p r.answer r.station
answers_on p s e g r i f k h = answers_good p e r i (subst (λ (z : Option Event). Handed p (station_of p) z r) k (subst (λ (z : Station). Handed p z g r) f h))
