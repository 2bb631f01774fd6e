-- The loop over a batch. Assumes nothing.
use mathlib.Core.Path.{◌≡◌, refl, ap, sym, ◌∙◌, subst}
use mathlib.Core.Bool.{Bool, true, false, cond, true≢false, ◌||◌, ◌&&◌}
use mathlib.Core.List.{List, [], ◌∷◌, ◌++◌, map}
use mathlib.Core.Option.{Option, some}
use Prim.Native.Nat.{ℕ, suc, ◌+◌, ◌≤◌, ◌<◌}
use native.Mathlib.Numerals.{add-one}
use native.Mathlib.Omega.{arith}
use native.Mathlib.Decide.{dec_le}
use native.Mathlib.Nat.{lt_of_not-le}
use borrow.Author.Tests.{eq-eqb, ne_eqb, le-leb, lt-leb}
use lib.Dec.{eqb, leb}
use lib.ListN.{length, take, get_or, set}
use lib.Seq.{take-suc}
use Rattle.std.proofs.lemmas.List.{length-map, length-take-le, map-append}
use Rattle.refusals.specs.Refusal.{coded, refusal_of}
use Rattle.bank_model.specs.Departures.{most_left}
use Rattle.station_model.specs.declared.Event.{Event}
use Rattle.station_model.specs.Station.{taken}
use Rattle.station_model.specs.Station as Model
use Rattle.station.specs.declared.Station.{Station}
use Rattle.station.specs.View.{view}
use Rattle.station.specs.declared.Outcome.{Outcome}
use Rattle.station.specs.Parts.{Next, Solid, Steady}
use Rattle.station.proofs.Sounding.{solid_sound}
use Rattle.plain_station.specs.declared.PlainStation.{PlainStation}
use Rattle.plain_station.specs.Plain.{plain_station, station_of}
use Rattle.hullathan.specs.declared.PlainAnswer.{PlainAnswer}
use Rattle.hullathan.specs.declared.PlainBatch.{PlainBatch}
use Rattle.hullathan.specs.declared.PlainEvent.{PlainEvent}
use Rattle.hullathan.specs.declared.Ran.{Ran}
use Rattle.hullathan.specs.Host.{Few, Neat, Runs, after, any_taken, asked, good, meant, of_event, outcomes, over, row_of, runnable, with_answers}
use Rattle.hullathan.specs.Parts.{Along, Kept, Means, Row, Told}
use Rattle.hullathan.proofs.Asking.{asked_sorts}
use Rattle.hullathan.proofs.Calling.{next_told}
use Rattle.hullathan.proofs.Forms.{form_means}

-- ---- one event more

abbrev Events : Type 0
Events = List (Option Event)

after_snoc : (m : Model.Station) (l : Events) (e : Option Event) → after m (l ++ (e ∷ [])) ≡ (asked (after m l) e).station
unfolding after
after_snoc m [] e = refl
after_snoc m (d ∷ l) e = after_snoc (asked m d).station l e

outcomes_snoc : (m : Model.Station) (l : Events) (e : Option Event) → outcomes m (l ++ (e ∷ [])) ≡ outcomes m l ++ (asked (after m l) e ∷ [])
unfolding after outcomes
outcomes_snoc m [] e = refl
outcomes_snoc m (d ∷ l) e = ap (λ (r : List Model.Outcome). asked m d ∷ r) (outcomes_snoc (asked m d).station l e)

pub outcomes_long : (m : Model.Station) (l : Events) → length (outcomes m l) ≡ length l
unfolding outcomes
outcomes_long m [] = refl
outcomes_long m (e ∷ l) = ap suc (outcomes_long (asked m e).station l)

few_snoc : (l : List Model.Outcome) (o : Model.Outcome) → Few l → length o.answer.departures ≤ most_left → Few (l ++ (o ∷ []))
unfolding Few
few_snoc [] o f h = (h, tt)
few_snoc (x ∷ l) o f h = (f.0, few_snoc l o f.1 h)

over_snoc : {A : Type 0} (l old : List A) (x : A) → length l < length old → set (over l old) (length l) x ≡ over (l ++ (x ∷ [])) old
unfolding over
over_snoc [] [] x h = absurd (omega arith)
over_snoc [] (y ∷ old) x h = refl
over_snoc (z ∷ l) [] x h = absurd (omega arith)
over_snoc (z ∷ l) (y ∷ old) x h = ap (λ r. z ∷ r) (over_snoc l old x (omega arith))

-- ---- the loop: the first i events are answered
module _ (s : Station) (b : PlainBatch) where
  abbrev pub first_events : ℕ → Events
  first_events i = map of_event (take i b.events)

  abbrev first_rows : ℕ → List PlainAnswer
  first_rows i = map row_of (outcomes (view s) (first_events i))

  pub record Running (c : Station) (out : PlainBatch) (i : ℕ) : Type 0 where
    pub upto : i ≤ b.len
    pub most : b.len ≤ 64
    pub events : length b.events ≡ 64
    pub answers : length b.answers ≡ 64
    pub solid : Solid c
    pub state : view c ≡ after (view s) (first_events i)
    pub told : out ≡ with_answers b (first_rows i)
    pub few : Few (outcomes (view s) (first_events i))

  pub run_begins : Solid s → b.len ≤ 64 → length b.events ≡ 64 → length b.answers ≡ 64 → Running s b 0
  unfolding after outcomes over Few
  run_begins h k e a = record { upto = omega arith; most = k; events = e; answers = a; solid = h; state = refl; told = refl; few = tt }

  next_events : (i : ℕ) (z : PlainEvent) → i < length b.events → first_events (i + 1) ≡ first_events i ++ (of_event (get_or b.events i z) ∷ [])
  next_events i z h = rw add-one (ap (map of_event) (take-suc b.events i z h)) ∙ map-append of_event (take i b.events) (get_or b.events i z ∷ [])

  rows_long : (i : ℕ) → i ≤ length b.events → length (first_rows i) ≡ i
  rows_long i h =
      length-map (outcomes (view s) (first_events i)) row_of ∙ outcomes_long (view s) (first_events i)
      ∙ length-map (take i b.events) of_event ∙ length-take-le i b.events h

  abbrev stored : PlainBatch → ℕ → PlainAnswer → PlainBatch
  stored o i x = record { len = o.len; events = o.events; answers = set o.answers i x }

  pub run_turns : (c t : Station) (out : PlainBatch) (i : ℕ) (z : PlainEvent) (x : PlainAnswer)
      → i < b.len → Running c out i → Told c (of_event (get_or b.events i z)) t x → Running t (stored out i x) (i + 1)
  run_turns c t out i z x h v w =
      let k = v.most in
      let ev = v.events in
      let an = v.answers in
      let e = of_event (get_or b.events i z) in
      let m = after (view s) (first_events i) in
      let next = next_events i z (omega arith) in
      let made : outcomes (view s) (first_events (i + 1)) ≡ outcomes (view s) (first_events i) ++ (asked m e ∷ []) = ap (outcomes (view s)) next ∙ outcomes_snoc (view s) (first_events i) e in
      let long : length (first_rows i) ≡ i = rows_long i (omega arith) in
      let x-is : x ≡ row_of (asked m e) = w.row ∙ ap (λ (y : Model.Station). row_of (asked y e)) v.state in
      let rows : first_rows (i + 1) ≡ first_rows i ++ (x ∷ []) =
      ap (map row_of) made ∙ map-append row_of (outcomes (view s) (first_events i)) (asked m e ∷ []) ∙ ap (λ (y : PlainAnswer). first_rows i ++ (y ∷ [])) (sym x-is) in
      record {
        upto = omega arith;
        most = k;
        events = ev;
        answers = an;
        solid = w.solid;
        state = w.state ∙ ap (λ (y : Model.Station). (asked y e).station) v.state ∙ sym (ap (after (view s)) next ∙ after_snoc (view s) (first_events i) e);
        told = ap (λ (o : PlainBatch). stored o i x) v.told
            ∙ ap (λ (l : List PlainAnswer). record { len = b.len; events = b.events; answers = l })
            (ap (λ (j : ℕ). set (over (first_rows i) b.answers) j x) (sym long) ∙ over_snoc (first_rows i) b.answers x (omega arith) ∙ ap (λ (l : List PlainAnswer). over l b.answers) (sym rows));
        few = subst Few (sym made) (few_snoc _ _ v.few (subst (λ (y : Model.Station). length (asked y e).answer.departures ≤ most_left) v.state w.few));
      }

  pub run_ends : (c : Station) (out : PlainBatch) (i : ℕ) (r : Ran) → b.len ≤ i → Running c out i
      → (refusal_of r.told ≡ 0) × ((r.station ≡ plain_station c) × (r.batch ≡ out)) → Along s b r
  run_ends c out i r h v e =
      let k = v.upto in
      let j : i ≡ b.len = omega arith in
      record {
        done = e.0;
        told = e.1.1 ∙ v.told ∙ ap (λ (m : ℕ). with_answers b (first_rows m)) j;
        few = subst (λ (m : ℕ). Few (outcomes (view s) (first_events m))) j v.few;
        means = form_means c r.station _ e.1.0 (v.state ∙ ap (λ (m : ℕ). after (view s) (first_events m)) j) (solid_sound c v.solid);
      }

-- one event more, by one of the short ways
pub along_turns : (s : Station) (b : PlainBatch) (c : Station) (out : PlainBatch) (i : ℕ) (z : PlainEvent) (v : Event)
    (o : Outcome) (x : PlainAnswer) → i < b.len → Steady c × Running s b c out i
    → some v ≡ of_event (get_or b.events i z) → Next c v o → Row o.answer o.station x
    → Steady o.station × Running s b o.station
    (record { len = out.len; events = out.events; answers = set out.answers i x }) (i + 1)
along_turns s b c out i z v o x h w e m r =
    let a = next_told c v _ o x w.0 e m r in
    (a.0, run_turns s b c o.station out i z x h w.1 a.1)

-- ---- the station counts what was accepted

neither : (a b : Bool) → (a || b) ≡ false → (a ≡ false) × (b ≡ false)
neither true b h = absurd (true≢false h)
neither false b h = (refl, h)

none_taken : (m : Model.Station) (l : Events) → any_taken (outcomes m l) ≡ false → after m l ≡ m
unfolding after outcomes any_taken
none_taken m [] h = refl
none_taken m (e ∷ l) h =
    let a = neither (taken (asked m e).answer.code) (any_taken (outcomes (asked m e).station l)) h in
    none_taken (asked m e).station l a.1 ∙ (asked_sorts m e).same a.0

-- two cases of a test
by_test : {P : Type 0} (b : Bool) → (b ≡ true → P) → (b ≡ false → P) → P
by_test true f g = f refl
by_test false f g = g refl

no_fewer : (m : Model.Station) (e : Option Event) → m.accepted ≤ (asked m e).station.accepted
no_fewer m e =
    by_test (taken (asked m e).answer.code)
    (λ t. (let c = (asked_sorts m e).counts t in omega arith))
    (λ t. (let c = ap (λ (z : Model.Station). z.accepted) ((asked_sorts m e).same t) in omega arith))

none_fewer : (m : Model.Station) (l : Events) → m.accepted ≤ (after m l).accepted
unfolding after
none_fewer m [] = omega arith
none_fewer m (e ∷ l) = let a = no_fewer m e in let b = none_fewer (asked m e).station l in omega arith

some_taken : (m : Model.Station) (l : Events) → any_taken (outcomes m l) ≡ true → m.accepted < (after m l).accepted
unfolding after outcomes any_taken
some_taken m [] h = absurd (true≢false (sym h))
some_taken m (e ∷ l) h =
    by_test (taken (asked m e).answer.code)
    (λ t. (let c = (asked_sorts m e).counts t in let b = none_fewer (asked m e).station l in omega arith))
    (λ t.
    (let c = ap (λ (z : Model.Station). z.accepted) ((asked_sorts m e).same t) in
    let rest = subst (λ (b : Bool). (b || any_taken (outcomes (asked m e).station l)) ≡ true) t h in
    let b = some_taken (asked m e).station l rest in
    omega arith))

-- ---- the form that is left: the one handed in where nothing was accepted

record Stands (p : PlainStation) (l : Events) (q : PlainStation) : Type 0 where
  state : meant q ≡ after (meant p) l
  still : good q ≡ true
  kept : any_taken (outcomes (meant p) l) ≡ false → q ≡ p
  neat : any_taken (outcomes (meant p) l) ≡ true → Neat q

module _ (p : PlainStation) (l : Events) (x q : PlainStation) (w : Means x (after (meant p) l)) where
  counted : x.accepted ≡ (after (meant p) l).accepted
  counted = ap (λ (z : Model.Station). z.accepted) w.state

  stands_new : q ≡ cond (eqb x.accepted p.accepted) p x → any_taken (outcomes (meant p) l) ≡ true → Stands p l q
  stands_new e t =
      let a = some_taken (meant p) l t in
      let b = counted in
      let more : x.accepted ≡ p.accepted → ⊥ = λ z. omega arith in
      let is : q ≡ x = e ∙ rw (ne_eqb x.accepted p.accepted more) in
      record {
        state = ap meant is ∙ w.state;
        still = ap good is ∙ w.still;
        kept = λ f. absurd (true≢false (sym t ∙ f));
        neat = λ f. subst Neat (sym is) w.neat;
      }

  stands_old : good p ≡ true → q ≡ cond (eqb x.accepted p.accepted) p x → any_taken (outcomes (meant p) l) ≡ false → Stands p l q
  stands_old g e t =
      let same = none_taken (meant p) l t in
      let as_many : x.accepted ≡ p.accepted = ap (λ (z : Model.Station). z.accepted) (w.state ∙ same) in
      let is : q ≡ p = e ∙ rw (eq-eqb x.accepted p.accepted as_many) in
      record {
        state = ap meant is ∙ sym same;
        still = ap good is ∙ g;
        kept = λ f. is;
        neat = λ f. absurd (true≢false (sym f ∙ t));
      }

  stands : good p ≡ true → q ≡ cond (eqb x.accepted p.accepted) p x → Stands p l q
  stands g e = by_test (any_taken (outcomes (meant p) l)) (stands_new e) (stands_old g e)

-- ---- a batch on a form

pub runs_good : (p : PlainStation) (b : PlainBatch) (s : Station) (r a : Ran) → b.len ≤ 64 → good p ≡ true → s ≡ station_of p
    → Along s b r → Kept p r a → Runs p b (coded (refusal_of a.told)) a.station a.batch
runs_good p b s r a k i f h e =
    let d = subst (λ (z : Station). Along z b r) f h in
    let yes : runnable p b ≡ true = rw (le-leb b.len 64 k, i) in
    let w = stands p (map of_event (take b.len b.events)) r.station a.station d.means i e.station in
    record {
      unsound = λ z. absurd (true≢false (sym yes ∙ z));
      done = λ z. ap coded (ap refusal_of e.told ∙ d.done);
      told = λ z. e.batch ∙ d.told;
      few = λ z. d.few;
      state = λ z. w.state;
      still = λ z. w.still;
      kept = λ z. w.kept;
      neat = λ z. w.neat;
    }

pub runs_not : (p : PlainStation) (b : PlainBatch) → runnable p b ≡ false → Runs p b 129 p b
runs_not p b i =
    let never : runnable p b ≡ true → ⊥ = λ z. true≢false (sym z ∙ i) in
    record {
      unsound = λ z. (refl, refl, refl);
      done = λ z. absurd (never z);
      told = λ z. absurd (never z);
      few = λ z. absurd (never z);
      state = λ z. absurd (never z);
      still = λ z. absurd (never z);
      kept = λ z. absurd (never z);
      neat = λ z. absurd (never z);
    }

pub not_sound : (p : PlainStation) (b : PlainBatch) → good p ≡ false → runnable p b ≡ false
not_sound p b i = go (leb b.len 64)
  where
    go : (x : Bool) → (x && good p) ≡ false
    go true = i
    go false = refl

pub not_few : (p : PlainStation) (b : PlainBatch) → 64 < b.len → runnable p b ≡ false
not_few p b h = rw (lt-leb b.len 64 h)

pub runnable_few : (p : PlainStation) (b : PlainBatch) → runnable p b ≡ true → b.len ≤ 64
runnable_few p b i = go (dec_le b.len 64)
  where
    go : Dec (b.len ≤ 64) → b.len ≤ 64
    go (yes h) = h
    go (no h) = absurd (true≢false (sym i ∙ not_few p b (lt_of_not-le h)))
