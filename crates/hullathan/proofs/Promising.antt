-- Demand 3 of every list of calls and batches: what their contracts say is all that it takes. Assumes nothing.
use mathlib.Core.Path.{◌≡◌, refl, ap, sym, ◌∙◌, subst}
use mathlib.Core.Bool.{Bool, true, false, cond}
use mathlib.Core.List.{List, [], ◌∷◌, map}
use mathlib.Core.Option.{Option, none, some}
use Prim.Native.Nat.{ℕ, zero, suc, ◌+◌, ◌-◌, ◌≤◌}
use native.Mathlib.Omega.{arith}
use borrow.Author.Tests.{le-leb}
use lib.Dec.{T, eqb}
use lib.Ieee.{Float, binary32, fits}
use lib.ListN.{length, take}
use Rattle.refusals.specs.declared.Refusal.{Refusal}
use Rattle.refusals.specs.Refusal.{of_number, number as refused}
use Rattle.station_model.proofs.Naming.{numbered}
use Rattle.ranges.specs.Settings.{standard}
use Rattle.ranges.proofs.Standard.{standard_good, standard_held}
use Rattle.bank_model.specs.declared.Cause.{Cause}
use Rattle.bank_model.specs.declared.Cause.TheVariants.{Twin, Outscored, Aged, Replaced, Cleared}
use Rattle.bank_model.specs.declared.Departure.{Departure}
use Rattle.bank_model.specs.Departures.{most_left}
use Rattle.station_model.specs.declared.Code.{Code}
use Rattle.station_model.specs.declared.Code.TheVariants.{Done, BecameReady, Switched, Nothing, Refused}
use Rattle.station_model.specs.declared.Event.{Event}
use Rattle.station_model.specs.Station.{fresh, ready, step}
use Rattle.station_model.specs.Station as Model
use Rattle.station_model.specs.Watch.{Call, Carries, Ran, RanFrom, Settled, Stepped, Watch}
use Rattle.station_model.proofs.Lists.{by_cond}
use Rattle.station_model.proofs.Whole.{program_watch}
use Rattle.station.proofs.Watching.{same}
use Rattle.plain.specs.declared.PlainDeparture.{PlainDeparture}
use Rattle.plain.specs.Plain.{cause_code, no_departure, plain_departure}
use Rattle.plain_station.specs.declared.PlainStation.{PlainStation}
use Rattle.hullathan.specs.declared.PlainAnswer.{PlainAnswer}
use Rattle.hullathan.specs.declared.PlainBatch.{PlainBatch}
use Rattle.hullathan.specs.declared.PlainEvent.{PlainEvent}
use Rattle.hullathan.specs.Host.{Answers, Few, after, asked, code_number, event_of, good, meant, of_event, outcomes, over, padded, row_of, runnable}
use Rattle.hullathan.proofs.Asking.{quiet_choice}
use Rattle.std.proofs.lemmas.List.{length-map, length-take-le}
use Rattle.hullathan.proofs.Running.{outcomes_long, runnable_few}
use Rattle.hullathan.specs.Promise.{AllFit, Batched, CodesIn, Did, EachCode, Promised, Turn, TurnedFrom, add_call, after_one, answer_of, answers_of, batch, before, call, calls_in, calls_on, cause_of, code_of, departure_of, events_of, left}

-- ---- numbers, read back

refused_back : (r : Refusal) → code_of (128 + refused r) ≡ Refused r
refused_back r =
    let n = refused r in
    let e : 128 + n - 128 ≡ n = omega arith in
    rw (le-leb 128 (128 + n) (omega arith)) (ap (λ (m : ℕ). Refused (of_number m)) e ∙ ap Refused (numbered r).is)

code_back : (c : Code) → code_of (code_number c) ≡ c
code_back Done = refl
code_back BecameReady = refl
code_back Switched = refl
code_back Nothing = refl
code_back (Refused r) = refused_back r

-- a row's code is the number of the code that it is read as
rows_coded : (l : List Model.Outcome) → EachCode (map row_of l)
unfolding EachCode
rows_coded [] = tt
rows_coded (o ∷ l) = (sym (ap code_number (code_back o.answer.code)), rows_coded l)

cause_back : (c : Cause) → cause_of (cause_code c) ≡ c
cause_back Twin = refl
cause_back Outscored = refl
cause_back Aged = refl
cause_back Replaced = refl
cause_back Cleared = refl

abbrev gone : ℕ → Cause → Departure
gone n c = record { serial = n; cause = c }

left_back : (l : List Departure) → map departure_of (map plain_departure l) ≡ l
left_back [] = refl
left_back (d ∷ l) = λ i. gone d.serial (cause_back d.cause i) ∷ left_back l i

take_padded : (k : ℕ) (l : List Departure) → length l ≤ k → take (length l) (padded no_departure k (map plain_departure l)) ≡ map plain_departure l
unfolding padded
take_padded k [] h = refl
take_padded zero (d ∷ l) h = absurd (omega arith)
take_padded (suc k) (d ∷ l) h = ap (λ (r : List PlainDeparture). plain_departure d ∷ r) (take_padded k l (omega arith))

abbrev an_answer : Code → List Departure → Model.Answer
an_answer c l = record { code = c; departures = l }

row_back : (o : Model.Outcome) → length o.answer.departures ≤ most_left → answer_of (row_of o) ≡ o.answer
row_back o h = λ i. an_answer (code_back o.answer.code i) ((ap (map departure_of) (take_padded most_left o.answer.departures h) ∙ left_back o.answer.departures) i)

-- ---- a station of a watch is never refused by 1

settled_asked : (m : Model.Station) (e : Event) → Settled m → asked m (some e) ≡ step standard m e
unfolding asked
settled_asked m e s = rw (quiet_choice m e s.unready)

-- ---- one call, on what it means: the station after it, and the row that the host found

record Returned : Type 0 where
  pub after : Model.Station
  pub row : PlainAnswer

abbrev afterwards : Returned → Model.Station
afterwards r = r.after

abbrev itself : Model.Station → Model.Station
itself m = m

abbrev answered : Returned → Model.Answer
answered r = answer_of r.row

abbrev Called : Model.Station → Event → Returned → Type 0
Called m e r = (r.after ≡ (asked m (some e)).station) × (answer_of r.row ≡ (asked m (some e)).answer)

abbrev Any : Model.Station → Type 0
Any m = Unit {0}

contract : (m : Model.Station) (e : Event) (r : Returned) → Any m → Settled m → Carries e → Called m e r → Any r.after × Stepped standard m e r.after (answered r)
contract m e r h s c k = (tt, record { station = k.0 ∙ ap (λ (o : Model.Outcome). o.station) (settled_asked m e s); answer = same (k.1 ∙ ap (λ (o : Model.Outcome). o.answer) (settled_asked m e s)) })

-- ---- a turn, call by call

abbrev Runs : Type 0
Runs = List (Ran Model.Station Returned)

abbrev add_run : Option Event → PlainAnswer → Model.Station → Model.Station → Runs → Runs
add_run none r m n earlier = earlier
add_run (some e) r m n earlier = record { before = m; event = e; returned = record { after = n; row = r } } ∷ earlier

ran_on : Model.Station → Model.Station → List PlainEvent → List PlainAnswer → Runs → Runs
ran_on m n [] rs earlier = earlier
ran_on m n (e ∷ es) [] earlier = earlier
ran_on m n (e ∷ es) (r ∷ rs) earlier =
    let given = (asked m (of_event e)).station in
    ran_on given n es rs (add_run (of_event e) r m (after_one given n es) earlier)

ran_in : List Turn → Runs
ran_in [] = []
ran_in (t ∷ earlier) = ran_on (meant (before t)) (meant (left t)) (events_of t) (answers_of t) (ran_in earlier)

abbrev as_call : Ran Model.Station Returned → Call
as_call c = record { event = c.event; answer = answered c.returned; before = c.before; after = c.returned.after }

add_viewed : (o : Option Event) (r : PlainAnswer) (m n : Model.Station) (l : Runs)
    → map as_call (add_run o r m n l) ≡ add_call o r m n (map as_call l)
add_viewed none r m n l = refl
add_viewed (some e) r m n l = refl

on_viewed : (m n : Model.Station) (es : List PlainEvent) (rs : List PlainAnswer) (l : Runs)
    → map as_call (ran_on m n es rs l) ≡ calls_on m n es rs (map as_call l)
unfolding ran_on calls_on
on_viewed m n [] rs l = refl
on_viewed m n (e ∷ es) [] l = refl
on_viewed m n (e ∷ es) (r ∷ rs) l =
    let given = (asked m (of_event e)).station in
    on_viewed given n es rs (add_run (of_event e) r m (after_one given n es) l)
    ∙ ap (calls_on given n es rs) (add_viewed (of_event e) r m (after_one given n es) l)

in_viewed : (turns : List Turn) → map as_call (ran_in turns) ≡ calls_in turns
unfolding ran_in calls_in
in_viewed [] = refl
in_viewed (t ∷ earlier) =
    on_viewed (meant (before t)) (meant (left t)) (events_of t) (answers_of t) (ran_in earlier)
    ∙ ap (calls_on (meant (before t)) (meant (left t)) (events_of t) (answers_of t)) (in_viewed earlier)

-- the event carries the number that was given, if it has one
abbrev CarriesAny : Option Event → Type 0
CarriesAny none = Unit {0}
CarriesAny (some e) = Carries e

carries_any : (n live : ℕ) (x : Float) → T (fits binary32 x) → CarriesAny (event_of n live x)
carries_any n live x h =
    by_cond CarriesAny (eqb n 0) (λ i. h)
    (λ i. by_cond CarriesAny (eqb n 1) (λ i. h)
    (λ i. by_cond CarriesAny (eqb n 2) (λ i. tt)
    (λ i. by_cond CarriesAny (eqb n 3) (λ i. h)
    (λ i. by_cond CarriesAny (eqb n 4) (λ i. h)
    (λ i. by_cond CarriesAny (eqb n 5) (λ i. tt)
    (λ i. by_cond CarriesAny (eqb n 6) (λ i. tt) (λ i. tt)))))))

abbrev From : Model.Station → Runs → Model.Station → Type 0
From = RanFrom afterwards Called

-- n is what the definitions give
add_from : (start : Model.Station) (o : Option Event) (m n : Model.Station) (l : Runs) → CarriesAny o
    → length (asked m o).answer.departures ≤ most_left → n ≡ (asked m o).station → From start l m
    → From start (add_run o (row_of (asked m o)) m n l) n
unfolding RanFrom asked
add_from start none m n l c h i t = subst (From start l) (sym i) t
add_from start (some e) m n l c h i t = (t, (c, (i, row_back (asked m (some e)) h)), refl)

after_given : (given n : Model.Station) (es : List PlainEvent) → n ≡ after given (map of_event es)
    → after_one given n es ≡ given
unfolding after
after_given given n [] i = i
after_given given n (e ∷ es) i = refl

on_from : (start m n : Model.Station) (es : List PlainEvent) (l : Runs) → AllFit es → Few (outcomes m (map of_event es))
    → n ≡ after m (map of_event es) → From start l m
    → From start (ran_on m n es (map row_of (outcomes m (map of_event es))) l) n
unfolding ran_on after outcomes AllFit Few
on_from start m n [] l c f i t = subst (From start l) (sym i) t
on_from start m n (e ∷ es) l c f i t =
    let o = asked m (of_event e) in
    let k = after_one o.station n es in
    let given : k ≡ o.station = after_given o.station n es i in
    on_from start o.station n es (add_run (of_event e) (row_of o) m k l) c.1 f.1 i
    (subst (From start (add_run (of_event e) (row_of o) m k l)) given
    (add_from start (of_event e) m k l (carries_any e.kind e.live e.value c.0) f.0 given t))

-- ---- a turn: what its contract says, event by event

record Turned (p : PlainStation) (es : List PlainEvent) (rs : List PlainAnswer) (q : PlainStation) : Type 0 where
  pub fit : AllFit es
  pub told : rs ≡ map row_of (outcomes (meant p) (map of_event es))
  pub few : Few (outcomes (meant p) (map of_event es))
  pub state : meant q ≡ after (meant p) (map of_event es)
  pub still : good q ≡ true

call_turned : (p : PlainStation) (e : PlainEvent) (r : PlainAnswer) (q : PlainStation) → good p ≡ true → T (fits binary32 e.value) × Answers (of_event e) p r q → Turned p (e ∷ []) (r ∷ []) q
unfolding outcomes after AllFit Few
call_turned p e r q h a = record { fit = (a.0, tt); told = ap (λ (x : PlainAnswer). x ∷ []) (a.1.told h); few = (a.1.few h, tt); state = a.1.state h; still = a.1.still h }

fit_taken : (n : ℕ) (l : List PlainEvent) → AllFit l → AllFit (take n l)
unfolding AllFit
fit_taken zero l f = tt
fit_taken (suc n) [] f = tt
fit_taken (suc n) (e ∷ l) f = (f.0, fit_taken n l f.1)

-- the answers that a batch holds then are the ones that were put
take_over : {A : Type 0} (l old : List A) (n : ℕ) → length l ≡ n → n ≤ length old → take n (over l old) ≡ l
unfolding over
take_over [] old zero h k = refl
take_over [] old (suc n) h k = absurd (omega arith)
take_over (x ∷ l) old zero h k = absurd (omega arith)
take_over (x ∷ l) [] (suc n) h k = absurd (omega arith)
take_over (x ∷ l) (y ∷ old) (suc n) h k = ap (λ r. x ∷ r) (take_over l old n (omega arith) (omega arith))

module _ (p : PlainStation) (b : PlainBatch) (code : ℕ) (q : PlainStation) (c : PlainBatch) (h : good p ≡ true) (d : Batched p b code q c) where
  ran_turned : runnable p b ≡ true → b.len ≤ 64 → Turned p (take b.len b.events) (take b.len c.answers) q
  ran_turned i k =
      let rows = map row_of (outcomes (meant p) (map of_event (take b.len b.events))) in
      let e = d.events in
      let a = d.answers in
      let long : length rows ≡ b.len =
      length-map (outcomes (meant p) (map of_event (take b.len b.events))) row_of ∙ outcomes_long (meant p) (map of_event (take b.len b.events))
      ∙ length-map (take b.len b.events) of_event ∙ length-take-le b.len b.events (omega arith) in
      record {
        fit = fit_taken b.len b.events d.fit;
        told = ap (λ (z : PlainBatch). take b.len z.answers) (d.runs.told i) ∙ take_over rows b.answers b.len long (omega arith);
        few = d.runs.few i;
        state = d.runs.state i;
        still = d.runs.still i;
      }

  none_turned : runnable p b ≡ false → Turned p [] [] q
  unfolding outcomes after AllFit Few
  none_turned i =
      let u = (d.runs.unsound i).1 in
      record { fit = tt; told = refl; few = tt; state = ap meant u; still = ap good u ∙ h }

  batch_turned : Turned p (events_of (batch p b code q c)) (answers_of (batch p b code q c)) q
  batch_turned = go (runnable p b) refl
    where
      go : (r : Bool) → runnable p b ≡ r → Turned p (cond r (take b.len b.events) []) (cond r (take b.len c.answers) []) q
      go true i = ran_turned i (runnable_few p b i)
      go false i = none_turned i

turn_turned : (t : Turn) → good (before t) ≡ true → Did t → Turned (before t) (events_of t) (answers_of t) (left t)
turn_turned (call p e r q) h d = call_turned p e r q h d
turn_turned (batch p b code q c) h d = batch_turned p b code q c h d

-- ---- a list of turns

record Trail (first : PlainStation) (turns : List Turn) (now : PlainStation) : Type 0 where
  pub sound : good now ≡ true
  pub from : From (meant first) (ran_in turns) (meant now)

turn_trail : (first p : PlainStation) (es : List PlainEvent) (rs : List PlainAnswer) (q : PlainStation) (l : Runs)
    → Turned p es rs q → From (meant first) l (meant p)
    → From (meant first) (ran_on (meant p) (meant q) es rs l) (meant q)
turn_trail first p es rs q l h f =
    let m = meant p in
    let n = meant q in
    subst (λ (xs : List PlainAnswer). From (meant first) (ran_on m n es xs l) n) (sym h.told)
    (on_from (meant first) m n es l h.fit h.few h.state f)

trail : (first : PlainStation) → good first ≡ true → (turns : List Turn) (now : PlainStation) → TurnedFrom first turns now → Trail first turns now
unfolding TurnedFrom RanFrom ran_in
trail first h [] now t = record { sound = ap good t ∙ h; from = ap meant t }
trail first h (u ∷ turns) now t = go (trail first h turns (before u) t.0)
  where
    go : Trail first turns (before u) → Trail first (u ∷ turns) now
    go r =
        let w = turn_turned u r.sound t.1 in
        record {
          sound = ap good t.2 ∙ w.still;
          from = subst (λ (z : PlainStation). From (meant first) (ran_in (u ∷ turns)) (meant z)) (sym t.2) (turn_trail first (before u) (events_of u) (answers_of u) (left u) (ran_in turns) w r.from);
        }

codes : (first : PlainStation) → good first ≡ true → (turns : List Turn) (now : PlainStation)
    → TurnedFrom first turns now → CodesIn turns
unfolding TurnedFrom CodesIn
codes first h [] now t = tt
codes first h (u ∷ turns) now t =
    let w = turn_turned u (trail first h turns (before u) t.0).sound t.1 in
    let rows = rows_coded (outcomes (meant (before u)) (map of_event (events_of u))) in
    (codes first h turns (before u) t.0, subst EachCode (sym w.told) rows)

-- ---- demand 3
pub promises : (width : ℕ) (switching : Bool) (first : PlainStation) → good first ≡ true → meant first ≡ fresh width switching → Promised width switching first
promises width switching first h b = record {
  holds = λ turns now t. subst (λ (l : List Call). Watch standard width switching l (meant now)) (in_viewed turns)
      (program_watch standard standard_good standard_held width switching afterwards itself answered Called Any contract (meant first) tt b (ran_in turns) (meant now) (trail first h turns now t).from);
  codes = codes first h;
  stays = λ turns now t. (trail first h turns now t).sound;
}
