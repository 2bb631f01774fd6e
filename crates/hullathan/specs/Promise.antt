-- Demand 3, of every list of calls and batches that a host makes. Definitions only. Lists of turns and of calls stand with the latest first, the events of one batch with the first first.
use Rattle.std.specs.Prelude.{◌≡◌, Bool, true, false, cond, List, [], ◌∷◌, map, ℕ, ◌-◌, T, eqb, leb, length, take}
use Rattle.std.proofs.Math.Option.{Option, none, some}
use Rattle.std.specs.Float.{binary32}
use Rattle.std.specs.Float.Ieee.{fits}
use Rattle.refusals.specs.Refusal.{of_number}
use Rattle.ranges.specs.Settings.{standard}
use Rattle.bank_model.specs.Departures.{widest}
use Rattle.bank_model.specs.declared.Cause.{Cause}
use Rattle.bank_model.specs.declared.Cause.TheVariants.{Twin, Outscored, Aged, Replaced, Cleared}
use Rattle.bank_model.specs.declared.Departure.{Departure}
use Rattle.station_model.specs.declared.Code.{Code}
use Rattle.station_model.specs.declared.Code.TheVariants.{Done, BecameReady, Switched, Nothing, Refused}
use Rattle.station_model.specs.declared.Event.{Event}
use Rattle.station_model.specs.Station.{number, order}
use Rattle.station_model.specs.Station as Model
use Rattle.station_model.specs.Watch.{Call, Watch}
use Rattle.plain.specs.declared.PlainDeparture.{PlainDeparture}
use Rattle.plain_station.specs.declared.PlainStation.{PlainStation}
use Rattle.hullathan.specs.declared.PlainEvent.{PlainEvent}
use Rattle.hullathan.specs.declared.PlainAnswer.{PlainAnswer}
use Rattle.hullathan.specs.declared.PlainBatch.{PlainBatch}
use Rattle.hullathan.specs.Host.{Answers, Neat, Runs, asked, code_number, good, meant, of_event, runnable, switches}

-- ---- an answer, read back from its numbers, which are document 01's

abbrev pub code_of : ℕ → Code
code_of n =
    cond (leb 128 n) (Refused (of_number (n - 128)))
    (cond (eqb n (number Done)) Done
    (cond (eqb n (number BecameReady)) BecameReady
    (cond (eqb n (number Switched)) Switched Nothing)))

abbrev pub cause_of : ℕ → Cause
cause_of n =
    cond (eqb n (order Twin)) Twin
    (cond (eqb n (order Outscored)) Outscored
    (cond (eqb n (order Aged)) Aged
    (cond (eqb n (order Replaced)) Replaced Cleared)))

abbrev pub departure_of : PlainDeparture → Departure
departure_of d = record { serial = d.serial; cause = cause_of d.cause }

abbrev pub answer_of : PlainAnswer → Model.Answer
answer_of r = record { code = code_of r.code; departures = map departure_of (take r.left_len r.left) }

-- ---- what a host does: one call, or one batch. What stood in its memory before, what it handed in, what it found

pub data Turn : Type 0 where
  call : (before : PlainStation) (event : PlainEvent) (answer : PlainAnswer) (left : PlainStation) → Turn
  batch : (before : PlainStation) (given : PlainBatch) (code : ℕ) (left : PlainStation) (found : PlainBatch) → Turn

-- each number handed in is a value of f32, as every float in memory is
unfoldable pub AllFit : List PlainEvent → Type 0
AllFit [] = Unit {0}
AllFit (e ∷ l) = T (fits binary32 e.value) × AllFit l

-- What is known of a turn: the contract of `hullathan_call`, or that of `hullathan_run` (and that a batch has 64 places, as its type says).
pub record Batched (p : PlainStation) (b : PlainBatch) (code : ℕ) (q : PlainStation) (c : PlainBatch) : Type 0 where
  pub fit : AllFit b.events
  pub events : length b.events ≡ 64
  pub answers : length b.answers ≡ 64
  pub runs : Runs p b code q c

abbrev pub Did : Turn → Type 0
Did (call p e r q) = T (fits binary32 e.value) × Answers (of_event e) p r q
Did (batch p b code q c) = Batched p b code q c

abbrev pub before : Turn → PlainStation
before (call p e r q) = p
before (batch p b code q c) = p

abbrev pub left : Turn → PlainStation
left (call p e r q) = q
left (batch p b code q c) = q

-- A list of turns, each on the memory that the one before left.
unfoldable pub TurnedFrom : PlainStation → List Turn → PlainStation → Type 0
TurnedFrom first [] now = now ≡ first
TurnedFrom first (t ∷ earlier) now = TurnedFrom first earlier (before t) × Did t × (now ≡ left t)

-- ---- the calls in a list of turns

-- the events of a turn, the first first, and the answers that the host found to them; a batch that was refused has none
abbrev pub events_of : Turn → List PlainEvent
events_of (call p e r q) = e ∷ []
events_of (batch p b code q c) = cond (runnable p b) (take b.len b.events) []

abbrev pub answers_of : Turn → List PlainAnswer
answers_of (call p e r q) = r ∷ []
answers_of (batch p b code q c) = cond (runnable p b) (take b.len c.answers) []

-- an event that none is, is passed over: it leaves the station as it was
abbrev pub add_call : Option Event → PlainAnswer → Model.Station → Model.Station → List Call → List Call
add_call none r m n earlier = earlier
add_call (some e) r m n earlier = record { event = e; answer = answer_of r; before = m; after = n } ∷ earlier

-- The station after an event: the memory's, `left`, where no event of the turn follows. Between two events of a batch
-- no station stands in the memory, and it is the one that the definitions give.
abbrev pub after_one : Model.Station → Model.Station → List PlainEvent → Model.Station
after_one given left [] = left
after_one given left (e ∷ es) = given

-- the calls of a turn, from the station that stood in the memory before it to the one that it left there
unfoldable pub calls_on : Model.Station → Model.Station → List PlainEvent → List PlainAnswer → List Call → List Call
calls_on m left [] rs earlier = earlier
calls_on m left (e ∷ es) [] earlier = earlier
calls_on m left (e ∷ es) (r ∷ rs) earlier =
    let given = (asked m (of_event e)).station in
    calls_on given left es rs (add_call (of_event e) r m (after_one given left es) earlier)

unfoldable pub calls_in : List Turn → List Call
calls_in [] = []
calls_in (t ∷ earlier) = calls_on (meant (before t)) (meant (left t)) (events_of t) (answers_of t) (calls_in earlier)

-- Each answer bears the number of the code that it is read as, and so one of document 01's: no two of these are read as
-- one code.
unfoldable pub EachCode : List PlainAnswer → Type 0
EachCode [] = Unit {0}
EachCode (r ∷ rs) = (r.code ≡ code_number (code_of r.code)) × EachCode rs

unfoldable pub CodesIn : List Turn → Type 0
CodesIn [] = Unit {0}
CodesIn (t ∷ earlier) = CodesIn earlier × EachCode (answers_of t)

-- after every list of turns, the first on this memory: demand 3, each answer bears a code's number, and the memory holds
-- a sound station
pub record Promised (width : ℕ) (switching : Bool) (first : PlainStation) : Type 0 where
  pub holds : (turns : List Turn) (now : PlainStation) → TurnedFrom first turns now → Watch standard width switching (calls_in turns) (meant now)
  pub codes : (turns : List Turn) (now : PlainStation) → TurnedFrom first turns now → CodesIn turns
  pub stays : (turns : List Turn) (now : PlainStation) → TurnedFrom first turns now → good now ≡ true

-- ---- a start: its code, the fresh station that it leaves, and what it promises. "number 3 hands back a fresh width 1 state": one that does not switch
pub record Begins (width switching code : ℕ) (q : PlainStation) : Type 0 where
  pub says : code ≡ cond (leb width widest) 0 131
  pub state : meant q ≡ cond (leb width widest) (Model.fresh width (switches switching)) (Model.fresh 1 false)
  pub still : good q ≡ true
  pub neat : Neat q
  pub promise : Promised (cond (leb width widest) width 1) (cond (leb width widest) (switches switching) false) q
