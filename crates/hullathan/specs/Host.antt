-- What a host hands in and finds: a station in plain form, events by number, answers in plain numbers (document 01, "Station"). Definitions only.
use Rattle.std.specs.Prelude.{◌≡◌, Bool, true, false, cond, not, ◌&&◌, ◌||◌, List, [], ◌∷◌, map, ℕ, zero, suc, ◌+◌, ◌≤◌, eqb, leb, length, take, Float}
use Rattle.std.proofs.Math.Option.{Option, none, some}
use Rattle.refusals.specs.Refusal.{of_number}
use Rattle.ranges.specs.Settings.{standard}
use Rattle.ranges.specs.Limits.{nought}
use Rattle.tracker.specs.Steps.{dit_estimate}
use Rattle.bank_model.specs.Model.{Hyp}
use Rattle.bank_model.specs.Departures.{most_left}
use Rattle.station_model.specs.declared.Code.{Code}
use Rattle.station_model.specs.declared.Code.TheVariants.{Refused}
use Rattle.station_model.specs.declared.Event.{Event}
use Rattle.station_model.specs.declared.Event.TheVariants.{Mark, Gap, Finish, Seed, Hint, Clear, Switch}
use Rattle.station_model.specs.Station.{number, taken, ready, full, step}
use Rattle.station_model.specs.Station as Model
use Rattle.station.specs.View.{view}
use Rattle.station.specs.Sound.{sound}
use Rattle.plain_tracker.specs.Plain.{as_number, zeros}
use Rattle.plain_sender.specs.Plain.{has, or_nought}
use Rattle.plain.specs.Plain.{plain_departure, no_departure, plain_record, blank_record}
use Rattle.plain_station.specs.declared.PlainStation.{PlainStation}
use Rattle.plain_station.specs.Plain.{plain_station, station_of, is_station}
use Rattle.hullathan.specs.declared.PlainEvent.{PlainEvent}
use Rattle.hullathan.specs.declared.PlainAnswer.{PlainAnswer}
use Rattle.hullathan.specs.declared.PlainBatch.{PlainBatch}
use Rattle.hullathan.specs.declared.PlainRival.{PlainRival}
use Rattle.hullathan.specs.declared.PlainReading.{PlainReading}

-- ---- the station in the host's memory

-- what a form means
abbrev pub meant : PlainStation → Model.Station
meant p = view (station_of p)

-- refusal 1 says of a form that this is false: it is a station's, and the station is sound. (At a switch it asks for `choice_sound` besides.)
abbrev pub good : PlainStation → Bool
good p = is_station p && sound standard (station_of p)

-- the form is that of its own station: what is no part of a state is empty. With what it means, every number of it is fixed (`Canonical` of plain_station/specs)
abbrev pub Neat : PlainStation → Type 0
Neat p = p ≡ plain_station (station_of p)

-- ---- events

-- the event of a kind, 0 to 6 in the order of "Station", its number and, of a mark, whether it is live: 0 no, else yes
abbrev pub event_of : ℕ → ℕ → Float → Option Event
event_of kind live x =
    cond (eqb kind 0) (some (Mark x (not (eqb live 0))))
    (cond (eqb kind 1) (some (Gap x))
    (cond (eqb kind 2) (some Finish)
    (cond (eqb kind 3) (some (Seed x))
    (cond (eqb kind 4) (some (Hint x))
    (cond (eqb kind 5) (some Clear)
    (cond (eqb kind 6) (some Switch) none))))))

abbrev pub of_event : PlainEvent → Option Event
of_event e = event_of e.kind e.live e.value

-- ---- what a call makes of a sound station

abbrev pub refused_by : ℕ → Model.Station → Model.Outcome
refused_by n m = record { station = m; answer = record { code = Refused (of_number n); departures = [] } }

-- a choice is pending
abbrev pub chosen : Option ℕ → Bool
chosen none = false
chosen (some i) = true

-- refusal 1, "At a switch: a choice pending and the primary .. unready", does not hold
abbrev pub choice_sound : Model.Station → Event → Bool
choice_sound m (Mark d live) = true
choice_sound m (Gap d) = true
choice_sound m Finish = true
choice_sound m (Seed v) = true
choice_sound m (Hint r) = true
choice_sound m Clear = true
choice_sound m Switch = not (chosen m.bank.pending && not (ready m.primary))

-- one call; where no event has the kind, it breaks its form and is refused by 12, or by 2 before that
unfoldable pub asked : Model.Station → Option Event → Model.Outcome
asked m none = refused_by (cond (full m) 2 12) m
asked m (some e) = cond (choice_sound m e) (step standard m e) (refused_by 1 m)

-- ---- answers

-- "Codes: 0 done, 1 .. became ready .., 2 switched, 3 nothing to do .., R and the number if refused": 128 stands for R
abbrev pub code_number : Code → ℕ
code_number c = cond (taken c) (number c) (128 + number c)

-- a list in k places, z in those that are left
unfoldable pub padded : {A : Type 0} → A → ℕ → List A → List A
padded z zero l = []
padded z (suc k) [] = z ∷ padded z k []
padded z (suc k) (x ∷ l) = x ∷ padded z k l

-- the code, what the journal shows of the station after the call, and who left
abbrev pub row_of : Model.Outcome → PlainAnswer
row_of o = record {
  code = code_number o.answer.code;
  pad_code = zeros 3;
  dit_ms = o.station.primary.pair.lo;
  dah_ms = o.station.primary.pair.hi;
  pad_dah_ms = zeros 4;
  serial = o.station.serial;
  challengers = length o.station.bank.challengers;
  left = padded no_departure most_left (map plain_departure o.answer.departures);
  left_len = length o.answer.departures;
}

-- the answer where the memory holds no sound station
abbrev pub barred : PlainAnswer
barred = record {
  code = 129;
  pad_code = zeros 3;
  dit_ms = nought;
  dah_ms = nought;
  pad_dah_ms = zeros 4;
  serial = 0;
  challengers = 0;
  left = padded no_departure most_left [];
  left_len = 0;
}

-- ---- a flag that a host hands in: 0 no, anything else yes

abbrev pub switches : ℕ → Bool
switches n = not (eqb n 0)

-- ---- one call: e on the form p is answered by r, and leaves q
pub record Answers (e : Option Event) (p : PlainStation) (r : PlainAnswer) (q : PlainStation) : Type 0 where
  -- no sound station: refused by 1, and every byte as it was
  pub unsound : good p ≡ false → (r ≡ barred) × (q ≡ p)
  -- else the answer is the defined one, and no more left than there is room for
  pub told : good p ≡ true → r ≡ row_of (asked (meant p) e)
  pub few : good p ≡ true → length (asked (meant p) e).answer.departures ≤ most_left
  -- a refused call leaves every byte as it was
  pub kept : good p ≡ true → taken (asked (meant p) e).answer.code ≡ false → q ≡ p
  -- an accepted one leaves the defined station, sound, and what is no part of it empty
  pub state : good p ≡ true → meant q ≡ (asked (meant p) e).station
  pub still : good p ≡ true → good q ≡ true
  pub neat : good p ≡ true → taken (asked (meant p) e).answer.code ≡ true → Neat q

-- ---- a batch: the events of a list one after the other

unfoldable pub outcomes : Model.Station → List (Option Event) → List Model.Outcome
outcomes m [] = []
outcomes m (e ∷ l) = asked m e ∷ outcomes (asked m e).station l

unfoldable pub after : Model.Station → List (Option Event) → Model.Station
after m [] = m
after m (e ∷ l) = after (asked m e).station l

abbrev pub events_in : PlainBatch → List (Option Event)
events_in b = map of_event (take b.len b.events)

-- new entries over the first ones of a list
unfoldable pub over : {A : Type 0} → List A → List A → List A
over [] old = old
over (x ∷ l) [] = []
over (x ∷ l) (y ∷ old) = x ∷ over l old

-- the batch with its answers; what lies beyond them is as it was
abbrev pub with_answers : PlainBatch → List PlainAnswer → PlainBatch
with_answers b l = record { len = b.len; events = b.events; answers = over l b.answers }

-- refusal 1 says of a form and a batch that this is false: "a count above its capacity"
abbrev pub runnable : PlainStation → PlainBatch → Bool
runnable p b = leb b.len 64 && good p

unfoldable pub Few : List Model.Outcome → Type 0
Few [] = Unit {0}
Few (o ∷ l) = (length o.answer.departures ≤ most_left) × Few l

-- whether an event of them was accepted
unfoldable pub any_taken : List Model.Outcome → Bool
any_taken [] = false
any_taken (o ∷ l) = taken o.answer.code || any_taken l

-- the events of b on the form p: the code, the form that is left, and the batch. Where no event was accepted every byte
-- of the form stays; else what is no part of a state is empty
pub record Runs (p : PlainStation) (b : PlainBatch) (code : ℕ) (q : PlainStation) (c : PlainBatch) : Type 0 where
  pub unsound : runnable p b ≡ false → (code ≡ 129) × (q ≡ p) × (c ≡ b)
  pub done : runnable p b ≡ true → code ≡ 0
  pub told : runnable p b ≡ true → c ≡ with_answers b (map row_of (outcomes (meant p) (events_in b)))
  pub few : runnable p b ≡ true → Few (outcomes (meant p) (events_in b))
  pub state : runnable p b ≡ true → meant q ≡ after (meant p) (events_in b)
  pub still : runnable p b ≡ true → good q ≡ true
  pub kept : runnable p b ≡ true → any_taken (outcomes (meant p) (events_in b)) ≡ false → q ≡ p
  pub neat : runnable p b ≡ true → any_taken (outcomes (meant p) (events_in b)) ≡ true → Neat q

-- ---- what a display and a log need

abbrev pub rival_of : Hyp → PlainRival
rival_of h = record { serial = h.serial; dit_ms = h.tracker.pair.lo; dah_ms = h.tracker.pair.hi; score = h.score; gap_score = h.gap_score }

abbrev pub no_rival : PlainRival
no_rival = record { serial = 0; dit_ms = nought; dah_ms = nought; score = nought; gap_score = nought }

-- the challengers in their order, and the switch log, the oldest first
abbrev pub reading_of : Model.Station → PlainReading
reading_of m = record {
  code = 0;
  ready = as_number (ready m.primary);
  has_wpm = has m.primary.wpm;
  switching = as_number m.bank.switching;
  pad_switching = zeros 4;
  width = m.bank.width;
  dit_ms = m.primary.pair.lo;
  dah_ms = m.primary.pair.hi;
  dit_estimate_ms = dit_estimate standard m.primary;
  wpm = or_nought m.primary.wpm;
  score = m.bank.score;
  gap_score = m.bank.gap_score;
  serial = m.serial;
  accepted = m.accepted;
  marks = m.bank.marks;
  gaps = m.bank.gaps;
  started = m.bank.started;
  twins = m.counts.twins;
  outscored = m.counts.outscored;
  aged = m.counts.aged;
  replaced = m.counts.replaced;
  cleared = m.counts.cleared;
  challengers = length m.bank.challengers;
  rivals = padded no_rival 8 (map rival_of m.bank.challengers);
  log_len = length m.bank.log;
  log = padded blank_record 16 (map plain_record m.bank.log);
}

-- the reading where the memory holds no sound station
abbrev pub no_reading : PlainReading
no_reading = record {
  code = 129;
  ready = 0;
  has_wpm = 0;
  switching = 0;
  pad_switching = zeros 4;
  width = 0;
  dit_ms = nought;
  dah_ms = nought;
  dit_estimate_ms = nought;
  wpm = nought;
  score = nought;
  gap_score = nought;
  serial = 0;
  accepted = 0;
  marks = 0;
  gaps = 0;
  started = 0;
  twins = 0;
  outscored = 0;
  aged = 0;
  replaced = 0;
  cleared = 0;
  challengers = 0;
  rivals = padded no_rival 8 [];
  log_len = 0;
  log = padded blank_record 16 [];
}

abbrev pub reads : PlainStation → PlainReading
reads p = cond (good p) (reading_of (meant p)) no_reading
