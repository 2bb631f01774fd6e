-- What the parts of the code say to each other. Definitions only.
use Rattle.std.specs.Prelude.{◌≡◌, true, false, cond, ◌≤◌, map, eqb, length}
use Rattle.std.proofs.Math.Option.{Option}
use Rattle.refusals.specs.Refusal.{refusal_of}
use Rattle.plain_tracker.specs.Plain.{zeros}
use Rattle.plain.specs.Plain.{plain_departure, no_departure}
use Rattle.bank_model.specs.Departures.{most_left}
use Rattle.bank_model.specs.Left.{those}
use Rattle.station_model.specs.declared.Event.{Event}
use Rattle.station_model.specs.Station.{taken}
use Rattle.station_model.specs.Station as Model
use Rattle.station.specs.declared.Station.{Station}
use Rattle.station.specs.declared.Answer.{Answer}
use Rattle.station.specs.declared.Outcome.{Outcome}
use Rattle.station.specs.View.{outcome, view}
use Rattle.station.specs.Parts.{Solid}
use Rattle.plain_station.specs.declared.PlainStation.{PlainStation}
use Rattle.hullathan.specs.declared.Called.{Called}
use Rattle.hullathan.specs.declared.PlainAnswer.{PlainAnswer}
use Rattle.hullathan.specs.declared.PlainBatch.{PlainBatch}
use Rattle.hullathan.specs.declared.Ran.{Ran}
use Rattle.hullathan.specs.Host.{
  Few,
  Neat,
  after,
  asked,
  code_number,
  events_in,
  good,
  meant,
  outcomes,
  padded,
  row_of,
  with_answers,
}

-- one call on a sound station
pub record Turns (s : Station) (e : Option Event) (r : Outcome) : Type 0 where
  pub is : outcome r ≡ asked (view s) e
  pub solid : Solid r.station

-- a form that means m, of a sound station, with no number in it that the station has not
pub record Means (q : PlainStation) (m : Model.Station) : Type 0 where
  pub state : meant q ≡ m
  pub still : good q ≡ true
  pub neat : Neat q

-- a call on the sound station s, whose form is p
pub record Handed (p : PlainStation) (s : Station) (e : Option Event) (r : Called) : Type 0 where
  pub told : r.answer ≡ row_of (asked (view s) e)
  pub few : length (asked (view s) e).answer.departures ≤ most_left
  pub kept : taken (asked (view s) e).answer.code ≡ false → r.station ≡ p
  pub went : taken (asked (view s) e).answer.code ≡ true → Means r.station (asked (view s) e).station

-- a sound station after an event, and the answer
pub record Told (s : Station) (e : Option Event) (t : Station) (r : PlainAnswer) : Type 0 where
  pub solid : Solid t
  pub state : view t ≡ (asked (view s) e).station
  pub row : r ≡ row_of (asked (view s) e)
  pub few : length (asked (view s) e).answer.departures ≤ most_left

-- the events of b, on a sound station
pub record Along (s : Station) (b : PlainBatch) (r : Ran) : Type 0 where
  pub done : refusal_of r.told ≡ 0
  pub told : r.batch ≡ with_answers b (map row_of (outcomes (view s) (events_in b)))
  pub few : Few (outcomes (view s) (events_in b))
  pub means : Means r.station (after (view s) (events_in b))

-- what was run, with the form that was handed in where the station has counted no call more
pub record Kept (p : PlainStation) (r a : Ran) : Type 0 where
  pub told : a.told ≡ r.told
  pub batch : a.batch ≡ r.batch
  pub station : a.station ≡ cond (eqb r.station.accepted p.accepted) p r.station

-- an answer of a call that left the station s, as a host reads it
pub record Row (a : Answer) (s : Station) (r : PlainAnswer) : Type 0 where
  pub code : r.code ≡ code_number a.code
  pub pad : r.pad_code ≡ zeros 3
  pub dit : r.dit_ms ≡ s.primary.pair.lo
  pub dah : r.dah_ms ≡ s.primary.pair.hi
  pub pad_dah : r.pad_dah_ms ≡ zeros 4
  pub serial_is : r.serial ≡ s.serial
  pub held : r.challengers ≡ s.bank.challengers_len
  pub left : r.left ≡ padded no_departure most_left (map plain_departure (those a.gone))
  pub many : r.left_len ≡ length (those a.gone)
