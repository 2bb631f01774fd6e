-- What a station's struct and an answer mean. Definitions only.
use Rattle.tracker.specs.Model as Tracked
use Rattle.bank_model.specs.Left.{those}
use Rattle.bank.specs.View as Banked
use Rattle.station_model.specs.Station as Model
use Rattle.station.specs.declared.Station.{Station}
use Rattle.station.specs.declared.Answer.{Answer}
use Rattle.station.specs.declared.Outcome.{Outcome}

-- "Places beyond a count and numbers marked absent are no part of a state"
abbrev pub view : Station → Model.Station
view s = record { primary = Tracked.view s.primary; serial = s.serial; bank = Banked.view s.bank; counts = s.counts; accepted = s.accepted }

abbrev pub answered : Answer → Model.Answer
answered a = record { code = a.code; departures = those a.gone }

abbrev pub outcome : Outcome → Model.Outcome
outcome r = record { station = view r.station; answer = answered r.answer }
