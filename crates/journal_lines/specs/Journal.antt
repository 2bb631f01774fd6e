-- One line of a journal and its answer (document 01, "Journal program"). Definitions only.
use Rattle.std.specs.Prelude.{Bool, cond, Some, None, ℕ, leb, length}
use Rattle.std.specs.Prelude as Prelude
use Rattle.std.proofs.Math.Option.{Option, none, some}
use Prim.Native.Char.{code}
use Rattle.std.specs.Float.{binary32}
use Rattle.std.specs.Float.Ieee.{to_bits}
use Rattle.ranges.specs.Settings.{Settings}
use Rattle.bank_model.specs.Departures.{widest}
use Rattle.station_model.specs.declared.Event.{Event}
use Rattle.station_model.specs.declared.Event.TheVariants.{Mark, Gap, Finish, Seed, Hint, Clear, Switch}
use Rattle.refusals.specs.declared.Refusal.TheVariants.{BadLine, TooWide}
use Rattle.station_model.specs.declared.Code.{Code}
use Rattle.station_model.specs.declared.Code.TheVariants.{Done, Refused}
use Rattle.station_model.specs.Station.{Station, Outcome, fresh, step}
use Rattle.line_in.specs.declared.Entry.{Entry}
use Rattle.line_in.specs.declared.Entry.TheVariants.{Watch, Call}
use Rattle.line_out.specs.declared.Shown.{Shown}
use Rattle.line_out.specs.Codes.{of_code}

-- the letters of document 01
abbrev pub letter : Event → ℕ
letter (Mark d live) = code "M"
letter (Gap d) = code "G"
letter Finish = code "F"
letter (Seed v) = code "S"
letter (Hint r) = code "H"
letter Clear = code "C"
letter Switch = code "X"

-- "the letter .., code, dit and dah centroid .. of f32 bits, primary serial, challenger count"; "zeros stand for the
-- station until there is one"
abbrev pub shown : ℕ → Code → Option Station → Shown
shown l c none = record { letter = l; code = of_code c; dit = 0; dah = 0; serial = 0; challengers = 0 }
shown l c (some s) = record {
  letter = l;
  code = of_code c;
  dit = to_bits binary32 s.primary.pair.lo;
  dah = to_bits binary32 s.primary.pair.hi;
  serial = s.serial;
  challengers = length s.bank.challengers;
}

-- an answer: the station, if there is one, after the line, and what the output line shows
pub record Turn : Type 0 where
  pub station : Option Station
  pub shown : Shown

abbrev pub turn : ℕ → Code → Option Station → Turn
turn l c s = record { station = s; shown = shown l c s }

-- "A bad line is answered 12 and passed over": `?` and the refusal that has this number
abbrev pub bad : Option Station → Turn
bad s = turn (code "?") (Refused BadLine) s

-- "`W`, width, switching"; "A `W` refused by 3 keeps its letter and is not a good one"
abbrev pub opened : ℕ → Bool → Turn
opened width switching =
    cond (leb width widest) (turn (code "W") Done (some (fresh width switching)))
    (turn (code "W") (Refused TooWide) none)

-- an event's answer is the station's
abbrev pub called : Event → Outcome → Turn
called e o = turn (letter e) o.answer.code (some o.station)

-- "before a good `W` only `W` is good, later `W` lines are bad"
abbrev pub answer : Settings → Option Station → Prelude.Option Entry → Turn
answer k none (Some (Watch width switching)) = opened width switching
answer k none (Some (Call e)) = bad none
answer k none None = bad none
answer k (some s) (Some (Watch width switching)) = bad (some s)
answer k (some s) (Some (Call e)) = called e (step k s e)
answer k (some s) None = bad (some s)
