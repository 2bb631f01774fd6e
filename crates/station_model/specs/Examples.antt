-- Worked watches: document 01's journal example, and switches that happen or do not. Definitions only; proofs/Examples.antt computes them.
use Rattle.std.specs.Prelude.{◌≡◌, Bool, true, false, List, [], ◌∷◌, map, ℕ, pos, Float}
use Rattle.std.proofs.Math.Option.{Option, none, some}
use Rattle.std.specs.Float.{inf, binary32}
use Rattle.std.specs.Float.Ieee.{of_int, of_bits}
use Rattle.ranges.specs.Settings.{standard}
use Rattle.bank_model.specs.Model.{Hyp}
use Rattle.station_model.specs.declared.Event.{Event}
use Rattle.station_model.specs.declared.Event.TheVariants.{Mark, Gap, Finish, Seed, Clear, Switch}
use Rattle.station_model.specs.Station.{Station, says, refuses, fresh}
use Rattle.station_model.specs.Watch.{station_after, answer_to, calls_of, due}

-- a whole number as f32
abbrev pub whole : ℕ → Float
whole n = of_int binary32 (pos n)

-- a live mark of n milliseconds
abbrev mark : ℕ → Event
mark n = Mark (whole n) true

abbrev silent : Event
silent = Mark (whole 100) false

-- A switch call after a list of events, the latest first, on a fresh station: the leads of the challengers before it, whom the rule names, the call's code, the primary's serial after it.
pub record Example : Type 0 where
  pub width : ℕ
  pub switching : Bool
  pub earlier : List Event
  pub leads : List ℕ
  pub names : Option ℕ
  pub code : ℕ
  pub serial : ℕ

abbrev lead : Hyp → ℕ
lead h = h.lead

abbrev pub Holds : Example → Type 0
Holds x =
    let start = fresh x.width x.switching in
    (map lead (station_after standard start x.earlier).bank.challengers ≡ x.leads)
    × (due standard x.width x.switching (calls_of standard start x.earlier) ≡ x.names)
    × says x.code (answer_to standard start Switch x.earlier).code
    × ((station_after standard start (Switch ∷ x.earlier)).serial ≡ x.serial)

unfoldable pub AllHold : List Example → Type 0
AllHold [] = Unit {0}
AllHold (x ∷ xs) = Holds x × AllHold xs

-- a primary seeded at 60 words a minute, a rival from four marks of 100, and what comes then
abbrev rival : List Event
rival = mark 100 ∷ mark 100 ∷ mark 100 ∷ mark 100 ∷ Seed (whole 60) ∷ []

-- a gap that fits the rival, and three of its dahs: it leads by 4.0 at the last two
abbrev leading : List Event
leading = mark 300 ∷ mark 300 ∷ mark 300 ∷ Gap (whole 100) ∷ rival

-- a gap that fits the primary, and four dahs of the rival
abbrev vetoed : List Event
vetoed = mark 300 ∷ mark 300 ∷ mark 300 ∷ mark 300 ∷ Gap (whole 20) ∷ rival

abbrev pub worked : List Example
worked =
    record { width = 2; switching = true; earlier = leading; leads = 2 ∷ []; names = some 1; code = 2; serial = 1 }
    -- the choice was acted on
    ∷ record { width = 2; switching = true; earlier = Switch ∷ leading; leads = 0 ∷ []; names = none; code = 3; serial = 1 }
    -- the gaps are the primary's
    ∷ record { width = 2; switching = true; earlier = vetoed; leads = 2 ∷ []; names = none; code = 3; serial = 0 }
    -- a clear ends it
    ∷ record { width = 2; switching = true; earlier = Clear ∷ leading; leads = []; names = none; code = 3; serial = 0 }
    -- switching off: the bank only observes
    ∷ record { width = 2; switching = false; earlier = leading; leads = 2 ∷ []; names = none; code = 3; serial = 0 }
    -- four marks that are not live make no rival
    ∷ record { width = 2; switching = true; earlier = mark 300 ∷ mark 300 ∷ mark 300 ∷ Gap (whole 100) ∷ silent ∷ silent ∷ silent ∷ silent ∷ Seed (whole 60) ∷ []; leads = []; names = none; code = 3; serial = 0 }
    -- width 1: the bank is off
    ∷ record { width = 1; switching = true; earlier = leading; leads = []; names = none; code = 3; serial = 0 }
    ∷ []

-- ---- document 01's input `W 2 1`, `M 3200 1`, `M 9600 1`, `F`, `X`: ticks are 1/64 ms

abbrev start : Station
start = fresh 2 true

abbrev marks : List Event
marks = mark 150 ∷ mark 50 ∷ []

-- the codes of the four lines, and the station after them
pub record Printed : Type 0 where
  pub first : says 0 (answer_to standard start (mark 50) []).code
  pub second : says 0 (answer_to standard start (mark 150) (mark 50 ∷ [])).code
  pub finish : says 1 (answer_to standard start Finish marks).code
  pub switch : says 3 (answer_to standard start Switch (Finish ∷ marks)).code
  pub dit : (station_after standard start (Switch ∷ Finish ∷ marks)).primary.pair.lo ≡ of_bits binary32 0x4248_0000
  pub dah : (station_after standard start (Switch ∷ Finish ∷ marks)).primary.pair.hi ≡ of_bits binary32 0x4316_0000
  pub serial : (station_after standard start (Switch ∷ Finish ∷ marks)).serial ≡ 0
  pub alone : (station_after standard start (Switch ∷ Finish ∷ marks)).bank.challengers ≡ []

-- ---- other answers of a fresh station

pub record Answers : Type 0 where
  -- refusals come before the event's meaning
  pub endless : refuses 5 (answer_to standard start (Mark (inf false) true) []).code
  pub empty : refuses 6 (answer_to standard start (Gap (whole 0)) []).code
  pub longest : refuses 7 (answer_to standard start (Gap (whole 262145)) []).code
  pub still : refuses 8 (answer_to standard start (Seed (whole 0)) []).code
  -- a good gap, or a good mark that is not live, does nothing while the primary is unready; it counts
  pub waits : says 0 (answer_to standard start (Gap (whole 50)) (silent ∷ [])).code
  pub counts : (station_after standard start (Gap (whole 50) ∷ silent ∷ Seed (whole 0) ∷ [])).accepted ≡ 2
  -- "Gap: only with a ready primary": before that the bank counts none, and the primary holds none
  pub unheard : (station_after standard start (Gap (whole 10) ∷ [])).bank.gaps ≡ 0
  pub unheld : (station_after standard start (Gap (whole 10) ∷ [])).primary.egap ≡ none
  pub heard : (station_after standard start (Gap (whole 40) ∷ Seed (whole 60) ∷ [])).bank.gaps ≡ 1
  -- "if the gap is below 2.0 times its dit estimate": at 60 words a minute that is 20 ms
  pub element : (station_after standard start (Gap (whole 39) ∷ Seed (whole 60) ∷ [])).primary.egap ≡ some (whole 39)
  pub longer : (station_after standard start (Gap (whole 40) ∷ Seed (whole 60) ∷ [])).primary.egap ≡ none
  -- a seed has code 1 only if the primary was unready
  pub seeds : says 1 (answer_to standard start (Seed (whole 60)) []).code
  pub again : says 0 (answer_to standard start (Seed (whole 60)) (Seed (whole 60) ∷ [])).code
  pub unfinished : says 3 (answer_to standard start Finish []).code
  -- the fifth mark: a rival for the lone dit, with the next serial
  pub fifth : says 1 (answer_to standard start (mark 150) (mark 150 ∷ mark 150 ∷ mark 150 ∷ mark 50 ∷ [])).code
  pub begun : (station_after standard start (mark 150 ∷ mark 150 ∷ mark 150 ∷ mark 150 ∷ mark 50 ∷ [])).bank.started ≡ 1
