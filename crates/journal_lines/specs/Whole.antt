-- What the journal program writes, whole, for all that it reads (document 01, "Journal program"). Definitions only.
use Rattle.std.specs.Prelude.{Bool, true, false, cond, List, [], ◌∷◌, ◌++◌, ℕ, eqb, take}
use Rattle.std.specs.Prelude.{None}
use Rattle.std.specs.Prelude as Prelude
use Rattle.std.proofs.Math.Option.{Option, none}
use Rattle.ranges.specs.Settings.{Settings}
use Rattle.station_model.specs.Station.{Station}
use Rattle.line_in.specs.declared.Entry.{Entry}
use Rattle.line_in.specs.Form.{entry}
use Rattle.line_out.specs.Shown.{line}
use Rattle.journal_lines.specs.Journal.{answer}

-- a line: its bytes before the newline, and whether the newline is there
pub record Row : Type 0 where
  pub bytes : List ℕ
  pub ended : Bool

-- one byte more at the front of the first line
abbrev pub before : ℕ → List Row → List Row
before b [] = record { bytes = b ∷ []; ended = false } ∷ []
before b (r ∷ l) = record { bytes = b ∷ r.bytes; ended = r.ended } ∷ l

-- "one event a line, .. newline last": the lines of an input; what follows the last newline, if anything does, is a
-- line without one
unfoldable pub rows : List ℕ → List Row
rows [] = []
rows (b ∷ l) = cond (eqb b 10) (record { bytes = []; ended = true } ∷ rows l) (before b (rows l))

-- "a last line without it is bad"
abbrev pub said : Row → Prelude.Option Entry
said r = cond r.ended (entry r.bytes) None

-- the answers, one output line to a line
unfoldable pub answers : Settings → Option Station → List Row → List ℕ
answers k s [] = []
answers k s (r ∷ l) = line (answer k s (said r)).shown ++ answers k (answer k s (said r)).station l

-- "at most 4,294,967,295 lines are read"
abbrev pub most : ℕ
most = 4294967295

-- all that is written for all that is read
abbrev pub output : Settings → List ℕ → List ℕ
output k input = answers k none (take most (rows input))
