-- What the journal does with its input as it comes, in pieces of any size: what is carried over, and what is written
-- for a piece. Definitions only.
use Rattle.std.specs.Prelude.{◌≡◌, cond, List, [], ◌∷◌, ◌++◌, ℕ, zero, suc, ◌-◌, eqb, leb, ltb, length}
use Rattle.std.proofs.Math.Option.{Option, none}
use Rattle.ranges.specs.Settings.{Settings}
use Rattle.station_model.specs.Station.{Station}
use Rattle.line_in.specs.Form.{entry}
use Rattle.line_out.specs.Shown.{line}
use Rattle.journal_lines.specs.Journal.{answer, bad}
use Rattle.journal_lines.specs.Whole.{most, output}

-- what is carried over: the station, if there is one; the bytes since the last newline; how many lines may still be
-- read
pub record Journal : Type 0 where
  pub station : Option Station
  pub held : List ℕ
  pub left : ℕ

abbrev pub start : Journal
start = record { station = none; held = []; left = most }

-- a byte more of the line: 80 are kept at most, since a line that has so many before its newline is bad whatever
-- follows
abbrev pub hold : List ℕ → ℕ → List ℕ
hold l b = cond (ltb (length l) 80) (l ++ (b ∷ [])) l

-- the journal after a byte, or after more of them, and what is written
pub record Fed : Type 0 where
  pub journal : Journal
  pub put : List ℕ

-- a newline: the line that is held is answered
abbrev pub ended : Settings → Journal → ℕ → Fed
ended k j left =
    let t = answer k j.station (entry j.held) in
    record { journal = record { station = t.station; held = []; left = left }; put = line t.shown }

-- another byte is held
abbrev pub holding : Journal → ℕ → Fed
holding j b = record { journal = record { station = j.station; held = hold j.held b; left = j.left }; put = [] }

-- one byte, where n lines may still be read: where none may, nothing is read any more
abbrev pub read : Settings → Journal → ℕ → ℕ → Fed
read k j zero b = record { journal = j; put = [] }
read k j (suc n) b = cond (eqb b 10) (ended k j n) (holding j b)

abbrev pub byte : Settings → Journal → ℕ → Fed
byte k j b = read k j j.left b

-- the bytes of a piece, one after the other
unfoldable pub feed : Settings → Journal → List ℕ → Fed
feed k j [] = record { journal = j; put = [] }
feed k j (b ∷ l) =
    let r = feed k (byte k j b).journal l in record { journal = r.journal; put = (byte k j b).put ++ r.put }

-- the end of the input: what is held, if anything is, is a last line without its newline
abbrev pub finish : Journal → List ℕ → List ℕ
finish j [] = []
finish j (b ∷ l) = line (bad j.station).shown

abbrev pub end : Journal → List ℕ
end j = finish j j.held

-- all that is written for an input that comes in these pieces
unfoldable pub written : Settings → Journal → List (List ℕ) → List ℕ
written k j [] = end j
written k j (p ∷ ps) = (feed k j p).put ++ written k (feed k j p).journal ps

-- the input itself
unfoldable pub joined : List (List ℕ) → List ℕ
joined [] = []
joined (p ∷ ps) = p ++ joined ps

-- however an input is cut into pieces, what is written for them is the output of the whole input
pub record Joins (k : Settings) : Type 0 where
  pub whole : (ps : List (List ℕ)) → written k start ps ≡ output k (joined ps)

-- how many bytes of a piece are taken where the output has room for so many: a byte is taken while there is room for a
-- line, 80
unfoldable pub within : Settings → ℕ → Journal → List ℕ → ℕ
within k room j [] = 0
within k room j (b ∷ l) = cond (leb 80 room) (suc (within k (room - length (byte k j b).put) (byte k j b).journal l)) 0
