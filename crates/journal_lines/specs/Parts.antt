-- What the parts of the code say. Definitions only.
use Rattle.std.specs.Prelude.{◌≡◌, Bool, true, false, cond, Option, Some, None, List, [], ◌∷◌, ◌++◌, ℕ, zero, suc, ◌≤◌}
use Rattle.std.specs.Prelude.{eqb, length, take, drop}
use Rattle.std.proofs.Math.Option.{none, some}
use Rattle.std.proofs.Math.Option as Math
use Rattle.station.specs.declared.Station.{Station}
use Rattle.station.specs.View.{view}
use Rattle.station.specs.Parts.{Steady}
use Rattle.station_model.specs.Station as Model
use Rattle.ranges.specs.Settings.{standard}
use Rattle.journal_lines.specs.declared.Fed.{Fed}
use Rattle.journal_lines.specs.declared.Journal.{Journal}
use Rattle.line_out.specs.declared.Shown.{Shown}
use Rattle.line_out.specs.Bytes.{contents}
use Rattle.journal_lines.specs.Journal.{Turn}
use Rattle.journal_lines.specs.Pieces.{hold, feed}
use Rattle.journal_lines.specs.Pieces as Pieces

-- ---- the station of a journal

-- where no `W` was good, there is none
abbrev pub reading : Option Station → Math.Option Model.Station
reading None = none
reading (Some s) = some (view s)

-- where there is one, it is sound, and nothing is pending beside an unready primary
abbrev pub Lives : Option Station → Type 0
Lives None = Unit {0}
Lives (Some s) = Steady s

-- a line's answer, and the station after it, are as the definitions say
pub record Answered (s : Option Station) (v : Shown) (t : Turn) : Type 0 where
  pub station : reading s ≡ t.station
  pub shown : v ≡ t.shown
  pub lives : Lives s

-- the same, of a station that there is
abbrev pub Called : Station → Shown → Turn → Type 0
Called s = Answered (Some s)

-- ---- the bytes of a piece up to its first newline

-- how many there are, the newline with them
unfoldable pub up_to_newline : List ℕ → ℕ
up_to_newline [] = 0
up_to_newline (b ∷ l) = cond (eqb b 10) 1 (suc (up_to_newline l))

-- whether there is one
unfoldable pub has_newline : List ℕ → Bool
has_newline [] = false
has_newline (b ∷ l) = cond (eqb b 10) true (has_newline l)

-- what is held after those before it
unfoldable pub keeps : List ℕ → List ℕ → List ℕ
keeps h [] = h
keeps h (b ∷ l) = cond (eqb b 10) h (keeps (hold h b) l)

-- the same three, where so many lines may still be read: where none may, all bytes are taken and no more are held
abbrev pub taken_at : ℕ → List ℕ → ℕ
taken_at zero l = length l
taken_at (suc n) l = up_to_newline l

abbrev pub newline_at : ℕ → List ℕ → Bool
newline_at zero l = false
newline_at (suc n) l = has_newline l

abbrev pub keeps_at : ℕ → List ℕ → List ℕ → List ℕ
keeps_at zero h l = h
keeps_at (suc n) h l = keeps h l

-- what is held after a piece, and how many of its bytes were taken, the newline with them, or none where that was not
-- there and all were taken
pub record Gathers (left : ℕ) (was piece is : List ℕ) (r : Option ℕ) : Type 0 where
  pub held : is ≡ keeps_at left was piece
  pub took : r ≡ cond (newline_at left piece) (Some (taken_at left piece)) None

-- ---- a journal

abbrev pub viewed : Journal → Pieces.Journal
viewed j = record { station = reading j.station; held = contents j.held; left = j.left }

-- what every journal from the start on has
abbrev pub Goes : Journal → Type 0
Goes j = Lives j.station

-- so many bytes of a piece were fed: the journal after them, and what was written at the front of the buffer
pub record Feeds (j : Journal) (piece was is : List ℕ) (j' : Journal) (r : Fed) : Type 0 where
  pub few : r.used ≤ length piece
  pub journal : viewed j' ≡ (feed standard (viewed j) (take r.used piece)).journal
  pub put : r.put ≡ length (feed standard (viewed j) (take r.used piece)).put
  pub out : is ≡ (feed standard (viewed j) (take r.used piece)).put ++ drop r.put was
  pub goes : Goes j'
