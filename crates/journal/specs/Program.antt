-- What the parts of the program hand on, what they hand to be written, and what they take from the input and put into
-- the output. What standard input gives and standard output takes no contract can say; these contracts hold at every
-- reader and every writer, and speak of the bytes of those that know theirs. Definitions only.
use Rattle.std.specs.Prelude.{◌≡◌, Bool, false, ◌⊎◌, List, [], ◌++◌, ℕ, zero, suc, ◌≤◌, ◌<◌, ltb, length, take}
use Rattle.std.specs.Prelude.{IfOk, IfSome, OnOk, Option, Result, Ok, Err}
use Rattle.std.specs.declared.io.Error.{Error}
use Rattle.std.specs.Io.{ReadsAtMost}
use Rattle.std.specs.Io.KnownBytes.{Appends, Consumes, IsAtEnd}
use Rattle.ranges.specs.Settings.{standard}
use Rattle.line_out.specs.Written.{over}
use Rattle.journal_lines.specs.declared.Journal.{Journal}
use Rattle.journal_lines.specs.Whole.{output}
use Rattle.journal_lines.specs.Pieces.{end, feed, start}
use Rattle.journal_lines.specs.Parts.{Goes, viewed}
use Rattle.journal.specs.declared.Failed.{Failed}
use Rattle.journal.specs.declared.Failed.TheVariants as Why

-- ---- what is handed on

-- a piece was answered: all of it, or a part from its front where the answers to that could not be written
pub record Heard {A : Type 0} (j : Journal) (piece : List ℕ) (j' : Journal) (r : Result A Failed) : Type 0 where
  pub up_to : ℕ
  pub few : up_to ≤ length piece
  pub all : OnOk r (up_to ≡ length piece)
  pub journal : viewed j' ≡ (feed standard (viewed j) (take up_to piece)).journal
  pub goes : Goes j'

-- what a read answered: it failed, the input is at its end and all is well, or so many bytes stand at the front of the
-- buffer; there is more to read while there were some, and a line may be read
abbrev pub Took : Journal → Result ℕ Error → List ℕ → Journal → Result Bool Failed → Type 0
Took j (Err e) buffer j' r = (j' ≡ j) × (r ≡ Err (Why.Read e))
Took j (Ok zero) buffer j' r = (j' ≡ j) × (r ≡ Ok false)
Took j (Ok (suc n)) buffer j' r = Heard j (take (suc n) buffer) j' r × IfOk r (λ more. more ≡ ltb 0 j'.left)

-- the bytes that a read gave
abbrev pub came : Result ℕ Error → List ℕ → List ℕ
came (Err e) buffer = []
came (Ok n) buffer = take n buffer

-- one read, that left the buffer so
pub record Read (j : Journal) (buffer : List ℕ) (j' : Journal) (r : Result Bool Failed) : Type 0 where
  pub got : Result ℕ Error
  pub moved : ReadsAtMost got buffer
  pub took : Took j got buffer j' r

-- all reads: the journal is the one after some bytes. `Moved` says that these are all that was read
pub record Reads (j j' : Journal) : Type 0 where
  pub bytes : List ℕ
  pub journal : viewed j' ≡ (feed standard (viewed j) bytes).journal
  pub goes : Goes j'

-- what one read or more took from the input and put into the output: some bytes, and the answers to them; the journal
-- is the one after them; and where there is no more to read, no line may be read any more, or the input is at its end,
-- unless the buffer has no room
pub record Moved (j : Journal) (room : ℕ) (input input' written written' : Option (List ℕ)) (j' : Journal) (more : Bool)
    : Type 0 where
  pub bytes : List ℕ
  pub read : Consumes input input' bytes
  pub wrote : Appends written written' (feed standard (viewed j) bytes).put
  pub journal : viewed j' ≡ (feed standard (viewed j) bytes).journal
  pub ends : more ≡ false → 0 < room → (j'.left ≡ 0) ⊎ IsAtEnd input'

-- The whole run, that left the journal and the buffer so: for some bytes, the journal is the one after them. What
-- `feed` puts for them, and then the end, are the output that document 01 defines; where no line may be read any more,
-- what was not read has no answer; and where all went well, the end is what was written last.
pub record Serves (j : Journal) (is : List ℕ) (r : Result (Unit {0}) Failed) : Type 0 where
  pub bytes : List ℕ
  pub journal : viewed j ≡ (feed standard start bytes).journal
  pub whole : (feed standard start bytes).put ++ end (viewed j) ≡ output standard bytes
  pub spent : j.left ≡ 0 → (more : List ℕ) → output standard (bytes ++ more) ≡ output standard bytes
  pub was : List ℕ
  pub out : OnOk r (is ≡ over (end (viewed j)) was)

-- the output that document 01 defines for all of the input was written, no more and no less
abbrev pub Whole : Option (List ℕ) → Option (List ℕ) → Option (List ℕ) → Type 0
Whole input written written' = IfSome input (λ bytes. Appends written written' (output standard bytes))
