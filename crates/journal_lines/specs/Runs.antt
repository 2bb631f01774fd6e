-- What the journal writes over a whole input, whatever pieces it is handed: the promise of a fresh journal. Definitions
-- only.
use Rattle.std.specs.Prelude.{◌≡◌, List, [], ◌∷◌, ◌++◌, ℕ, take}
use Rattle.ranges.specs.Settings.{standard}
use Rattle.journal_lines.specs.declared.Fed.{Fed}
use Rattle.journal_lines.specs.declared.Journal.{Journal}
use Rattle.journal_lines.specs.Whole.{output}
use Rattle.journal_lines.specs.Pieces.{end}
use Rattle.journal_lines.specs.Parts.{Feeds, viewed}

-- a call of `feed`: the journal and the piece that it was handed, the buffer before and after, the journal after it,
-- and what it answered
pub record Ran : Type 0 where
  pub before : Journal
  pub piece : List ℕ
  pub was : List ℕ
  pub is : List ℕ
  pub after : Journal
  pub fed : Fed

-- calls, the latest first, each on the journal that the one before left, the first on this one; `feed` promises `Feeds`
-- (inner/feed)
unfoldable pub Runs : Journal → List Ran → Journal → Type 0
Runs first [] now = now ≡ first
Runs first (c ∷ earlier) now =
    Runs first earlier c.before × Feeds c.before c.piece c.was c.is c.after c.fed × (now ≡ c.after)

-- the bytes that were taken, and those that were written, in their order
unfoldable pub taken : List Ran → List ℕ
taken [] = []
taken (c ∷ earlier) = taken earlier ++ take c.fed.used c.piece

unfoldable pub put : List Ran → List ℕ
put [] = []
put (c ∷ earlier) = put earlier ++ take c.fed.put c.is

-- after any calls, what they wrote and what `end` writes then is the output of what they took
pub record Promises (first : Journal) : Type 0 where
  pub all : (calls : List Ran) (now : Journal) → Runs first calls now
      → put calls ++ end (viewed now) ≡ output standard (taken calls)
