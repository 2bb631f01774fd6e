-- Document 01's twelve settled examples, one list. Definitions only; proofs/Examples.antt computes them.
use Rattle.std.specs.Prelude.{◌≡◌, ℕ, List, [], ◌∷◌, pos, from_bits, Float}
use Rattle.std.specs.Float.{binary32}
use Rattle.std.specs.Float.Ieee.{of_int}
use Rattle.numbers.specs.Log.{ln_said}
use Rattle.numbers.specs.Answers.{value}
use Rattle.ranges.specs.Settings.{standard}
use Rattle.tracker.specs.Model.{Tracker}
use Rattle.tracker.specs.Steps.{fresh, on_mark}

-- a whole number as f32
abbrev pub whole : ℕ → Float
whole n = of_int binary32 (pos n)

-- marks of whole milliseconds, one after another
unfoldable pub fed : Tracker → List ℕ → Tracker
fed t [] = t
fed t (n ∷ ns) = fed (on_mark standard t (whole n)) ns

-- a fresh tracker fed with marks, its dit and dah then; or a number and its logarithm, as bits
pub data Example : Type 0 where
  tracked : List ℕ → ℕ → ℕ → Example
  logged : ℕ → ℕ → Example

abbrev pub Holds : Example → Type 0
Holds (tracked marks dit dah) = ((fed fresh marks).pair.lo ≡ whole dit) × ((fed fresh marks).pair.hi ≡ whole dah)
Holds (logged v r) = ln_said (from_bits binary32 v) ≡ value (from_bits binary32 r)

unfoldable pub AllHold : List Example → Type 0
AllHold [] = Unit {0}
AllHold (e ∷ es) = Holds e × AllHold es

abbrev pub five : ℕ → List ℕ → List ℕ
five n l = n ∷ n ∷ n ∷ n ∷ n ∷ l

abbrev pub settled : List Example
settled =
    tracked (five 60 []) 60 180
    ∷ tracked (50 ∷ 50 ∷ 150 ∷ 150 ∷ 50 ∷ []) 50 150
    ∷ tracked (50 ∷ 100 ∷ 100 ∷ 100 ∷ 100 ∷ []) 50 150
    ∷ tracked (five 150 []) 150 450
    ∷ tracked (five 300 []) 100 300
    ∷ tracked (five 1000 []) 150 450
    ∷ tracked (five 60 (120 ∷ [])) 60 180
    ∷ tracked (five 60 (150 ∷ [])) 60 150
    ∷ tracked (five 300 (50 ∷ [])) 50 300
    ∷ tracked (50 ∷ 50 ∷ 200 ∷ 200 ∷ 200 ∷ 100 ∷ []) 50 185
    ∷ logged 0x3f80_0000 0x0000_0000
    ∷ logged 0x3f00_0000 0xbf31_7218
    ∷ []
