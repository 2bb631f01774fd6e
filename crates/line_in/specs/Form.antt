-- The form of a line of the journal, and what a line says (document 01, "Journal program"). A line is its bytes,
-- without the newline. Definitions only.
use Rattle.std.specs.Prelude.{Bool, true, false, Option, Some, None, cond, ◌&&◌, List, [], ◌∷◌, ℕ, ◌+◌, ◌-◌, ◌*◌, leb}
use Rattle.std.specs.Prelude.{ltb, eqb, length, pos, Float}
use Prim.Native.Char.{Char, code}
use Rattle.std.specs.Float.{binary32}
use Rattle.std.specs.Float.Ieee.{of_int, div}
use Rattle.station_model.specs.declared.Event.TheVariants.{Mark, Gap, Finish, Seed, Hint, Clear, Switch}
use Rattle.line_in.specs.declared.Entry.{Entry}
use Rattle.line_in.specs.declared.Entry.TheVariants.{Watch, Call}
use Rattle.line_in.specs.Fields.{fields}

-- ---- what a field holds

-- the field is this one character
abbrev pub only : Char → List ℕ → Bool
only c [] = false
only c (b ∷ []) = eqb b (code c)
only c (b ∷ d ∷ l) = false

abbrev pub is_digit : ℕ → Bool
is_digit b = leb (code "0") b && leb b (code "9")

unfoldable pub digits : List ℕ → Bool
digits [] = true
digits (b ∷ l) = is_digit b && digits l

-- "Whole numbers have 1 to 8 digits", leading zeros among them
abbrev pub is_whole : List ℕ → Bool
is_whole f = leb 1 (length f) && leb (length f) 8 && digits f

-- the number n, with the digits of l written after it
unfoldable pub followed : ℕ → List ℕ → ℕ
followed n [] = n
followed n (b ∷ l) = followed (n * 10 + (b - code "0")) l

unfoldable pub number : List ℕ → Option ℕ
number f = cond (is_whole f) (Some (followed 0 f)) None

-- "one digit, 0 or 1"
unfoldable pub flag : List ℕ → Option Bool
flag f = cond (only "0" f) (Some false) (cond (only "1" f) (Some true) None)

-- ---- what a number counts as

-- "An `S` or `H` number above 16,777,216 counts as 16,777,216"
abbrev pub capped : ℕ → ℕ
capped n = cond (ltb 16777216 n) 16777216 n

-- "an `M` or `G` number above it counts as 16,777,218, which 7 refuses"
abbrev pub ticks : ℕ → ℕ
ticks n = cond (ltb 16777216 n) 16777218 n

-- A number as f32, and so many 64ths: "A tick is 1/64 ms". No number of a line is changed by rounding
-- (specs/Exact.antt).
unfoldable pub whole : ℕ → Float
whole n = of_int binary32 (pos n)

unfoldable pub sixty_fourths : ℕ → Float
sixty_fourths n = div binary32 (whole n) (whole 64)

-- ---- what a line says, by its letter; none where it breaks its form

-- one field: "`F`, `C`, `X`"
abbrev pub one : List ℕ → Option Entry
one f =
    cond (only "F" f) (Some (Call Finish))
    (cond (only "C" f) (Some (Call Clear)) (cond (only "X" f) (Some (Call Switch)) None))

-- two: "`G` ticks, `S` whole words a minute, `H` ratio in 64ths"
abbrev pub two : List ℕ → ℕ → Option Entry
two f n =
    cond (only "G" f) (Some (Call (Gap (sixty_fourths (ticks n)))))
    (cond (only "S" f) (Some (Call (Seed (whole (capped n)))))
    (cond (only "H" f) (Some (Call (Hint (sixty_fourths (capped n))))) None))

-- three: "`W`, width, switching", "`M`, ticks, live"; a width above 8 is refused by 3, and no matter of form
abbrev pub three : List ℕ → ℕ → Bool → Option Entry
three f n on =
    cond (only "W" f) (Some (Watch n on)) (cond (only "M" f) (Some (Call (Mark (sixty_fourths (ticks n)) on))) None)

-- ---- the form

abbrev pub numbered : List ℕ → Option ℕ → Option Entry
numbered f (Some n) = two f n
numbered f None = None

abbrev pub flagged : List ℕ → Option ℕ → Option Bool → Option Entry
flagged f (Some n) (Some on) = three f n on
flagged f (Some n) None = None
flagged f None b = None

unfoldable pub said : List (List ℕ) → Option Entry
said [] = None
said (f ∷ []) = one f
said (f ∷ n ∷ []) = numbered f (number n)
said (f ∷ n ∷ b ∷ []) = flagged f (number n) (flag b)
said (f ∷ n ∷ b ∷ d ∷ l) = None

-- "at most 80 bytes with" the newline
unfoldable pub entry : List ℕ → Option Entry
entry l = cond (ltb 79 (length l)) None (said (fields l))
