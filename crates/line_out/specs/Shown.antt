-- An output line (document 01, "Journal program"). Definitions only.
use Rattle.std.specs.Prelude.{cond, List, [], ◌∷◌, ◌++◌, ℕ, zero, suc, ◌+◌, ◌-◌, ◌/◌, ◌%◌, ltb}
use Prim.Native.Char.{code}
use Rattle.line_out.specs.declared.Shown.{Shown}
use Rattle.line_out.specs.declared.ShownCode.{ShownCode}
use Rattle.line_out.specs.Codes.{number, taken}

-- ---- bytes

abbrev pub tab : ℕ
tab = 9

abbrev pub newline : ℕ
newline = 10

-- a digit: `0` to `9`, then the capitals `A` to `F`
abbrev pub glyph : ℕ → ℕ
glyph d = cond (ltb d 10) (code "0" + d) (code "A" + (d - 10))

-- ---- numbers

-- the last k digits of n to the base b, the highest first
unfoldable pub digits : ℕ → ℕ → ℕ → List ℕ
digits b zero n = []
digits b (suc k) n = digits b k (n / b) ++ (glyph (n % b) ∷ [])

-- "8 hexadecimal digits of f32 bits"
abbrev pub hexadecimal : ℕ → List ℕ
hexadecimal n = digits 16 8 n

-- a number of at most k digits: below ten one digit, else those of its tenth and the last one
unfoldable pub tens : ℕ → ℕ → List ℕ
tens zero n = []
tens (suc k) n = cond (ltb n 10) (glyph n ∷ []) (tens k (n / 10) ++ (glyph (n % 10) ∷ []))

-- a number without leading zeros, 0 as `0`: 20 digits hold every number of 64 bits
abbrev pub decimal : ℕ → List ℕ
decimal n = tens 20 n

-- ---- the line

-- "Codes: 0 done, 1 an unready primary became ready .., 2 switched, 3 nothing to do .., R and the number if refused"
abbrev pub coded : ShownCode → List ℕ
coded c = cond (taken c) [] (code "R" ∷ []) ++ decimal (number c)

-- "fields parted by tabs"
abbrev pub parted : List (List ℕ) → List ℕ
parted [] = []
parted (f ∷ []) = f
parted (f ∷ g ∷ fs) = f ++ (tab ∷ parted (g ∷ fs))

-- "Each output line ..: the letter (`?` if bad), code, dit and dah centroid as 8 hexadecimal digits of f32 bits,
-- primary serial, challenger count"
abbrev pub fields : Shown → List (List ℕ)
fields s =
    (s.letter ∷ [])
    ∷ coded s.code
    ∷ hexadecimal s.dit
    ∷ hexadecimal s.dah
    ∷ decimal s.serial
    ∷ decimal s.challengers
    ∷ []

-- newline last
unfoldable pub line : Shown → List ℕ
line s = parted (fields s) ++ (newline ∷ [])
