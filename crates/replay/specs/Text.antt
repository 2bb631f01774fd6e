-- Numbers as text, as the lines of a script have them and as the programs print them. Definitions only.
use Rattle.std.specs.Prelude.{◌&&◌, cond, List, [], ◌∷◌, ℕ, zero, suc, ◌+◌, ◌-◌, ◌*◌, ◌/◌, ◌%◌, ◌^◌, nat_le, nat_lt}
use Rattle.std.specs.Prelude.{ltb, slice_index}
use Rattle.std.specs.Float.{Float, binary32, nan}
use Rattle.std.specs.Float.Ieee.{of_bits}

-- ---- read

-- the value of a digit, 0 to 9 or A to F; of any other byte, 0
abbrev pub digit_of : ℕ → ℕ
digit_of b = cond (nat_le 48 b && nat_le b 57) (b - 48) (cond (nat_le 65 b && nat_le b 70) (b - 55) 0)

-- the number whose digits, so many of them, begin at a place of a line
abbrev pub number_at : ℕ → List ℕ → ℕ → ℕ
number_at zero line at = 0
number_at (suc n) line at = 16 * number_at n line at + digit_of (slice_index line (at + n))

-- the float of a pattern; of every pattern of a NaN, one NaN
abbrev pub float_of : ℕ → Float
float_of bits = cond (ltb 0x7f80_0000 (bits % 0x8000_0000)) nan (of_bits binary32 bits)

-- ---- printed

-- the digit of a value below 16
abbrev pub glyph_of : ℕ → ℕ
glyph_of d = cond (nat_lt d 10) (48 + d) (55 + d)

-- so many digits of a number, the greatest first
abbrev pub digits_of : ℕ → ℕ → List ℕ
digits_of zero v = []
digits_of (suc n) v = glyph_of (v / 16 ^ n % 16) ∷ digits_of n v

-- a blank before them
abbrev pub field_of : ℕ → ℕ → List ℕ
field_of n v = 32 ∷ digits_of n v
