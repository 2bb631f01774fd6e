-- The logarithm of document 01, "Root, rounding, logarithm": 24 binary digits of the logarithm to the base 2, by squaring, times ln 2 as 2977044472 / 2 ^ 32, rounded once. Definitions only.
use Rattle.std.specs.Prelude.{ℕ, zero, suc, ◌+◌, ◌*◌, ◌/◌, ◌^◌, Bool, true, false, cond, ℤ, pos, negsuc, nat_le, Float}
use Rattle.std.specs.Float.{nan, inf, fin, binary32}
use Rattle.std.specs.Float.Ieee.{size, minus, round}
use Rattle.std.specs.Float.Ieee.Positive.{positive}
use Rattle.numbers.specs.Answers.{Said, value, refused}

-- y times y, divided by 2 ^ 31, rounded down
abbrev pub squared : ℕ → ℕ
squared y = y * y / 2 ^ 31

-- whether that is at least 2 ^ 32: then the bit is 1, and it is halved, rounded down
abbrev pub full : ℕ → Bool
full y = nat_le (2 ^ 32) (squared y)

abbrev pub digit : ℕ → ℕ
digit y = cond (full y) 1 0

abbrev pub next : ℕ → ℕ
next y = cond (full y) (squared y / 2) (squared y)

-- d bits, the first one highest, after those of t
unfoldable pub digits : ℕ → ℕ → ℕ → ℕ
digits zero y t = t
digits (suc d) y t = digits d (next y) (2 * t + digit y)

-- an exponent e is rise e - fall e
abbrev pub rise : ℤ → ℕ
rise (pos a) = a
rise (negsuc a) = 0

abbrev pub fall : ℤ → ℕ
fall (pos a) = 0
fall (negsuc a) = suc a

-- the leading one of m, brought to bit 31: m * 2 ^ e is lead m / 2 ^ 31 * 2 ^ E for E = e + size m - 1
abbrev pub lead : ℕ → ℕ
lead m = m * 2 ^ 32 / 2 ^ size m

-- L = E * 2 ^ 24 + t
abbrev pub fixed : ℕ → ℤ → ℤ
fixed m e = minus ((rise e + size m) * 2 ^ 24 + digits 24 (lead m) 0) ((fall e + 1) * 2 ^ 24)

-- L * 2977044472 / 2 ^ 56 as the nearest f32, a tie to the even one; +0 for zero
abbrev pub scaled : ℤ → Float
scaled (pos n) = round binary32 false (n * 2977044472) (2 ^ 56)
scaled (negsuc n) = round binary32 true (suc n * 2977044472) (2 ^ 56)

-- the logarithm of m * 2 ^ e; of what is not finite and above zero there is none
unfoldable pub ln_of : Float → Float
ln_of nan = nan
ln_of (inf s) = nan
ln_of (fin s zero e) = nan
ln_of (fin true (suc m) e) = nan
ln_of (fin false (suc m) e) = scaled (fixed (suc m) e)

-- refusal 10: the input is not finite and positive
unfoldable pub ln_said : Float → Said
unfolding ln_of
ln_said v = cond (positive v) (value (ln_of v)) (refused 10)
