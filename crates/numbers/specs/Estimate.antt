-- How a root is estimated, in floats, before it is tested: an f64's by its square, in whole numbers; an f32's by the
-- squares of the two middles beside it, which are exact in f64. No result rests on an estimate; it is written down so
-- that no change of the code passes unseen. Definitions only.
use Rattle.std.specs.Prelude.{ℕ, ◌+◌, ◌-◌, ◌*◌, ◌/◌, ◌%◌, ◌^◌, Bool, cond, not, ◌&&◌, nat_le, nat_lt, to_bits, Float}
use Rattle.std.specs.Int.Count.{count_leading_zeros}
use Rattle.std.specs.Float.{binary32, binary64}
use Rattle.std.specs.Float.Ieee.{of_bits, lt, le, mul, sub}
use Rattle.numbers.specs.Root.{sqrt_of}

-- the largest u64: no root is certified
abbrev pub uncertified : ℕ
uncertified = 2 ^ 64 - 1

-- y * (1.5 - h * y * y): one step of Newton's towards 1 / the root of 2 * h
unfoldable pub newton_of : Float → Float → Float
unfolding mul sub of_bits
newton_of y h = mul binary64 y (sub binary64 (of_bits binary64 0x3ff8_0000_0000_0000) (mul binary64 (mul binary64 h y) y))

-- the first y, from the pattern of 2 * h
abbrev pub first_of : ℕ → Float
first_of p = of_bits binary64 (0x5fe6_eb50_c7b5_37a9 - p / 2)

-- the pattern of the f32 nearest to r, where that is a normal number, and else 0
abbrev pub near_pattern : Float → ℕ
near_pattern r =
    cond (lt (of_bits binary64 0) r && nat_le 0x3810_0000_0000_0000 (to_bits binary64 r) && nat_lt (to_bits binary64 r) 0x47e0_0000_0000_0000)
    ((to_bits binary64 r - 0x3800_0000_0000_0000 + 2 ^ 28) / 2 ^ 29)
    0

-- 0.5 * x
abbrev pub half_of : Float → Float
half_of x = mul binary64 (of_bits binary64 0x3fe0_0000_0000_0000) x

-- the same after three steps, as a pattern of f32
abbrev pub estimate32_of : Float → ℕ
estimate32_of v =
    cond (nat_le 0x7fe0_0000_0000_0000 (to_bits binary64 v)) 0
    (near_pattern (mul binary64 v (newton_of (newton_of (newton_of (first_of (to_bits binary64 v)) (half_of v)) (half_of v)) (half_of v))))

-- whether the pattern c is the root's: a normal number, not below the root, and the one before it is
abbrev pub certifies : ℕ → Float → Bool
certifies c v = nat_lt (2 ^ 23) c && nat_lt c (254 * 2 ^ 23) && not (lt (of_bits binary32 c) (sqrt_of binary32 v)) && lt (of_bits binary32 (c - 1)) (sqrt_of binary32 v)

-- the pattern of m / 2 ^ 62 for an m from 2 ^ 62, with z leading zeros, 0 or 1
abbrev pub pattern_of : ℕ → ℕ → ℕ
pattern_of m z = (1024 - z) * 2 ^ 52 % 2 ^ 64 + m * 2 ^ z % 2 ^ 64 / 2 ^ 11 % 2 ^ 52

-- x times y after four steps, near the root of x, whose pattern is p
abbrev pub near_root : ℕ → Float
near_root p =
    let x = of_bits binary64 p in
    mul binary64 x (newton_of (newton_of (newton_of (newton_of (first_of p) (half_of x)) (half_of x)) (half_of x)) (half_of x))

-- 53 digits of r, from 1 below 2, and three zeros
abbrev pub digits_of : Float → ℕ
digits_of r = cond (le (of_bits binary64 0x3ff0_0000_0000_0000) r) (8 * (2 ^ 52 + to_bits binary64 r % 2 ^ 52)) (2 ^ 55)

abbrev pub estimate64_of : ℕ → ℕ
estimate64_of m = cond (nat_lt 1 (count_leading_zeros 64 m)) (2 ^ 55) (digits_of (near_root (pattern_of m (count_leading_zeros 64 m))))

-- q, moved by what is left of the square, r modulo 2 ^ 64
abbrev pub corrected_of : ℕ → ℕ → ℕ
corrected_of q r = cond (nat_lt r (2 ^ 63)) (q + r / (2 * q)) (q - 1 - (uncertified - r) / (2 * q))

-- x * 2 ^ 28 - y, or `uncertified` where that is below zero or x has more than 35 digits
abbrev pub lifted_of : ℕ → ℕ → ℕ
lifted_of x y = cond (nat_lt x (2 ^ 35) && nat_le y (x * 2 ^ 28)) (x * 2 ^ 28 - y) uncertified
