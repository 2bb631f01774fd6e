-- What the parts of the code promise each other; no public contract needs them. Definitions only.
use Rattle.std.specs.Prelude.{◌≡◌, ℕ, ◌+◌, ◌-◌, ◌*◌, ◌%◌, ◌^◌, ◌<◌, ◌≤◌, cond, ◌⊎◌, ◌==◌, ◌≢◌, Float}
use Rattle.std.specs.Float.{Format}
use Rattle.std.specs.Float.Ieee.{emax, hid, low, minus, prec}
use Rattle.std.specs.Float.Ieee.Exact.{HasValue}
use Rattle.numbers.specs.Log.{digits, ln_of, scaled}
use Rattle.numbers.specs.declared.rounding.Parts.{Parts}
use Rattle.numbers.specs.declared.root.Extract.{Extract}

-- v is sig * 2 ^ j of the format's smallest value, negative where neg is true; sig has as many digits as the format,
-- or fewer where j is 0
pub record Parted (f : Format) (v : Float) (p : Parts) : Type 0 where
  pub value : HasValue v p.neg (p.sig * 2 ^ p.j) (2 ^ low f)
  pub small : p.sig < 2 ^ prec f
  pub near : p.j < 2 * emax f
  pub lead : (p.j ≡ 0) ⊎ (hid f ≤ p.sig)

-- y has v's leading one at bit 31, and e is its exponent, with 149 more: the logarithm follows from e
-- and the digits of y
pub record Begun (v : Float) (y e : ℕ) : Type 0 where
  pub low : 2 ^ 31 ≤ y
  pub high : y < 2 ^ 32
  pub most : e < 277
  pub is : (t : ℕ) → t ≡ digits 24 y 0 → scaled (minus (e * 2 ^ 24 + t) (149 * 2 ^ 24)) ≡ ln_of v

-- q is the whole part of the root of m * 2 ^ 48
pub record Extracted (m : ℕ) (r : Extract) : Type 0 where
  pub split : r.q * r.q + r.rest ≡ m * 2 ^ 48
  pub rests : r.rest ≤ 2 * r.q
  pub small : r.q < 2 ^ 56

-- r is what is left of m * 2 ^ 48 below q * q, if q is the root's whole part, or the largest u64; an m that 256 divides and its root are not passed over
pub record Rest (m q r : ℕ) : Type 0 where
  pub split : (r ≢ 2 ^ 64 - 1) → q * q + r ≡ m * 2 ^ 48
  pub rests : (r ≢ 2 ^ 64 - 1) → r ≤ 2 * q
  pub found : (t : ℕ) → m % 256 ≡ 0 → t ≤ 2 * q → q * q + t ≡ m * 2 ^ 48 → r ≡ t

-- w is twice the whole part q of the root of sig * 2 ^ sh * 2 ^ 48, and one more where that root is not whole
pub record Rooted (sig j w k : ℕ) : Type 0 where
  pub sh : ℕ
  pub q : ℕ
  pub rest : ℕ
  pub split : q * q + rest ≡ sig * 2 ^ sh * 2 ^ 48
  pub rests : rest ≤ 2 * q
  pub large : 2 ^ 62 ≤ sig * 2 ^ sh
  pub small : sig * 2 ^ sh < 2 ^ 64
  pub even : sh + 2 * k ≡ j + 1024
  pub is : w ≡ 2 * q + cond (rest == 0) 0 1
