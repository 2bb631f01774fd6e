-- The square root of document 01, "Root, rounding, logarithm": IEEE's, rounded to the nearest value of a format, over whole numbers. Definitions only;
-- `proofs/NearestRoot.antt` shows that no other value of the format is as near.
use Rattle.std.specs.Prelude.{ℕ, zero, suc, ◌+◌, ◌*◌, ◌/◌, ◌^◌, ◌<◌, Bool, true, false, cond, T, ℤ, ◌==◌, nat_le, Float}
use Rattle.std.specs.Float.{nan, inf, fin, Format}
use Rattle.std.specs.Float.Ieee.{low, up, down, size, round, fits}
use Rattle.std.specs.Float.Ieee.Exact.{HasValue}
use Rattle.std.specs.Float.Ieee.Scale.{finite}
use Rattle.numbers.specs.Answers.{Said, value, refused}

-- the whole part of the root of an n below 4 ^ d: the largest r with r * r ≤ n, from that of n / 4
unfoldable pub root_in : ℕ → ℕ → ℕ
root_in zero n = 0
root_in (suc d) n = let r = 2 * root_in d (n / 4) in cond (nat_le ((r + 1) * (r + 1)) n) (r + 1) r

unfoldable pub floor_root : ℕ → ℕ
floor_root n = root_in (size n) n

-- The root of m * 2 ^ e. In units of the format's smallest value it is the root of n. Its whole part is r, and where it is more than r, r and a half stands for it:
-- `round` cannot tell the two apart, since it keeps fewer digits than r has.
abbrev pub square_units : Format → ℕ → ℤ → ℕ
square_units f m e = m * up e * 2 ^ (2 * low f) / down e

unfoldable pub root_of : Format → ℕ → ℤ → Float
root_of f m e =
    let n = square_units f m e in
    let r = floor_root n in
    round f false (2 * r + cond (r * r == n) 0 1) (2 ^ (low f + 1))

-- IEEE's root on every value, as Rust's `sqrt` has it: a zero is its own root, with its sign, and what is below zero has none
unfoldable pub sqrt_of : Format → Float → Float
unfolding root_of
sqrt_of f nan = nan
sqrt_of f (inf true) = nan
sqrt_of f (inf false) = inf false
sqrt_of f (fin s zero e) = fin s zero e
sqrt_of f (fin true (suc m) e) = nan
sqrt_of f (fin false (suc m) e) = root_of f (suc m) e

-- refusal 11: NaN, infinite or below zero
abbrev pub rootless : Float → Bool
rootless nan = true
rootless (inf s) = true
rootless (fin s zero e) = false
rootless (fin s (suc m) e) = s

unfoldable pub sqrt_said : Format → Float → Said
unfolding sqrt_of
sqrt_said f v = cond (rootless v) (refused 11) (value (sqrt_of f v))

-- ---- what makes a value the root, rounded to the nearest: the statement that `proofs/NearestRoot.antt` proves of `root_of`

-- a finite value's size, in units of the format's smallest value
abbrev pub units_of : Format → Float → ℕ
units_of f nan = 0
units_of f (inf s) = 0
units_of f (fin s m e) = m * up e * 2 ^ low f / down e

-- The root of n is nearer to a than to b: it lies on a's side of (a + b) / 2, the middle between the two. Both sides are doubled and squared.
abbrev pub Nearer : ℕ → ℕ → ℕ → Type 0
Nearer n a b = (a < b → 4 * n < (a + b) * (a + b)) × (b < a → (a + b) * (a + b) < 4 * n)

-- r is a finite value of the format, not negative, and the root of m * 2 ^ e is nearer to it than to any other value of the format
pub record NearestRoot (f : Format) (m : ℕ) (e : ℤ) (r : Float) : Type 0 where
  pub held : T (fits f r)
  pub value : HasValue r false (units_of f r) (2 ^ low f)
  pub best : (y : Float) → T (fits f y) → T (finite y) → Nearer (square_units f m e) (units_of f r) (units_of f y)
