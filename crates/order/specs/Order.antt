-- What Rust has for the order of floats, on every value: clamp, max, abs, total_cmp. Definitions only.
use Rattle.std.specs.Prelude.{Bool, false, not, ◌&&◌, ◌||◌, cond, Float}
use Rattle.std.specs.Float.{nan, inf, fin}
use Rattle.std.specs.Float.Ieee.{lt, eq, is_nan}

-- `v.clamp(lo, hi)`, by two tests: a NaN stays as it is. Where lo is above hi, or one of them is NaN, Rust panics
abbrev pub clamp : Float → Float → Float → Float
clamp lo hi v = cond (lt v lo) lo (cond (lt hi v) hi v)

-- `a.max(b)`: a NaN gives way to the other
abbrev pub larger : Float → Float → Float
larger a b = cond (is_nan a) b (cond (lt a b) b a)

-- `v.abs()`
abbrev pub abs : Float → Float
abs nan = nan
abs (inf s) = inf false
abs (fin s m e) = fin false m e

-- whether the sign is minus
abbrev pub negative : Float → Bool
negative nan = false
negative (inf s) = s
negative (fin s m e) = s

-- `a.total_cmp(&b)` is less: -0 is below +0, and NaN, which has no sign here, is above all
unfoldable pub total_less : Float → Float → Bool
unfolding lt eq is_nan
total_less a b = not (is_nan a) && (is_nan b || lt a b || (eq a b && negative a && not (negative b)))
