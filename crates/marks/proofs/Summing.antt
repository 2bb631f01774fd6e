-- The loops that add marks in f64. Assumes nothing.
use mathlib.Core.Bool.{not, ◌&&◌}
use mathlib.Core.List.{List}
use Prim.Native.Nat.{ℕ, ◌<◌}
use lib.Dec.{T}
use lib.ListN.{length, get_or}
use lib.Ieee.{Float, nan, binary32, binary64, fits, is_nan}
use lib.Ieee.Fits.{and_i, fits_widens}
use Rattle.ranges.specs.Limits.{duration_min, duration_max}
use Rattle.ranges.proofs.Mean.{all_at, duration_number, sum_start, sum_next, squares_next}
use Rattle.marks.specs.Lists.{all_durations}
use Rattle.marks.proofs.Bounds.{durations_in}

-- entry i of a list of durations, cast to f64
pub castable : (xs : List Float) (i : ℕ) → T (all_durations xs) → i < length xs → T (fits binary32 (get_or xs i nan))
    → T (fits binary64 (get_or xs i nan) && not (is_nan (get_or xs i nan)))
castable xs i m h F =
    let x = get_or xs i nan in
    let r = all_at duration_min duration_max xs i (durations_in xs m) h in
    and_i (fits binary64 x) (not (is_nan x)) (fits_widens x F) (duration_number x r)

-- what the loops cite
pub ruleset summing = (castable, sum_start, sum_next, squares_next)
