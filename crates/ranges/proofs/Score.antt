-- The score stays from -30 to 0. Assumes nothing.
use lib.Ieee.{Float, binary32, add, mul, le, of_bits}
use Rattle.ranges.specs.Interval.{In}
use Rattle.ranges.specs.Limits.{nought, score_min, floor, decay}
use Rattle.ranges.proofs.Interval.{add_in, scale_in}

-- 0.90 * s + l, for an old score s and what the mark or gap scores
pub score_in : (s l : Float) → In score_min nought s → In floor nought l → In score_min nought (add binary32 (mul binary32 decay s) l)
unfolding le of_bits mul add
score_in s l i j =
    add_in binary32 (mul binary32 decay score_min) nought (mul binary32 decay s) tt tt (scale_in binary32 score_min nought s tt tt i decay tt) floor nought l tt tt j
