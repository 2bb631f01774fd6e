-- Rust's `clamp`: what it gives lies between its limits. Assumes nothing.
use mathlib.Core.Bool.{Bool, true, false, not, cond}
use lib.Dec.{T}
use lib.Ieee.{Float, Format, fits, is_nan, le, lt}
use Rattle.ranges.specs.Interval.{In}
use Rattle.order.specs.Order.{clamp}
use Rattle.ranges.proofs.Compare.{nlt→le}

pub clamp_in : (lo hi x : Float) → T (not (is_nan lo)) → T (not (is_nan hi)) → T (not (is_nan x)) → T (le lo lo) → T (le hi hi) → T (le lo hi) → In lo hi (clamp lo hi x)
clamp_in lo hi x p q r l h lh = go (lt x lo) (lt hi x) (nlt→le x lo r p) (nlt→le hi x q r)
  where
    go : (a b : Bool) → (T (not a) → T (le lo x)) → (T (not b) → T (le x hi)) → In lo hi (cond a lo (cond b hi x))
    go true b u v = (l, lh)
    go false true u v = (lh, h)
    go false false u v = (u tt, v tt)

pub clamp_fits : (f : Format) (lo hi x : Float) → T (fits f lo) → T (fits f hi) → T (fits f x) → T (fits f (clamp lo hi x))
clamp_fits f lo hi x l h p = go (lt x lo) (lt hi x)
  where
    go : (a b : Bool) → T (fits f (cond a lo (cond b hi x)))
    go true b = l
    go false true = h
    go false false = p
