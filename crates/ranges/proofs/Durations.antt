-- Durations, from 1/64 to 262144: what is made of them stays finite and above zero. Assumes nothing.
use mathlib.Core.Path.{◌≡◌, ap}
use mathlib.Core.Bool.{false, not}
use Prim.Native.Nat.{ℕ, ◌+◌, ◌*◌, ◌≤◌}
use native.Mathlib.Omega.{arith}
use lib.Dec.{T}
use lib.Ieee.{Float, fin, Format, binary32, binary64, mul, div, le, fits, is_nan, of_bits}
use lib.Ieee.Scale.{finite}
use lib.Ieee.Positive.{den, positive, between, positive-finite}
use lib.IntN.{pos, negsuc}
use Rattle.ranges.specs.Interval.{In}
use Rattle.ranges.specs.Limits.{duration_min, duration_max, ideal_ratio}
use Rattle.ranges.proofs.Signed.{ps, ng, le→signed, positive_ng, finite_number}
use Rattle.ranges.proofs.Rounded.{rounded_mono, div_rounded}
use Rattle.ranges.proofs.Own.{own_rounded}
use Rattle.ranges.proofs.Interval.{scale_in, over_in, div_in}

pub duration_positive : (x : Float) → In duration_min duration_max x → T (positive x)
unfolding of_bits
duration_positive x i = between duration_min x duration_max tt tt i.0 i.1

pub duration_finite : (x : Float) → In duration_min duration_max x → T (finite x)
duration_finite x i = positive-finite x (duration_positive x i)

pub duration_number : (x : Float) → In duration_min duration_max x → T (not (is_nan x))
duration_number x i = finite_number x (duration_finite x i)

-- dahs assumed three dits: three times a duration, and a third of one
pub threefold_positive : (x : Float) → In duration_min duration_max x → T (positive (mul binary32 ideal_ratio x))
unfolding of_bits mul
threefold_positive x i =
    let k = scale_in binary32 duration_min duration_max x tt tt i ideal_ratio tt in
    between (mul binary32 ideal_ratio duration_min) (mul binary32 ideal_ratio x) (mul binary32 ideal_ratio duration_max) tt tt k.0 k.1

pub third_positive : (x : Float) → In duration_min duration_max x → T (positive (div binary32 x ideal_ratio))
unfolding of_bits div
third_positive x i =
    let k = over_in binary32 duration_min duration_max x tt tt i ideal_ratio tt in
    between (div binary32 duration_min ideal_ratio) (div binary32 x ideal_ratio) (div binary32 duration_max ideal_ratio) tt tt k.0 k.1

-- the ratio of two durations is from 2 ^ -24 to 2 ^ 24
pub duration_ratio_in : (x y : Float) → In duration_min duration_max x → In duration_min duration_max y → In (fin false 1 (negsuc 23)) (fin false 1 (pos 24)) (div binary32 y x)
unfolding of_bits div
duration_ratio_in x y i j = div_in binary32 duration_min duration_max y duration_min duration_max x tt tt tt tt j i

-- and at least 1 where the first is not the larger, in both formats
abbrev pub one : Float
one = fin false 1 (pos 0)

one_fits : (f : Format) → T (fits f one)
unfolding fits
one_fits binary32 = tt
one_fits binary64 = tt

one_cross : (a b c u v w : ℕ) → u * c ≤ a * w → b ≡ 0 → 1 * (u * c) + b * w * 1 ≤ a * w * 1 + 0 * (u * c)
one_cross a b c u v w h z = omega (arith, ap (λ (x : ℕ). x * w) z)

pub ratio_from_one : (f : Format) (x y : Float) → T (positive x) → T (positive y) → T (le x y) → T (le one (div f y x))
ratio_from_one f x y p q h =
    rounded_mono f one (div f y x) _ _ _ _ _ _ (own_rounded f one tt (one_fits f)) (div_rounded f y x (positive-finite y q) p)
    (one_cross (ps y) (ng y) (den y) (ps x) (ng x) (den x)
    (omega (arith, le→signed x y (positive-finite x p) (positive-finite y q) h, ap (λ (z : ℕ). z * den x) (positive_ng y q), ap (λ (z : ℕ). z * den y) (positive_ng x p))) (positive_ng y q))
