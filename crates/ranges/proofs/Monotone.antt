-- +, -, * and / are monotone over both signs, in both formats. Assumes nothing.
use mathlib.Core.Path.{◌≡◌, ap}
use Prim.Native.Nat.{ℕ, ◌+◌, ◌*◌, ◌≤◌}
use native.Mathlib.Nat.{mul-le-mul_right}
use native.Mathlib.Omega.{arith}
use lib.Dec.{T}
use lib.Ieee.{Float, Format, neg, add, sub, mul, div, le}
use lib.Ieee.Scale.{finite}
use lib.Ieee.Positive.{den, positive}
use Rattle.ranges.proofs.Signed.{ps, ng, flat, le→signed, le_neg, neg_finite, nonneg, nonneg_finite, nonneg_ng, positive_nonneg, positive_ng}
use Rattle.ranges.proofs.Rounded.{rounded_mono, add_rounded, sub_is, mul_plus, div_rounded}

-- ---- sums and differences
add_cross : (a b c a' b' c' u v w u' v' w' : ℕ) → a * c' + b' * c ≤ a' * c + b * c' → u * w' + v' * w ≤ u' * w + v * w'
    → (a * w + u * c) * (c' * w') + (b' * w' + v' * c') * (c * w) ≤ (a' * w' + u' * c') * (c * w) + (b * w + v * c) * (c' * w')
add_cross a b c a' b' c' u v w u' v' w' h k =
    let H = simp flat at (mul-le-mul_right (w * w') h) in
    let K = simp flat at (mul-le-mul_right (c * c') k) in
    simp flat (omega arith)

pub add_mono : (f : Format) (x x' y y' : Float) → T (finite x) → T (finite x') → T (finite y) → T (finite y') → T (le x x') → T (le y y') → T (le (add f x y) (add f x' y'))
add_mono f x x' y y' p p' q q' h k =
    rounded_mono f (add f x y) (add f x' y') _ _ _ _ _ _ (add_rounded f x y p q) (add_rounded f x' y' p' q')
    (add_cross (ps x) (ng x) (den x) (ps x') (ng x') (den x') (ps y) (ng y) (den y) (ps y') (ng y') (den y') (le→signed x x' p p' h) (le→signed y y' q q' k))

pub sub_mono : (f : Format) (x x' y y' : Float) → T (finite x) → T (finite x') → T (finite y) → T (finite y') → T (le x x') → T (le y' y) → T (le (sub f x y) (sub f x' y'))
sub_mono f x x' y y' p p' q q' h k =
    rw (sub_is f x y, sub_is f x' y') (add_mono f x x' (neg y) (neg y') p p' (neg_finite y q) (neg_finite y' q') h (le_neg y' y k))

-- ---- a factor that is not below zero keeps the order, over both signs
mul_cross : (a c u v w u' v' w' : ℕ) → u * w' + v' * w ≤ u' * w + v * w' → (a * u) * (c * w') + (a * v') * (c * w) ≤ (a * u') * (c * w) + (a * v) * (c * w')
mul_cross a c u v w u' v' w' k =
    let K = simp flat at (mul-le-mul_right (a * c) k) in
    simp flat (omega arith)

pub mul_mono_right : (f : Format) (x y y' : Float) → T (nonneg x) → T (finite y) → T (finite y') → T (le y y') → T (le (mul f x y) (mul f x y'))
mul_mono_right f x y y' p q q' k =
    rounded_mono f (mul f x y) (mul f x y') _ _ _ _ _ _ (mul_plus f x y p q) (mul_plus f x y' p q')
    (mul_cross (ps x) (den x) (ps y) (ng y) (den y) (ps y') (ng y') (den y') (le→signed y y' q q' k))

-- ---- a quotient by a divisor above zero
div_cross : (a b c a' b' c' u w : ℕ) → a * c' + b' * c ≤ a' * c + b * c' → (a * w) * (u * c') + (b' * w) * (u * c) ≤ (a' * w) * (u * c) + (b * w) * (u * c')
div_cross a b c a' b' c' u w k =
    let K = simp flat at (mul-le-mul_right (u * w) k) in
    simp flat (omega arith)

pub div_mono_left : (f : Format) (x x' y : Float) → T (finite x) → T (finite x') → T (positive y) → T (le x x') → T (le (div f x y) (div f x' y))
div_mono_left f x x' y p p' q h =
    rounded_mono f (div f x y) (div f x' y) _ _ _ _ _ _ (div_rounded f x y p q) (div_rounded f x' y p' q)
    (div_cross (ps x) (ng x) (den x) (ps x') (ng x') (den x') (ps y) (den y) (le→signed x x' p p' h))

under_cross : (a b c u v w u' v' w' : ℕ) → b ≡ 0 → v ≡ 0 → v' ≡ 0 → u * w' + v' * w ≤ u' * w + v * w' → (a * w') * (u * c) + (b * w) * (u' * c) ≤ (a * w) * (u' * c) + (b * w') * (u * c)
under_cross a b c u v w u' v' w' B Z Z' k =
    let k' : u * w' ≤ u' * w = omega (arith, ap (λ (z : ℕ). z * w) Z', ap (λ (z : ℕ). z * w') Z) in
    let K = simp flat at (mul-le-mul_right (a * c) k') in
    let z = simp flat at (ap (λ (z : ℕ). z * (w * (u' * c))) B) in
    simp flat (omega arith)

pub div_anti_right : (f : Format) (x y y' : Float) → T (nonneg x) → T (positive y) → T (positive y') → T (le y y') → T (le (div f x y') (div f x y))
div_anti_right f x y y' p q q' k =
    rounded_mono f (div f x y') (div f x y) _ _ _ _ _ _ (div_rounded f x y' (nonneg_finite x p) q') (div_rounded f x y (nonneg_finite x p) q)
    (under_cross (ps x) (ng x) (den x) (ps y) (ng y) (den y) (ps y') (ng y') (den y') (nonneg_ng x p) (positive_ng y q) (positive_ng y' q')
    (le→signed y y' (nonneg_finite y (positive_nonneg y q)) (nonneg_finite y' (positive_nonneg y' q')) k))
