-- Interval arithmetic: where the arguments lie in intervals, the result lies in the interval of the rounded ends. Over both signs, in both formats. Assumes nothing.
use Prim.Native.Nat.{ℕ, ◌+◌, ◌*◌, ◌≤◌}
use native.Mathlib.Nat.{mul-le-mul_right}
use native.Mathlib.Omega.{arith}
use mathlib.Core.Bool.{true, false}
use lib.Dec.{T}
use lib.Ieee.{Float, nan, inf, fin, Format, neg, add, sub, mul, div, le, fits}
use lib.Ieee.Fits.{neg-fits}
use lib.Ieee.Scale.{finite}
use lib.Ieee.Positive.{den, positive, positive-finite, between, mul_mono}
use Rattle.ranges.specs.Interval.{In}
use Rattle.ranges.specs.Limits.{nought}
use Rattle.ranges.proofs.Signed.{ps, ng, flat, le→signed, signed→le, le_neg, le_trans_float, nonneg, positive_nonneg, positive_ng, neg_finite, neg_ps, neg_ng, neg_den}
use Rattle.ranges.proofs.Rounded.{Rounded, rounded_mono, add_rounded, sub-rounded}
use Rattle.ranges.proofs.Monotone.{add_mono, sub_mono, mul_mono_right, div_mono_left, div_anti_right}
use Rattle.ranges.proofs.Own.{own_rounded}

-- ---- what lies between finite values is finite
pub in_finite : (lo hi x : Float) → T (finite lo) → T (finite hi) → In lo hi x → T (finite x)
unfolding le
in_finite nan hi x p q i = absurd p
in_finite (inf s) hi x p q i = absurd p
in_finite (fin s m e) nan x p q i = absurd q
in_finite (fin s m e) (inf t) x p q i = absurd q
in_finite (fin s m e) (fin t n d) nan p q i = absurd i.0
in_finite (fin s m e) (fin t n d) (inf true) p q i = absurd i.0
in_finite (fin s m e) (fin t n d) (inf false) p q i = absurd i.1
in_finite (fin s m e) (fin t n d) (fin u j k) p q i = tt

pub in_widen : (lo hi lo' hi' x : Float) → T (le lo' lo) → T (le hi hi') → In lo hi x → In lo' hi' x
in_widen lo hi lo' hi' x p q i = (le_trans_float lo' lo x p i.0, le_trans_float x hi hi' i.1 q)

-- ---- the operations
module _ (f : Format) (a b x : Float) (A : T (finite a)) (B : T (finite b)) (i : In a b x) where
  is_finite : T (finite x)
  is_finite = in_finite a b x A B i

  pub neg_in : In (neg b) (neg a) (neg x)
  neg_in = (le_neg x b i.1, le_neg a x i.0)

  pub add_in : (c d y : Float) → T (finite c) → T (finite d) → In c d y → In (add f a c) (add f b d) (add f x y)
  add_in c d y C D j =
      let Y = in_finite c d y C D j in
      (add_mono f a x c y A is_finite C Y i.0 j.0, add_mono f x b y d is_finite B Y D i.1 j.1)

  pub sub_in : (c d y : Float) → T (finite c) → T (finite d) → In c d y → In (sub f a d) (sub f b c) (sub f x y)
  sub_in c d y C D j =
      let Y = in_finite c d y C D j in
      (sub_mono f a x d y A is_finite D Y i.0 j.1, sub_mono f x b y c is_finite B Y C i.1 j.0)

  pub scale_in : (k : Float) → T (nonneg k) → In (mul f k a) (mul f k b) (mul f k x)
  scale_in k K = (mul_mono_right f k a x K A is_finite i.0, mul_mono_right f k x b K is_finite B i.1)

  pub over_in : (k : Float) → T (positive k) → In (div f a k) (div f b k) (div f x k)
  over_in k K = (div_mono_left f a x k A is_finite K i.0, div_mono_left f x b k is_finite B K i.1)

-- both factors, or the dividend and the divisor, above zero
module _ (f : Format) (a b x c d y : Float) (A : T (positive a)) (B : T (positive b)) (C : T (positive c)) (D : T (positive d)) (i : In a b x) (j : In c d y) where
  px : T (positive x)
  px = between a x b A B i.0 i.1

  py : T (positive y)
  py = between c y d C D j.0 j.1

  pub mul_in : In (mul f a c) (mul f b d) (mul f x y)
  mul_in = (mul_mono f a x c y A px C py i.0 j.0, mul_mono f x b y d px B py D i.1 j.1)

  pub div_in : In (div f a d) (div f b c) (div f x y)
  div_in = (
    le_trans_float (div f a d) (div f x d) (div f x y) (div_mono_left f a x d (positive-finite a A) (positive-finite x px) D i.0) (div_anti_right f x y d (positive_nonneg x px) py D j.1),
    le_trans_float (div f x y) (div f b y) (div f b c) (div_mono_left f x b y (positive-finite x px) (positive-finite b B) py i.1) (div_anti_right f b c y (positive_nonneg b B) C py j.0),
  )

-- ---- a value of the format plus something above, or below, zero
pub above_zero : (y : Float) → T (finite y) → T (le nought y) → ng y ≤ ps y
above_zero y q k = omega (arith, le→signed nought y tt q k)

pub below_zero : (y : Float) → T (finite y) → T (le y nought) → ps y ≤ ng y
below_zero y q k = omega (arith, le→signed y nought q tt k)

grow_cross : (a b c u v w : ℕ) → v ≤ u → a * (c * w) + (b * w + v * c) * c ≤ (a * w + u * c) * c + b * (c * w)
grow_cross a b c u v w k =
    let K = simp flat at (mul-le-mul_right (c * c) k) in
    simp flat (omega arith)

pub add_grows : (f : Format) (x y : Float) → T (finite x) → T (fits f x) → T (finite y) → T (le nought y) → T (le x (add f x y))
add_grows f x y p h q k =
    rounded_mono f x (add f x y) _ _ _ _ _ _ (own_rounded f x p h) (add_rounded f x y p q)
    (grow_cross (ps x) (ng x) (den x) (ps y) (ng y) (den y) (above_zero y q k))

shrink_cross : (a b c u v w : ℕ) → u ≤ v → (a * w + u * c) * c + b * (c * w) ≤ a * (c * w) + (b * w + v * c) * c
shrink_cross a b c u v w k =
    let K = simp flat at (mul-le-mul_right (c * c) k) in
    simp flat (omega arith)

pub add_shrinks : (f : Format) (x y : Float) → T (finite x) → T (fits f x) → T (finite y) → T (le y nought) → T (le (add f x y) x)
add_shrinks f x y p h q k =
    rounded_mono f (add f x y) x _ _ _ _ _ _ (add_rounded f x y p q) (own_rounded f x p h)
    (shrink_cross (ps x) (ng x) (den x) (ps y) (ng y) (den y) (below_zero y q k))

-- ---- on which side of zero a rounded fraction lies
zero_rounded : (f : Format) → Rounded f nought (ps nought) (ng nought) (den nought)
unfolding fits
zero_rounded f = own_rounded f nought tt tt

pub rounded_nonneg : (f : Format) (z : Float) (p n c : ℕ) → Rounded f z p n c → n ≤ p → T (le nought z)
rounded_nonneg f z p n c r h = rounded_mono f nought z _ _ _ p n c (zero_rounded f) r (omega arith)

pub rounded_nonpos : (f : Format) (z : Float) (p n c : ℕ) → Rounded f z p n c → p ≤ n → T (le z nought)
rounded_nonpos f z p n c r h = rounded_mono f z nought p n c _ _ _ r (zero_rounded f) (omega arith)

pub sub_nonneg : (f : Format) (x y : Float) → T (finite x) → T (finite y) → T (le y x) → T (le nought (sub f x y))
sub_nonneg f x y p q h = rounded_nonneg f (sub f x y) _ _ _ (sub-rounded f x y p q) (omega (arith, le→signed y x q p h))

pub sub_nonpos : (f : Format) (x y : Float) → T (finite x) → T (finite y) → T (le x y) → T (le (sub f x y) nought)
sub_nonpos f x y p q h = rounded_nonpos f (sub f x y) _ _ _ (sub-rounded f x y p q) (omega (arith, le→signed x y p q h))

-- x - y is no less than -y, for an x that is not below zero
pub neg_own : (f : Format) (y : Float) → T (finite y) → T (fits f y) → Rounded f (neg y) (ng y) (ps y) (den y)
neg_own f y q h = rw (neg_ps, neg_ng, neg_den) at (own_rounded f (neg y) (neg_finite y q) (neg-fits f y h))

above_cross : (a b c u v w : ℕ) → v ≤ u → a * (w * c) + (v * c + b * w) * c ≤ (u * c + a * w) * c + b * (w * c)
above_cross a b c u v w k =
    let K = simp flat at (mul-le-mul_right (c * c) k) in
    simp flat (omega arith)

pub sub_above : (f : Format) (x y : Float) → T (finite x) → T (finite y) → T (fits f y) → T (le nought x) → T (le (neg y) (sub f x y))
sub_above f x y p q h k =
    rounded_mono f (neg y) (sub f x y) _ _ _ _ _ _ (neg_own f y q h) (sub-rounded f x y p q) (above_cross (ng y) (ps y) (den y) (ps x) (ng x) (den x) (above_zero x p k))

pub zero_le_positive : (x : Float) → T (positive x) → T (le nought x)
zero_le_positive x p =
    let z = positive_ng x p in
    signed→le nought x tt (positive-finite x p) (omega arith)
