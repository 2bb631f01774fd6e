-- The variance of an observed class stays finite and not negative, also from the largest f32: what is added there is rounded away. Assumes nothing.
use mathlib.Core.Path.{sym}
use mathlib.Core.Logic.{inl, inr}
use lib.Dec.{T}
use lib.Ieee.{Float, Format, binary32, neg, add, sub, mul, le, fits, of_bits}
use lib.Ieee.Fits.{and_i, and_l, and_r}
use lib.Ieee.Scale.{finite}
use Rattle.ranges.specs.Interval.{In}
use Rattle.ranges.specs.Limits.{nought, class_min, class_max, class_weight}
use Rattle.ranges.proofs.Signed.{neg_finite, le_neg, le_trans_float, finite_number}
use Rattle.ranges.proofs.Interval.{in_finite, in_widen, sub_in, add_in, scale_in}
use Rattle.ranges.proofs.Product.{mul_nonneg, mul_nonpos, mul_neg_neg, sized_in}
use Rattle.ranges.proofs.Compare.{ordered}
use Rattle.sender.specs.Constants.{one}
use Rattle.sender.specs.Sound.{var_sound}
use Rattle.sender.specs.Steps.{var_next}
use Rattle.sender.proofs.Largest.{largest, finite_most}

-- a * d * d, in this order, is not below zero where a is not
pub weighted_square : (f : Format) (a d : Float) → T (finite a) → T (finite d) → T (le nought a) → T (finite (mul f a d)) → T (le nought (mul f (mul f a d) d))
weighted_square f a d A D h U = elim (ordered nought d (finite_number nought tt) (finite_number d D)) [
  | inl k ↦ mul_nonneg f (mul f a d) d U D (mul_nonneg f a d A D h k) k
  | inr k ↦ rw (sym (mul_neg_neg f (mul f a d) d U D)) (mul_nonneg f (neg (mul f a d)) (neg d) (neg_finite (mul f a d) U) (neg_finite d D) (turned (mul f a d) (mul_nonpos f a d A D h k)) (turned d k))
]
  where
    turned : (z : Float) → T (le z nought) → T (le nought (neg z))
    turned z k = le_trans_float nought (neg nought) (neg z) (unfold neg le in tt) (le_neg z nought k)

-- the most that is added: 0.15 * 13108 * 13108
abbrev added_max : Float
added_max = mul binary32 (mul binary32 class_weight class_max) class_max

module _ (m x : Float) (i : In class_min class_max m) (j : In class_min class_max x) where
  abbrev d : Float
  d = sub binary32 x m

  offset_in : In (neg class_max) class_max d
  unfolding neg sub le of_bits
  offset_in = in_widen (sub binary32 class_min class_max) (sub binary32 class_max class_min) (neg class_max) class_max d tt tt (sub_in binary32 class_min class_max x tt tt j class_min class_max m tt tt i)

  weighted_in : In (neg (mul binary32 class_weight class_max)) (mul binary32 class_weight class_max) (mul binary32 class_weight d)
  weighted_in = sized_in binary32 class_weight class_max class_weight d (unfold of_bits in tt) (unfold of_bits in tt) (unfold neg le of_bits in (tt, tt)) offset_in

  weighted_finite : T (finite (mul binary32 class_weight d))
  unfolding neg mul of_bits
  weighted_finite = in_finite (neg (mul binary32 class_weight class_max)) (mul binary32 class_weight class_max) (mul binary32 class_weight d) tt tt weighted_in

  offset_finite : T (finite d)
  unfolding neg of_bits
  offset_finite = in_finite (neg class_max) class_max d tt tt offset_in

  added_in : In nought added_max (mul binary32 (mul binary32 class_weight d) d)
  added_in = (
    weighted_square binary32 class_weight d (unfold of_bits in tt) offset_finite (unfold le of_bits in tt) weighted_finite,
    (sized_in binary32 (mul binary32 class_weight class_max) class_max (mul binary32 class_weight d) d (unfold mul of_bits in tt) (unfold of_bits in tt) weighted_in offset_in).1,
  )

  sum_in : (v : Float) → In nought largest v → In nought largest (add binary32 v (mul binary32 (mul binary32 class_weight d) d))
  unfolding add mul le of_bits
  sum_in v k =
      in_widen (add binary32 nought nought) (add binary32 largest added_max) nought largest (add binary32 v (mul binary32 (mul binary32 class_weight d) d)) tt tt
      (add_in binary32 nought largest v tt tt k nought added_max (mul binary32 (mul binary32 class_weight d) d) tt tt added_in)

  next_in : (v : Float) → In nought largest v → In nought largest (var_next v d)
  unfolding sub mul le of_bits
  next_in v k =
      in_widen (mul binary32 (sub binary32 one class_weight) nought) (mul binary32 (sub binary32 one class_weight) largest) nought largest (var_next v d) tt tt
      (scale_in binary32 nought largest (add binary32 v (mul binary32 (mul binary32 class_weight d) d)) tt tt (sum_in v k) (sub binary32 one class_weight) tt)

  pub variance_sound : (v : Float) → T (fits binary32 v) → T (var_sound v) → T (var_sound (var_next v d))
  variance_sound v F s =
      let k = next_in v (and_l (le nought v) (finite v) s, finite_most v F (and_r (le nought v) (finite v) s)) in
      and_i (le nought (var_next v d)) (finite (var_next v d)) k.0 (in_finite nought largest (var_next v d) tt tt k)
