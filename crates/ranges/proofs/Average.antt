-- The moving average g + w * (d - g), each operation rounded, for a weight w above 0 and at most 1/2: it lies between g and d where both are at least 2 ^ -14, and it is finite and above zero for any g that is. Assumes nothing.
use mathlib.Core.Path.{◌≡◌, refl, sym, ap, subst}
use mathlib.Core.Logic.{inl, inr}
use Prim.Native.Nat.{ℕ, ◌+◌, ◌*◌, ◌≤◌, ◌<◌}
use native.Mathlib.Nat.{le_of_mul-le-mul_right, mul-le-mul_left, mul-le-mul_right, mul-pos, zero-lt-suc}
use native.Mathlib.Omega.{arith}
use lib.Dec.{T}
use lib.Ieee.{Float, Format, add, sub, mul, neg, le, lt, fits, of_bits}
use lib.Ieee.Scale.{finite}
use lib.Ieee.Positive.{den, positive, den_pos, between, positive-finite}
use Rattle.ranges.specs.Interval.{In}
use Rattle.ranges.specs.Limits.{nought, half}
use Rattle.ranges.specs.Average.{average}
use Rattle.ranges.proofs.Signed.{ps, ng, flat, le→signed, positive_ng, nonneg, positive_nonneg, neg_finite, neg_ps, neg_ng, neg_den, le_trans_float, le_self, finite_number}
use Rattle.ranges.proofs.Rounded.{rounded_mono, rounded_neg, mul_plus, add_rounded, sub-rounded}
use Rattle.ranges.proofs.Monotone.{add_mono, sub_mono, mul_mono_right}
use Rattle.ranges.proofs.Product.{mul_mono_left}
use Rattle.ranges.proofs.Own.{own_rounded}
use Rattle.ranges.proofs.Interval.{in_finite, in_widen, rounded_nonneg, rounded_nonpos, add_grows, add_shrinks, sub_nonneg, sub_nonpos, sub_above, neg_own, below_zero, above_zero, zero_le_positive}
use Rattle.ranges.proofs.Compare.{lt→le, nlt→le, either, ordered}
use Rattle.ranges.proofs.Halves as H

-- ---- a weight is above zero and at most 1/2
pub record Weight (w : Float) : Type 0 where
  pub above : T (positive w)
  pub most : T (le w half)

twice_most : (w : Float) → Weight w → 2 * ps w ≤ den w
unfolding of_bits
twice_most w W = omega (arith, le→signed w half (positive-finite w W.above) tt W.most, ap (λ (z : ℕ). z * 2) (positive_ng w W.above))

-- ---- in numbers
-- ph / dh is half of pg / dg, a / b is a half at most, and (u - v) / w is no less than -pg / dg
part_cross : (ph nh dh pg dg a b u v w : ℕ) → 0 < dg → ph * (dg * 2) ≡ pg * dh → nh ≡ 0 → 2 * a ≤ b → v * dg ≤ u * dg + pg * w → nh * (b * w) + a * v * dh ≤ a * u * dh + ph * (b * w)
part_cross ph nh dh pg dg a b u v w G e z A h =
    let E = simp flat at (ap (λ (z : ℕ). z * (b * w)) e) in
    let H = simp flat at (mul-le-mul_right (2 * (a * dh)) h) in
    let B = simp flat at (mul-le-mul_right (pg * (w * dh)) A) in
    let k : a * v * dh ≤ a * u * dh + ph * (b * w) = le_of_mul-le-mul_right {m = a * v * dh} {n = a * u * dh + ph * (b * w)} {k = dg * 2} (simp flat (omega arith)) (mul-pos G (zero-lt-suc 1)) in
    omega (arith, ap (λ (x : ℕ). x * (b * w)) z)

rest_cross : (ph nh dh pg ng dg : ℕ) → ph * (dg * 2) ≡ pg * dh → nh ≡ 0 → ng ≡ 0 → ph * (dg * dh) + (ng * dh + ph * dg) * dh ≤ (pg * dh + nh * dg) * dh + nh * (dg * dh)
rest_cross ph nh dh pg ng dg e z y =
    let E = simp flat at (ap (λ (x : ℕ). x * dh) e) in
    let Y = simp flat at (ap (λ (x : ℕ). x * (dh * dh)) y) in
    simp flat (omega arith)

turned : (g t : Float) → T (finite g) → T (finite t) → T (le (neg g) t) → ng t * den g ≤ ps t * den g + ps g * den t
turned g t G F h =
    let k : ng g * den t + ng t * den g ≤ ps t * den g + ps g * den t = rw (neg_ps, neg_ng, neg_den) at (le→signed (neg g) t (neg_finite g G) F h) in
    omega arith

scale_cross : (ph nh dh pt nt dt a b : ℕ) → ph * (dt * 2) ≡ pt * dh → 2 * a ≤ b → nh ≡ 0 → a * pt * dh + nh * (b * dt) ≤ ph * (b * dt) + a * nt * dh
scale_cross ph nh dh pt nt dt a b e A z =
    let E = simp flat at (ap (λ (x : ℕ). x * a) e) in
    let B = simp flat at (mul-le-mul_right (ph * dt) A) in
    let Z = ap (λ (x : ℕ). x * (b * dt)) z in
    simp flat (omega arith)

up_cross : (px nx dx pg n dg ph nh dh : ℕ) → nx ≡ 0 → ph * (dx * dg) + (nx * dg + pg * dx) * dh ≤ (px * dg + n * dx) * dh → n ≡ 0 → (pg * dh + ph * dg) * dx + nx * (dg * dh) ≤ px * (dg * dh) + (n * dh + nh * dg) * dx
up_cross px nx dx pg n dg ph nh dh z h y =
    let H = simp flat at h in
    let Z = ap (λ (x : ℕ). x * (dg * dh)) z in
    let Y = ap (λ (x : ℕ). x * (dh * dx)) y in
    simp flat (omega arith)

down_cross : (px nx dx pg n dg ph nh dh : ℕ) → ph * (dg * dx) + (n * dx + px * dg) * dh ≤ (pg * dx + nx * dg) * dh → nx ≡ 0 → n ≡ 0 → px * (dg * dh) + (n * dh + ph * dg) * dx ≤ (pg * dh + nh * dg) * dx + nx * (dg * dh)
down_cross px nx dx pg n dg ph nh dh h z y =
    let H = simp flat at h in
    let Z = ap (λ (x : ℕ). x * (dg * dh)) z in
    let Y = ap (λ (x : ℕ). x * (dh * dx)) y in
    simp flat (omega arith)

-- x - g is no less than -(g - x)
turn_back : (f : Format) (x g : Float) → T (finite x) → T (finite g) → T (le (neg (sub f g x)) (sub f x g))
turn_back f x g X G = rounded_mono f (neg (sub f g x)) (sub f x g) _ _ _ _ _ _ (rounded_neg f (sub f g x) _ _ _ (sub-rounded f g x G X)) (sub-rounded f x g X G) (same (ps x) (ng x) (den x) (ps g) (ng g) (den g))
  where
    same : (a b c u v w : ℕ) → (v * c + a * w) * (c * w) + (b * w + u * c) * (w * c) ≤ (a * w + v * c) * (w * c) + (u * c + b * w) * (c * w)
    same a b c u v w = simp flat (omega arith)

-- ---- between its arguments
module _ (f : Format) (a g x : Float) (W : Weight a) (F : T (fits f g)) (E : T (fits f x)) (p : T (positive g)) (q : T (positive x)) (h : T (le H.base g)) (k : T (le H.base x)) where
  A : T (nonneg a)
  A = positive_nonneg a W.above

  A2 : 2 * ps a ≤ den a
  A2 = twice_most a W

  rises : T (lt g x) → In g x (average f a g x)
  rises l =
      let w = H.apart f x g E F q p k h l in
      let G = positive-finite g p in
      let X = positive-finite x q in
      let t = sub f x g in
      let Q = positive-finite t w.positive_t in
      let hf = H.half_of f t in
      let hfin = positive-finite hf w.halved.above in
      let u = mul f a t in
      let u-hi : T (le u hf) = rounded_mono f u hf _ _ _ _ _ _ (mul_plus f a t A Q) (own_rounded f hf hfin w.halved.held)
      (scale_cross (ps hf) (ng hf) (den hf) (ps t) (ng t) (den t) (ps a) (den a) w.halved.twice A2 (positive_ng hf w.halved.above)) in
      let u-lo : T (le nought u) = rounded_nonneg f u _ _ _ (mul_plus f a t A Q) (omega (arith, ap (λ (z : ℕ). ps a * z) (positive_ng t w.positive_t))) in
      let U = in_finite nought hf u tt hfin (u-lo, u-hi) in
      let top : T (le (add f g hf) x) = rounded_mono f (add f g hf) x _ _ _ _ _ _ (add_rounded f g hf G hfin) (own_rounded f x X E)
      (up_cross (ps x) (ng x) (den x) (ps g) (ng g) (den g) (ps hf) (ng hf) (den hf) (positive_ng x q) w.under (positive_ng g p)) in
      (add_grows f g u G F U u-lo, le_trans_float (add f g u) (add f g hf) x (add_mono f g g u hf G G U hfin (le_self g G) u-hi) top)

  falls : T (lt x g) → In x g (average f a g x)
  falls l =
      let w = H.apart f g x F E p q h k l in
      let G = positive-finite g p in
      let X = positive-finite x q in
      let s = sub f g x in
      let t = sub f x g in
      let hf = H.half_of f s in
      let hfin = positive-finite hf w.halved.above in
      let S = positive-finite s w.positive_t in
      let t-in : In (neg s) nought t = (turn_back f x g X G, sub_nonpos f x g X G (lt→le x g l)) in
      let Q = in_finite (neg s) nought t (neg_finite s S) tt t-in in
      let u = mul f a t in
      let u-lo : T (le (neg hf) u) = rounded_mono f (neg hf) u _ _ _ _ _ _ (neg_own f hf hfin w.halved.held) (mul_plus f a t A Q)
      (part_cross (ps hf) (ng hf) (den hf) (ps s) (den s) (ps a) (den a) (ps t) (ng t) (den t) (den_pos s) w.halved.twice (positive_ng hf w.halved.above) A2 (turned s t S Q t-in.0)) in
      let u-hi : T (le u nought) = still u t Q refl t-in.1 in
      let U = in_finite (neg hf) nought u (neg_finite hf hfin) tt (u-lo, u-hi) in
      let low : T (le x (add f g (neg hf))) = rounded_mono f x (add f g (neg hf)) _ _ _ _ _ _ (own_rounded f x X E) (rw (neg_ps, neg_ng, neg_den) at (add_rounded f g (neg hf) G (neg_finite hf hfin)))
      (down_cross (ps x) (ng x) (den x) (ps g) (ng g) (den g) (ps hf) (ng hf) (den hf) w.under (positive_ng x q) (positive_ng g p)) in
      (le_trans_float x (add f g (neg hf)) (add f g u) low (add_mono f g g (neg hf) u G G (neg_finite hf hfin) U (le_self g G) u-lo), add_shrinks f g u G F U u-hi)
    where
      still : (u t : Float) → T (finite t) → u ≡ mul f a t → T (le t nought) → T (le u nought)
      still u t Q e h = subst (λ (z : Float). T (le z nought)) (sym e) (rounded_nonpos f (mul f a t) _ _ _ (mul_plus f a t A Q) (mul-le-mul_left (ps a) (below_zero t Q h)))

  -- g and x are equal: nothing is added
  rests : T (le g x) → T (le x g) → In g g (average f a g x)
  rests l m =
      let G = positive-finite g p in
      let X = positive-finite x q in
      let t = sub f x g in
      let t-in : In nought nought t = (sub_nonneg f x g X G l, sub_nonpos f x g X G m) in
      let Q = in_finite nought nought t tt tt t-in in
      let r = mul_plus f a t A Q in
      let u = mul f a t in
      let u-in : In nought nought u = (rounded_nonneg f u _ _ _ r (mul-le-mul_left (ps a) (above_zero t Q t-in.0)), rounded_nonpos f u _ _ _ r (mul-le-mul_left (ps a) (below_zero t Q t-in.1))) in
      let U = in_finite nought nought u tt tt u-in in
      (add_grows f g u G F U u-in.0, add_shrinks f g u G F U u-in.1)

  pub average_in : (lo hi : Float) → In lo hi g → In lo hi x → In lo hi (average f a g x)
  average_in lo hi i j =
      let r = average f a g x in
      let N = finite_number g (positive-finite g p) in
      let O = finite_number x (positive-finite x q) in
      elim (either (lt g x)) [
        | inl y ↦ in_widen g x lo hi r i.0 j.1 (rises y)
        | inr n ↦ elim (either (lt x g)) [
          | inl y ↦ in_widen x g lo hi r j.0 i.1 (falls y)
          | inr o ↦ in_widen g g lo hi r i.0 i.1 (rests (nlt→le x g O N o) (nlt→le g x N O n))
        ]
      ]

-- ---- above zero from any start

-- data lie from lo to hi: lo can be halved, and what is a half more than hi is finite
pub record Data (f : Format) (lo hi : Float) : Type 0 where
  pub least : T (positive lo)
  pub grained : T (le (H.tiny f) lo)
  pub most : T (positive hi)
  pub plain : T (le (sub f hi nought) hi)
  pub step : T (finite (mul f half hi))
  pub top : T (positive (add f hi (mul f half hi)))

scaled_above : (f : Format) (a t : Float) → T (nonneg a) → T (finite t) → T (le nought t) → T (le nought (mul f a t))
scaled_above f a t A Q h = rounded_nonneg f (mul f a t) _ _ _ (mul_plus f a t A Q) (mul-le-mul_left (ps a) (above_zero t Q h))

scaled_below : (f : Format) (a t : Float) → T (nonneg a) → T (finite t) → T (le t nought) → T (le (mul f a t) nought)
scaled_below f a t A Q h = rounded_nonpos f (mul f a t) _ _ _ (mul_plus f a t A Q) (mul-le-mul_left (ps a) (below_zero t Q h))

module _ (f : Format) (w g d lo hi : Float) (W : Weight w) (D : Data f lo hi) (F : T (fits f g)) (p : T (positive g)) (i : In lo hi d) where
  wn : T (nonneg w)
  wn = positive_nonneg w W.above

  dp : T (positive d)
  dp = between lo d hi D.least D.most i.0 i.1

  df : T (finite d)
  df = positive-finite d dp

  gf : T (finite g)
  gf = positive-finite g p

  hif : T (finite hi)
  hif = positive-finite hi D.most

  -- g ≤ d: what is added is not below zero, and the sum is at most hi and its half
  climbs : T (le g d) → T (positive (average f w g d))
  climbs h =
      let t = sub f d g in
      let t-in : In nought hi t = (sub_nonneg f d g df gf h, le_trans_float t (sub f hi nought) hi (sub_mono f d hi g nought df hif gf tt i.1 (zero_le_positive g p)) D.plain) in
      let tf = in_finite nought hi t tt hif t-in in
      let u = mul f w t in
      let m = mul f half hi in
      let u-lo = scaled_above f w t wn tf t-in.0 in
      let u-hi : T (le u m) = le_trans_float u (mul f w hi) m (mul_mono_right f w t hi wn tf hif t-in.1) (mul_mono_left f w half hi (positive-finite w W.above) half_finite (positive_nonneg hi D.most) W.most) in
      let uf = in_finite nought m u tt D.step (u-lo, u-hi) in
      between g (average f w g d) (add f hi m) p D.top (add_grows f g u gf F uf u-lo) (add_mono f g hi u m gf hif uf D.step (le_trans_float g d hi h i.1) u-hi)
    where
      half_finite : T (finite half)
      half_finite = unfold of_bits in tt

  -- d ≤ g: at most half of g is taken away
  sinks : T (le d g) → T (positive (average f w g d))
  sinks h =
      let hf = H.half_of f g in
      let v = H.half f g F p (le_trans_float (H.tiny f) lo g D.grained (le_trans_float lo d g i.0 h)) in
      let hp = v.above in
      let hfin = positive-finite hf hp in
      let z = positive_ng hf hp in
      let t = sub f d g in
      let t-in : In (neg g) nought t = (sub_above f d g df gf F (zero_le_positive d dp), sub_nonpos f d g df gf h) in
      let tf = in_finite (neg g) nought t (neg_finite g gf) tt t-in in
      let u = mul f w t in
      let u-lo : T (le (neg hf) u) = rounded_mono f (neg hf) u _ _ _ _ _ _ (neg_own f hf hfin v.held) (mul_plus f w t wn tf)
      (part_cross (ps hf) (ng hf) (den hf) (ps g) (den g) (ps w) (den w) (ps t) (ng t) (den t) (den_pos g) v.twice z (twice_most w W) (turned g t gf tf t-in.0)) in
      let u-hi : T (le u nought) = scaled_below f w t wn tf t-in.1 in
      let uf = in_finite (neg hf) nought u (neg_finite hf hfin) tt (u-lo, u-hi) in
      let low : T (le hf (add f g (neg hf))) = rounded_mono f hf (add f g (neg hf)) _ _ _ _ _ _ (own_rounded f hf hfin v.held) (rw (neg_ps, neg_ng, neg_den) at (add_rounded f g (neg hf) gf (neg_finite hf hfin)))
      (rest_cross (ps hf) (ng hf) (den hf) (ps g) (ng g) (den g) v.twice z (positive_ng g p)) in
      between hf (average f w g d) g hp p
      (le_trans_float hf (add f g (neg hf)) (average f w g d) low (add_mono f g g (neg hf) u gf gf (neg_finite hf hfin) uf (le_self g gf) u-lo))
      (add_shrinks f g u gf F uf u-hi)

  pub average_positive : T (positive (average f w g d))
  average_positive = elim (ordered d g (finite_number d df) (finite_number g gf)) [ inl h ↦ sinks h | inr h ↦ climbs h ]
