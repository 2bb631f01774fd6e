-- Products over both signs: they commute, two signs cancel, like signs give what is not below zero; squares; a division by 0.25 is a multiplication by 4. Assumes nothing.
use mathlib.Core.Path.{◌≡◌, refl, sym, ap, ap₂, ◌∙◌, subst}
use mathlib.Core.Logic.{inl, inr}
use mathlib.Core.Bool.{Bool, true, false, cond}
use Prim.Native.Nat.{ℕ, ◌+◌, ◌-◌, ◌*◌, ◌≤◌}
use native.Mathlib.Nat.{mul_comm, one-mul, mul-one, add-sub_of_le}
use native.Mathlib.Omega.{arith}
use lib.IntN.{ℤ, pos, negsuc}
use lib.Dec.{T, eqb}
use lib.Ieee.{Float, nan, inf, fin, Format, binary32, unlike, up, down, round, neg, mul, div, le, of_bits}
use lib.Ieee.Scale.{finite}
use Rattle.ranges.specs.Interval.{In}
use Rattle.ranges.specs.Limits.{nought}
use Rattle.ranges.proofs.Signed.{ps, ng, flat, nonneg, nonneg_finite, neg_finite, neg_neg, le_neg, le_trans_float, signed→le, finite_number}
use Rattle.ranges.proofs.Rounded.{neg_round, mul_rounded}
use Rattle.ranges.proofs.Monotone.{mul_mono_right}
use Rattle.ranges.proofs.Interval.{in_finite, rounded_nonneg, rounded_nonpos, above_zero, below_zero}
use Rattle.ranges.proofs.Compare.{ordered}

unlike_comm : (s t : Bool) → unlike s t ≡ unlike t s
unlike_comm true true = refl
unlike_comm true false = refl
unlike_comm false true = refl
unlike_comm false false = refl

pub mul_swap : (f : Format) (x y : Float) → mul f x y ≡ mul f y x
unfolding mul
mul_swap f nan nan = refl
mul_swap f nan (inf t) = refl
mul_swap f nan (fin t n d) = refl
mul_swap f (inf s) nan = refl
mul_swap f (inf s) (inf t) = ap inf (unlike_comm s t)
mul_swap f (inf s) (fin t n d) = ap (λ (b : Bool). cond (eqb n 0) nan (inf b)) (unlike_comm s t)
mul_swap f (fin s m e) nan = refl
mul_swap f (fin s m e) (inf t) = ap (λ (b : Bool). cond (eqb m 0) nan (inf b)) (unlike_comm s t)
mul_swap f (fin s m e) (fin t n d) =
    ap (λ (b : Bool). round f b (m * up e * (n * up d)) (down e * down d)) (unlike_comm s t)
    ∙ ap₂ (λ (a c : ℕ). round f (unlike t s) a c) (mul_comm (m * up e) (n * up d)) (mul_comm (down e) (down d))

pub mul_neg_neg : (f : Format) (x y : Float) → T (finite x) → T (finite y) → mul f (neg x) (neg y) ≡ mul f x y
unfolding mul neg
mul_neg_neg f nan y p q = absurd p
mul_neg_neg f (inf s) y p q = absurd p
mul_neg_neg f (fin s m e) nan p q = absurd q
mul_neg_neg f (fin s m e) (inf t) p q = absurd q
mul_neg_neg f (fin true m e) (fin true n d) p q = refl
mul_neg_neg f (fin true m e) (fin false n d) p q = refl
mul_neg_neg f (fin false m e) (fin true n d) p q = refl
mul_neg_neg f (fin false m e) (fin false n d) p q = refl

-- ---- like and unlike signs
like_cross : (a b u v : ℕ) → b ≤ a → v ≤ u → a * v + b * u ≤ a * u + b * v
like_cross a b u v h k = subst (λ (z : ℕ). z * v + b * u ≤ z * u + b * v) (add-sub_of_le h) (subst (λ (z : ℕ). (b + (a - b)) * v + b * z ≤ (b + (a - b)) * z + b * v) (add-sub_of_le k) (open_up b (a - b) v (u - v)))
  where
    open_up : (b x v y : ℕ) → (b + x) * v + b * (v + y) ≤ (b + x) * (v + y) + b * v
    open_up b x v y = simp flat (omega arith)

pub mul_nonneg : (f : Format) (x y : Float) → T (finite x) → T (finite y) → T (le nought x) → T (le nought y) → T (le nought (mul f x y))
mul_nonneg f x y p q h k = rounded_nonneg f (mul f x y) _ _ _ (mul_rounded f x y p q) (like_cross (ps x) (ng x) (ps y) (ng y) (above_zero x p h) (above_zero y q k))

pub mul_nonpos : (f : Format) (x y : Float) → T (finite x) → T (finite y) → T (le nought x) → T (le y nought) → T (le (mul f x y) nought)
mul_nonpos f x y p q h k = rounded_nonpos f (mul f x y) _ _ _ (mul_rounded f x y p q) (like_cross (ps x) (ng x) (ng y) (ps y) (above_zero x p h) (below_zero y q k))

pub mul_mono_left : (f : Format) (x x' y : Float) → T (finite x) → T (finite x') → T (nonneg y) → T (le x x') → T (le (mul f x y) (mul f x' y))
mul_mono_left f x x' y p p' q h = rw (mul_swap f x y, mul_swap f x' y) (mul_mono_right f y x x' q p p' h)

-- ---- x from 0 to a, y from 0 to b
pub plus_in : (f : Format) (a b x y : Float) → T (nonneg a) → T (nonneg b) → T (nonneg y) → T (finite x) → In nought a x → In nought b y → In nought (mul f a b) (mul f x y)
plus_in f a b x y A B Y X i j = (
  mul_nonneg f x y X (nonneg_finite y Y) i.0 j.0,
  le_trans_float (mul f x y) (mul f a y) (mul f a b) (mul_mono_left f x a y X (nonneg_finite a A) Y i.1) (mul_mono_right f a y b A (nonneg_finite y Y) (nonneg_finite b B) j.1),
)

-- ---- a negated factor, and one that is not above zero
pub mul_neg_left : (f : Format) (x y : Float) → T (finite x) → T (finite y) → mul f (neg x) y ≡ neg (mul f x y)
unfolding mul neg
mul_neg_left f nan y p q = absurd p
mul_neg_left f (inf s) y p q = absurd p
mul_neg_left f (fin s m e) nan p q = absurd q
mul_neg_left f (fin s m e) (inf t) p q = absurd q
mul_neg_left f (fin false m e) (fin false n d) p q = sym (neg_round f (m * up e * (n * up d)) (down e * down d))
mul_neg_left f (fin true m e) (fin true n d) p q = sym (neg_round f (m * up e * (n * up d)) (down e * down d))
mul_neg_left f (fin true m e) (fin false n d) p q = sym (neg_neg (round f false (m * up e * (n * up d)) (down e * down d))) ∙ ap neg (neg_round f (m * up e * (n * up d)) (down e * down d))
mul_neg_left f (fin false m e) (fin true n d) p q = sym (neg_neg (round f false (m * up e * (n * up d)) (down e * down d))) ∙ ap neg (neg_round f (m * up e * (n * up d)) (down e * down d))

pub mul_anti_right : (f : Format) (k y y' : Float) → T (nonneg (neg k)) → T (finite k) → T (finite y) → T (finite y') → T (le y y') → T (le (mul f k y') (mul f k y))
mul_anti_right f k y y' n K Y Y' h = rw (turned y Y, turned y' Y') (le_neg (mul f (neg k) y) (mul f (neg k) y') (mul_mono_right f (neg k) y y' n Y Y' h))
  where
    turned : (z : Float) → T (finite z) → mul f k z ≡ neg (mul f (neg k) z)
    turned z Z = sym (neg_neg (mul f k z)) ∙ ap neg (sym (mul_neg_left f k z K Z))

pub turn_in : (f : Format) (k a b x : Float) → T (nonneg (neg k)) → T (finite k) → T (finite a) → T (finite b) → In a b x → In (mul f k b) (mul f k a) (mul f k x)
turn_in f k a b x n K A B i =
    let X = in_finite a b x A B i in
    (mul_anti_right f k x b n K X B i.1, mul_anti_right f k a x n K A X i.0)

-- ---- x from -a to a, y from -b to b
pub zero_neg : T (le (neg nought) nought)
unfolding neg le
zero_neg = tt

either_side : (a z : Float) → In nought a z → In (neg a) a z × In (neg a) a (neg z)
either_side a z i =
    let low : T (le (neg a) nought) = le_trans_float (neg a) (neg nought) nought (le_neg nought a (le_trans_float nought z a i.0 i.1)) zero_neg in
    let high : T (le nought a) = le_trans_float nought z a i.0 i.1 in (
      (le_trans_float (neg a) nought z low i.0, i.1),
      (le_neg z a i.1, le_trans_float (neg z) nought a (le_trans_float (neg z) (neg nought) nought (le_neg nought z i.0) zero_neg) high),
    )

zero_under : (m : ℕ) (e : ℤ) → T (le nought (fin false m e))
zero_under m e = signed→le nought (fin false m e) tt tt (omega arith)

-- a value that is not above zero, negated
plus_side : (a : Float) (m : ℕ) (e : ℤ) → In (neg a) a (fin true m e) → In nought a (fin false m e)
plus_side a m e i = (zero_under m e, subst (λ (z : Float). T (le (fin false m e) z)) (neg_neg a) (turned (le_neg (neg a) (fin true m e) i.0)))
  where
    turned : T (le (neg (fin true m e)) (neg (neg a))) → T (le (fin false m e) (neg (neg a)))
    turned h = unfold neg in h

sized : (f : Format) (a b x y : Float) → T (nonneg a) → T (nonneg b) → T (finite x) → T (finite y) → In (neg a) a x → In (neg b) b y → In (neg (mul f a b)) (mul f a b) (mul f x y)
unfolding neg
sized f a b nan y A B p q i j = absurd p
sized f a b (inf s) y A B p q i j = absurd p
sized f a b (fin s m e) nan A B p q i j = absurd q
sized f a b (fin s m e) (inf t) A B p q i j = absurd q
sized f a b (fin false m e) (fin false n d) A B p q i j =
    (either_side (mul f a b) (mul f (fin false m e) (fin false n d)) (plus_in f a b (fin false m e) (fin false n d) A B tt tt (zero_under m e, i.1) (zero_under n d, j.1))).0
sized f a b (fin true m e) (fin true n d) A B p q i j =
    (either_side (mul f a b) (mul f (fin true m e) (fin true n d)) (rw (sym (mul_neg_neg f (fin true m e) (fin true n d) tt tt)) (plus_in f a b (fin false m e) (fin false n d) A B tt tt (plus_side a m e i) (plus_side b n d j)))).0
sized f a b (fin true m e) (fin false n d) A B p q i j =
    subst (In (neg (mul f a b)) (mul f a b)) (sym (mul_neg_left f (fin false m e) (fin false n d) tt tt))
    (either_side (mul f a b) (mul f (fin false m e) (fin false n d)) (plus_in f a b (fin false m e) (fin false n d) A B tt tt (plus_side a m e i) (zero_under n d, j.1))).1
sized f a b (fin false m e) (fin true n d) A B p q i j =
    rw (mul_swap f (fin false m e) (fin true n d))
    (subst (In (neg (mul f a b)) (mul f a b)) (sym (mul_neg_left f (fin false n d) (fin false m e) tt tt))
    (either_side (mul f a b) (mul f (fin false n d) (fin false m e)) (rw (mul_swap f (fin false n d) (fin false m e)) (plus_in f a b (fin false m e) (fin false n d) A B tt tt (zero_under m e, i.1) (plus_side b n d j)))).1)

pub sized_in : (f : Format) (a b x y : Float) → T (nonneg a) → T (nonneg b) → In (neg a) a x → In (neg b) b y → In (neg (mul f a b)) (mul f a b) (mul f x y)
sized_in f a b x y A B i j =
    let fa = nonneg_finite a A in
    let fb = nonneg_finite b B in
    sized f a b x y A B (in_finite (neg a) a x (neg_finite a fa) fa i) (in_finite (neg b) b y (neg_finite b fb) fb j) i j

-- ---- squares: x from -b to b, of either sign
pub square_nonneg : (f : Format) (x : Float) → T (finite x) → T (le nought (mul f x x))
square_nonneg f x p = rounded_nonneg f (mul f x x) _ _ _ (mul_rounded f x x p p) (square_cross x p)
  where
    square_cross : (x : Float) → T (finite x) → ps x * ng x + ng x * ps x ≤ ps x * ps x + ng x * ng x
    square_cross nan p = absurd p
    square_cross (inf s) p = absurd p
    square_cross (fin true m e) p = omega arith
    square_cross (fin false m e) p = omega arith

pub square_in : (f : Format) (b x : Float) → T (nonneg b) → In (neg b) b x → In nought (mul f b b) (mul f x x)
square_in f b x B i =
    let X = in_finite (neg b) b x (neg_finite b (nonneg_finite b B)) (nonneg_finite b B) i in
    (square_nonneg f x X, (sized_in f b b x x B B i i).1)

-- k * z * z, in this order, is not above zero where k is not
pub scaled_square : (f : Format) (k z : Float) → T (finite k) → T (finite z) → T (le k nought) → T (finite (mul f k z)) → T (le (mul f (mul f k z) z) nought)
scaled_square f k z K Z k-low P = elim (ordered nought z (finite_number nought tt) (finite_number z Z)) [
  | inl h ↦ rw (mul_swap f (mul f k z) z) (mul_nonpos f z (mul f k z) Z P h (rw (mul_swap f k z) (mul_nonpos f z k Z K h k-low)))
  | inr h ↦ mul_nonpos f (mul f k z) z P Z (both_low h) h
]
  where
    both_low : T (le z nought) → T (le nought (mul f k z))
    both_low h = rounded_nonneg f (mul f k z) _ _ _ (mul_rounded f k z K Z) (omega (arith, like_cross (ng k) (ps k) (ng z) (ps z) (below_zero k K k-low) (below_zero z Z h)))

-- ---- 0.25
abbrev pub quarter : Float
quarter = fin false 1 (negsuc 1)

abbrev pub four : Float
four = fin false 1 (pos 2)

pub by_quarter : (f : Format) (x : Float) → div f x quarter ≡ mul f x four
unfolding div mul
by_quarter f nan = refl
by_quarter f (inf s) = refl
by_quarter f (fin s m e) = ap (λ (c : ℕ). round f (unlike s false) (m * up e * 4) c) (one-mul (down e) ∙ sym (mul-one (down e)))

-- the same as the code writes it: `x / 0.25` is `x * 4.0`
pub by_quarter32 : (x : Float) → div binary32 x (of_bits binary32 0x3e80_0000) ≡ mul binary32 x (of_bits binary32 0x4080_0000)
unfolding of_bits
by_quarter32 x = by_quarter binary32 x
