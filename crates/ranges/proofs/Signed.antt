-- A finite float as the signed fraction (ps - ng) / den: the order of floats is that of the fractions, is transitive, and negation turns it round. Assumes nothing.
use mathlib.Core.Path.{◌≡◌, refl, sym}
use mathlib.Core.Logic.{◌⊎◌, inl, inr}
use Prim.Native.Nat.{ℕ, ◌+◌, ◌*◌, ◌≤◌, ◌<◌}
use native.Mathlib.Nat.{le_of_eq, le_of_lt, eq-or-lt_of_le, eq-zero-or-pos, add-mul, mul-add, mul_comm, mul_assoc, mul_left_comm, mul-le-mul_right, le_of_mul-le-mul_right}
use native.Mathlib.Omega.{arith}
use mathlib.Core.Bool.{Bool, true, false, not, ◌&&◌, ◌||◌}
use lib.Dec.{T, ltb, eqb, eqb→eq, ltb→lt, lt→ltb}
use lib.Ieee.{Float, nan, inf, fin, up, down, neg, le, is_nan}
use lib.Ieee.Fits.{down_pos, and_i, and_l, and_r, eq→eqb}
use lib.Ieee.Scale.{finite}
use lib.Ieee.Positive.{den, positive}

-- ---- the numerator, above zero and below
abbrev pub ps : Float → ℕ
ps nan = 0
ps (inf s) = 0
ps (fin true m e) = 0
ps (fin false m e) = m * up e

abbrev pub ng : Float → ℕ
ng nan = 0
ng (inf s) = 0
ng (fin true m e) = m * up e
ng (fin false m e) = 0

pub ruleset flat = (add-mul, mul-add, mul_assoc, mul_comm, mul_left_comm)

-- ---- tests
pub or_l : (a b : Bool) → T a → T (a || b)
or_l true b t = tt
or_l false b t = absurd t

or_r : (a b : Bool) → T b → T (a || b)
or_r true b t = tt
or_r false b t = t

pub or_split : (a b : Bool) → T (a || b) → T a ⊎ T b
or_split true b t = inl tt
or_split false b t = inr t

-- a ≤ b as `le` tests it: below, or level
pub from_le : (a b : ℕ) (c : Bool) → T c → a ≤ b → T (ltb a b || (eqb a b && c))
from_le a b c t h = elim (eq-or-lt_of_le h) [ inl p ↦ or_r (ltb a b) (eqb a b && c) (and_i (eqb a b) c (eq→eqb p) t) | inr q ↦ or_l (ltb a b) (eqb a b && c) (lt→ltb a b q) ]

to_le : (a b : ℕ) (c : Bool) → T (ltb a b || (eqb a b && c)) → a ≤ b
to_le a b c t = elim (or_split (ltb a b) (eqb a b && c) t) [ inl u ↦ le_of_lt (ltb→lt a b u) | inr u ↦ le_of_eq (eqb→eq a b (and_l (eqb a b) c u)) ]

pub from_ge : (a b : ℕ) (c : Bool) → T c → b ≤ a → T (ltb b a || (eqb a b && c))
from_ge a b c t h = elim (eq-or-lt_of_le h) [ inl p ↦ or_r (ltb b a) (eqb a b && c) (and_i (eqb a b) c (eq→eqb (sym p)) t) | inr q ↦ or_l (ltb b a) (eqb a b && c) (lt→ltb b a q) ]

to_ge : (a b : ℕ) (c : Bool) → T (ltb b a || (eqb a b && c)) → b ≤ a
to_ge a b c t = elim (or_split (ltb b a) (eqb a b && c) t) [ inl u ↦ le_of_lt (ltb→lt b a u) | inr u ↦ le_of_eq (sym (eqb→eq a b (and_l (eqb a b) c u))) ]

-- ---- the order, as one of signed fractions
abbrev pub Cross : Float → Float → Type 0
Cross x y = ps x * den y + ng y * den x ≤ ps y * den x + ng x * den y

pub le→signed : (x y : Float) → T (finite x) → T (finite y) → T (le x y) → Cross x y
unfolding le
le→signed nan y p q h = absurd p
le→signed (inf s) y p q h = absurd p
le→signed (fin s m e) nan p q h = absurd q
le→signed (fin s m e) (inf t) p q h = absurd q
le→signed (fin false m e) (fin false n d) p q h =
    let k = to_le (m * up e * down d) (n * up d * down e) true h in
    omega arith
le→signed (fin true m e) (fin true n d) p q h =
    let k = to_ge (m * up e * down d) (n * up d * down e) true h in
    omega arith
le→signed (fin true m e) (fin false n d) p q h = omega arith
le→signed (fin false m e) (fin true n d) p q h =
    let a = eqb→eq (m * up e * down d) (n * up d * down e) (and_l (eqb (m * up e * down d) (n * up d * down e)) (eqb (m * up e * down d) 0) h) in
    let b = eqb→eq (m * up e * down d) 0 (and_r (eqb (m * up e * down d) (n * up d * down e)) (eqb (m * up e * down d) 0) h) in
    omega arith

-- any a and b are below level or both zero
pub from_signs : (a b : ℕ) → T (ltb 0 (a + b) || (eqb a b && eqb a 0))
from_signs a b = elim (eq-zero-or-pos (a + b)) [
  | inl z ↦ or_r (ltb 0 (a + b)) (eqb a b && eqb a 0)
      (and_i (eqb a b) (eqb a 0) (eq→eqb (same a b z)) (eq→eqb (first_zero a b z)))
  | inr q ↦ or_l (ltb 0 (a + b)) (eqb a b && eqb a 0) (lt→ltb 0 (a + b) q)
]
  where
    same : (a b : ℕ) → a + b ≡ 0 → a ≡ b
    same a b z = omega arith

    first_zero : (a b : ℕ) → a + b ≡ 0 → a ≡ 0
    first_zero a b z = omega arith

pub signed→le : (x y : Float) → T (finite x) → T (finite y) → Cross x y → T (le x y)
unfolding le
signed→le nan y p q h = absurd p
signed→le (inf s) y p q h = absurd p
signed→le (fin s m e) nan p q h = absurd q
signed→le (fin s m e) (inf t) p q h = absurd q
signed→le (fin false m e) (fin false n d) p q h = from_le (m * up e * down d) (n * up d * down e) true tt (omega arith)
signed→le (fin true m e) (fin true n d) p q h = from_ge (m * up e * down d) (n * up d * down e) true tt (omega arith)
signed→le (fin true m e) (fin false n d) p q h = from_signs (m * up e * down d) (n * up d * down e)
signed→le (fin false m e) (fin true n d) p q h =
    and_i (eqb (m * up e * down d) (n * up d * down e)) (eqb (m * up e * down d) 0) (eq→eqb {a = m * up e * down d} {b = n * up d * down e} (omega arith)) (eq→eqb {a = m * up e * down d} {b = 0} (omega arith))

-- ---- what is not below zero, and what is above it
-- not below zero
abbrev pub nonneg : Float → Bool
nonneg nan = false
nonneg (inf s) = false
nonneg (fin s m e) = not s

pub nonneg_finite : (x : Float) → T (nonneg x) → T (finite x)
nonneg_finite nan p = absurd p
nonneg_finite (inf s) p = absurd p
nonneg_finite (fin s m e) p = tt

pub nonneg_ng : (x : Float) → T (nonneg x) → ng x ≡ 0
nonneg_ng nan p = absurd p
nonneg_ng (inf s) p = absurd p
nonneg_ng (fin true m e) p = absurd p
nonneg_ng (fin false m e) p = refl

pub positive_nonneg : (x : Float) → T (positive x) → T (nonneg x)
positive_nonneg nan p = absurd p
positive_nonneg (inf s) p = absurd p
positive_nonneg (fin true m e) p = absurd p
positive_nonneg (fin false m e) p = tt

-- a factor that is not below zero keeps the order, over both signs

pub positive_ng : (x : Float) → T (positive x) → ng x ≡ 0
positive_ng x p = nonneg_ng x (positive_nonneg x p)

-- ---- the order is transitive
trans_cross : (a b c u v w x y z : ℕ) → 0 < w → a * w + v * c ≤ u * c + b * w → u * z + y * w ≤ x * w + v * z → a * z + y * c ≤ x * c + b * z
trans_cross a b c u v w x y z W h k =
    let H = simp flat at (mul-le-mul_right z h) in
    let K = simp flat at (mul-le-mul_right c k) in
    le_of_mul-le-mul_right {m = a * z + y * c} {n = x * c + b * z} {k = w} (simp flat (omega arith)) W

pub le_trans_float : (x y z : Float) → T (le x y) → T (le y z) → T (le x z)
unfolding le
le_trans_float nan y z h k = absurd h
le_trans_float (inf s) nan z h k = absurd h
le_trans_float (inf true) (inf true) z h k = k
le_trans_float (inf true) (inf false) nan h k = absurd k
le_trans_float (inf true) (inf false) (inf true) h k = tt
le_trans_float (inf true) (inf false) (inf false) h k = tt
le_trans_float (inf true) (inf false) (fin t n d) h k = tt
le_trans_float (inf false) (inf true) z h k = absurd h
le_trans_float (inf false) (inf false) z h k = k
le_trans_float (inf true) (fin t n d) nan h k = absurd k
le_trans_float (inf true) (fin t n d) (inf true) h k = tt
le_trans_float (inf true) (fin t n d) (inf false) h k = tt
le_trans_float (inf true) (fin t n d) (fin u i j) h k = tt
le_trans_float (inf false) (fin t n d) z h k = absurd h
le_trans_float (fin s m e) nan z h k = absurd h
le_trans_float (fin s m e) (inf true) z h k = absurd h
le_trans_float (fin s m e) (inf false) nan h k = absurd k
le_trans_float (fin s m e) (inf false) (inf true) h k = absurd k
le_trans_float (fin s m e) (inf false) (inf false) h k = tt
le_trans_float (fin s m e) (inf false) (fin u i j) h k = absurd k
le_trans_float (fin s m e) (fin t n d) nan h k = absurd k
le_trans_float (fin s m e) (fin t n d) (inf true) h k = absurd k
le_trans_float (fin s m e) (fin t n d) (inf false) h k = tt
le_trans_float (fin s m e) (fin t n d) (fin u i j) h k =
    let x = fin s m e in
    let y = fin t n d in
    let z = fin u i j in
    signed→le x z tt tt (trans_cross (ps x) (ng x) (den x) (ps y) (ng y) (den y) (ps z) (ng z) (den z) (down_pos d) (le→signed x y tt tt h) (le→signed y z tt tt k))

-- ---- negation
pub neg_finite : (x : Float) → T (finite x) → T (finite (neg x))
unfolding neg
neg_finite nan p = absurd p
neg_finite (inf s) p = absurd p
neg_finite (fin s m e) p = tt

pub neg_ps : (y : Float) → ps (neg y) ≡ ng y
unfolding neg
neg_ps nan = refl
neg_ps (inf s) = refl
neg_ps (fin true m e) = refl
neg_ps (fin false m e) = refl

pub neg_ng : (y : Float) → ng (neg y) ≡ ps y
unfolding neg
neg_ng nan = refl
neg_ng (inf s) = refl
neg_ng (fin true m e) = refl
neg_ng (fin false m e) = refl

pub neg_den : (y : Float) → den (neg y) ≡ den y
unfolding neg
neg_den nan = refl
neg_den (inf s) = refl
neg_den (fin s m e) = refl

pub neg_neg : (x : Float) → neg (neg x) ≡ x
unfolding neg
neg_neg nan = refl
neg_neg (inf true) = refl
neg_neg (inf false) = refl
neg_neg (fin true m e) = refl
neg_neg (fin false m e) = refl

-- negation turns the order round
pub le_neg : (x y : Float) → T (le x y) → T (le (neg y) (neg x))
unfolding le neg
le_neg nan y h = absurd h
le_neg (inf s) nan h = absurd h
le_neg (inf true) (inf true) h = tt
le_neg (inf true) (inf false) h = tt
le_neg (inf false) (inf true) h = absurd h
le_neg (inf false) (inf false) h = tt
le_neg (inf true) (fin t n d) h = tt
le_neg (inf false) (fin t n d) h = absurd h
le_neg (fin s m e) nan h = absurd h
le_neg (fin s m e) (inf true) h = absurd h
le_neg (fin s m e) (inf false) h = tt
le_neg (fin false m e) (fin false n d) h = signed→le (fin true n d) (fin true m e) tt tt (omega (arith, le→signed (fin false m e) (fin false n d) tt tt h))
le_neg (fin true m e) (fin true n d) h = signed→le (fin false n d) (fin false m e) tt tt (omega (arith, le→signed (fin true m e) (fin true n d) tt tt h))
le_neg (fin true m e) (fin false n d) h = signed→le (fin true n d) (fin false m e) tt tt (omega (arith, le→signed (fin true m e) (fin false n d) tt tt h))
le_neg (fin false m e) (fin true n d) h = signed→le (fin false n d) (fin true m e) tt tt (omega (arith, le→signed (fin false m e) (fin true n d) tt tt h))

-- ---- finite values
pub finite_number : (x : Float) → T (finite x) → T (not (is_nan x))
unfolding is_nan
finite_number nan p = absurd p
finite_number (inf s) p = absurd p
finite_number (fin s m e) p = tt

pub le_self : (x : Float) → T (finite x) → T (le x x)
le_self x p = signed→le x x p p (omega arith)
