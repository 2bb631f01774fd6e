-- The forms of a float, and which of them pass the tests of the code: finite and above zero, a zero, and what has no root. Assumes nothing.
use Rattle.std.proofs.Common.{◌≡◌, ℕ, zero, suc, ◌*◌, ◌%◌, ◌^◌, ◌<◌, ◌≤◌, Bool, true, false, not, ◌&&◌, ◌||◌, T, eqb, ltb, ℤ, pos, negsuc, sym, refl, ap, ◌∙◌, subst, true≢false, le_trans, lt_of_lt_of_le, lt_irrefl, zero-lt-suc, mul-pos, zero-mul, mul-one, one-mul, le_of_eq, arith, ltb-false, ltb-true, le-ltb, lt-ltb, eq-eqb, eqb-true, eqb→eq}
use mathlib.Core.Bool.{beq, false≢true}
use native.Mathlib.Nat.{mod-le}
use lib.Pow.{pow-lt}
use lib.Ieee.{Float, nan, inf, fin, Format, binary32, binary64, up, down, fits, is_nan, hid, ones, top, nan_bits, of_bits, lt, eq, neg, div}
use lib.Ieee.Bits.{nan_bits_above}
use lib.Ieee.Fits.{and_i, fits_widens, up_pos}
use lib.Ieee.Scale.{finite}
use lib.Ieee.Positive.{positive}
use Rattle.numbers.specs.Root.{sqrt_of}

-- ---- the literals of the tests
abbrev pub origin : Float
origin = fin false 0 (pos 0)

pub zero_is : (f : Format) → of_bits f 0 ≡ origin
unfolding of_bits
zero_is binary32 = refl
zero_is binary64 = refl

pub top32_is : of_bits binary32 0x7f80_0000 ≡ inf false
unfolding of_bits
top32_is = refl

pub top64_is : of_bits binary64 0x7ff0_0000_0000_0000 ≡ inf false
unfolding of_bits
top64_is = refl

pub top64_number : T (not (nan_bits binary64 0x7ff0_0000_0000_0000))
unfolding nan_bits
top64_number = tt

-- a pattern up to the infinity's is no NaN's
pub number_bits : (f : Format) (n : ℕ) → n ≤ ones f * hid f → T (not (nan_bits f n))
number_bits f n h = subst (λ (b : Bool). T (not b)) (sym (nan_bits_above f n ∙ le-ltb (ones f * hid f) (n % top f) (le_trans (mod-le n (top f)) h))) tt

-- what is above zero is a number
number_at : (v : Float) → lt origin v ≡ true → T (not (is_nan v))
unfolding lt is_nan
number_at nan h = absurd (false≢true h)
number_at (inf s) h = tt
number_at (fin s m e) h = tt

pub above_number : (f : Format) (v : Float) → lt (of_bits f 0) v ≡ true → T (not (is_nan v))
above_number f v h = number_at v (ap (λ (x : Float). lt x v) (sym (zero_is f)) ∙ h)

-- ---- finite and above zero
abbrev pub Plain : Float → Type 0
Plain v = (m : ℕ) × (e : ℤ) × (v ≡ fin false (suc m) e)

pub plain : (v : Float) → T (positive v) → Plain v
plain nan h = absurd h
plain (inf s) h = absurd h
plain (fin true m e) h = absurd h
plain (fin false zero e) h = absurd h
plain (fin false (suc m) e) h = (m, e, refl)

pub plain_finite : (v : Float) → Plain v → T (finite v)
plain_finite v p = subst (λ (x : Float). T (finite x)) (sym p.2) tt

pub plain_number : (v : Float) → Plain v → T (not (is_nan v))
unfolding is_nan
plain_number v p = subst (λ (x : Float). T (not (is_nan x))) (sym p.2) tt

pub plain_widens : (v : Float) → T (fits binary32 v) → Plain v → T (fits binary64 v && not (is_nan v))
plain_widens v f p = and_i (fits binary64 v) (not (is_nan v)) (fits_widens v f) (plain_number v p)

none_above : (d : ℕ) → 0 * 1 * d < 0 → ⊥
none_above d h = omega arith

nothing : (x d : ℕ) → x * 1 ≤ 0 * 1 * d → x ≤ 0
nothing x d h = omega arith

not_below : (m : ℕ) (e : ℤ) → ltb (0 * 1 * down e) (suc m * up e * 1) ≡ false → ⊥
not_below m e h =
    lt_irrefl 0
    (lt_of_lt_of_le (mul-pos (zero-lt-suc m) (up_pos e))
    (nothing (suc m * up e) (down e) (ltb-false (0 * 1 * down e) (suc m * up e * 1) h)))

positive_at : (v : Float) → lt origin v ≡ true → lt v (inf false) ≡ true → positive v ≡ true
unfolding lt
positive_at nan a b = a
positive_at (inf true) a b = a
positive_at (inf false) a b = b
positive_at (fin true m e) a b = a
positive_at (fin false zero e) a b = absurd (none_above (down e) (subst (λ (x : ℕ). 0 * 1 * down e < x) (mul-one (0 * up e) ∙ zero-mul (up e)) (ltb-true (0 * 1 * down e) (0 * up e * 1) a)))
positive_at (fin false (suc m) e) a b = lt-ltb 0 (suc m) (zero-lt-suc m)

low_at : (v : Float) → lt origin v ≡ false → positive v ≡ false
unfolding lt
low_at nan a = refl
low_at (inf s) a = refl
low_at (fin true m e) a = refl
low_at (fin false zero e) a = refl
low_at (fin false (suc m) e) a = absurd (not_below m e a)

high_at : (v : Float) → lt v (inf false) ≡ false → positive v ≡ false
unfolding lt
high_at nan b = refl
high_at (inf s) b = refl
high_at (fin s m e) b = absurd (true≢false b)

-- by the tests `0.0 < v` and `v < infinity`, of either format
module _ (f : Format) (v t : Float) (I : t ≡ inf false) where
  pub positive_by : lt (of_bits f 0) v ≡ true → lt v t ≡ true → positive v ≡ true
  positive_by a b = positive_at v (ap (λ (x : Float). lt x v) (sym (zero_is f)) ∙ a) (ap (λ (x : Float). lt v x) (sym I) ∙ b)

  pub low_by : lt (of_bits f 0) v ≡ false → positive v ≡ false
  low_by a = low_at v (ap (λ (x : Float). lt x v) (sym (zero_is f)) ∙ a)

  pub high_by : lt v t ≡ false → positive v ≡ false
  high_by b = high_at v (ap (λ (x : Float). lt v x) (sym I) ∙ b)

pub passed : (v : Float) → positive v ≡ true → T (positive v)
passed v e = subst T (sym e) tt

-- ---- finite, by two comparisons with the infinities
minus_is : neg (inf false) ≡ inf true
unfolding neg
minus_is = refl

finite_at : (v : Float) → lt (inf true) v ≡ true → lt v (inf false) ≡ finite v
unfolding lt
finite_at nan h = absurd (false≢true h)
finite_at (inf true) h = absurd (false≢true h)
finite_at (inf false) h = refl
finite_at (fin s m e) h = refl

not_finite_at : (v : Float) → lt (inf true) v ≡ false → false ≡ finite v
unfolding lt
not_finite_at nan h = refl
not_finite_at (inf s) h = refl
not_finite_at (fin s m e) h = absurd (true≢false h)

module _ (v t : Float) (I : t ≡ inf false) where
  pub finite_by : lt (neg t) v ≡ true → lt v t ≡ finite v
  finite_by h = ap (λ (x : Float). lt v x) I ∙ finite_at v (sym (ap (λ (x : Float). lt x v) (ap neg I ∙ minus_is)) ∙ h)

  pub not_finite_by : lt (neg t) v ≡ false → false ≡ finite v
  not_finite_by h = not_finite_at v (sym (ap (λ (x : Float). lt x v) (ap neg I ∙ minus_is)) ∙ h)

-- ---- zeros, and what has no root
abbrev pub Zero : Float → Type 0
Zero v = (s : Bool) × (e : ℤ) × (v ≡ fin s zero e)

no_zero : (x d : ℕ) → 0 < x → x * 1 ≡ 0 * 1 * d → ⊥
no_zero x d p h = omega arith

and_first : (a b : Bool) → (a && b) ≡ true → a ≡ true
and_first true b h = refl
and_first false b h = h

zero_at : (v : Float) → eq v origin ≡ true → Zero v
unfolding eq
zero_at nan h = absurd (false≢true h)
zero_at (inf s) h = absurd (false≢true h)
zero_at (fin s zero e) h = (s, e, refl)
zero_at (fin s (suc m) e) h =
    absurd (no_zero (suc m * up e) (down e) (mul-pos (zero-lt-suc m) (up_pos e))
    (eqb-true (suc m * up e * 1) (0 * 1 * down e) (and_first (eqb (suc m * up e * 1) (0 * 1 * down e)) (beq s false || eqb (suc m * up e * 1) 0) h)))

pub zero_by : (f : Format) (v : Float) → eq v (of_bits f 0) ≡ true → Zero v
zero_by f v h = zero_at v (ap (λ (x : Float). eq v x) (sym (zero_is f)) ∙ h)

nil : (x d : ℕ) → x ≡ 0 → 0 * 1 * d ≡ x * 1
nil x d h = omega arith

or_true : (s : Bool) → (s || true) ≡ true
or_true true = refl
or_true false = refl

pub equals_zero : (s : Bool) (e : ℤ) → eq (fin s zero e) origin ≡ true
unfolding eq
equals_zero s e =
    ap (λ (b : Bool). b && (beq s false || eqb (0 * up e * 1) 0)) (eq-eqb (0 * up e * 1) (0 * 1 * down e) (sym (nil (0 * up e) (down e) (zero-mul (up e)))))
    ∙ ap (λ (b : Bool). beq s false || b) (eq-eqb (0 * up e * 1) 0 (mul-one (0 * up e) ∙ zero-mul (up e)))
    ∙ or_true (beq s false)

more_than_one : (k : ℕ) → 2 ^ suc k ≡ 1 → ⊥
more_than_one k h = lt_irrefl 1 (lt_of_lt_of_le (pow-lt (zero-lt-suc k)) (le_of_eq h))

-- a zero of a format is written in one way
pub zero_form : (f : Format) (s : Bool) (e : ℤ) → T (fits f (fin s zero e)) → e ≡ pos 0
unfolding fits
zero_form f s (pos zero) h = refl
zero_form f s (pos (suc k)) h = absurd (more_than_one k (sym (mul-one (2 ^ suc k)) ∙ eqb→eq (2 ^ suc k * 1) 1 h))
zero_form f s (negsuc k) h = absurd (more_than_one k (sym (one-mul (2 ^ suc k)) ∙ eqb→eq (1 * 2 ^ suc k) 1 h))

-- ---- the root of what is not finite and above zero
top_at : (f : Format) (v : Float) → lt origin v ≡ true → lt v (inf false) ≡ false → v ≡ sqrt_of f v
unfolding lt sqrt_of
top_at f nan a b = refl
top_at f (inf true) a b = absurd (false≢true a)
top_at f (inf false) a b = refl
top_at f (fin s m e) a b = absurd (true≢false b)

pub top_root : (f : Format) (v t : Float) → t ≡ inf false → lt (of_bits f 0) v ≡ true → lt v t ≡ false → v ≡ sqrt_of f v
top_root f v t I a b = top_at f v (ap (λ (x : Float). lt x v) (sym (zero_is f)) ∙ a) (ap (λ (x : Float). lt v x) (sym I) ∙ b)

zero_root_at : (f : Format) (s : Bool) (e : ℤ) → fin s zero e ≡ sqrt_of f (fin s zero e)
unfolding sqrt_of
zero_root_at f s e = refl

pub zero_root : (f : Format) (v : Float) → eq v (of_bits f 0) ≡ true → v ≡ sqrt_of f v
zero_root f v h = let z = zero_by f v h in z.2 ∙ zero_root_at f z.0 z.1 ∙ ap (sqrt_of f) (sym z.2)

none_at : (f : Format) (v : Float) → lt origin v ≡ false → eq v origin ≡ false → nan ≡ sqrt_of f v
unfolding lt sqrt_of
none_at f nan a b = refl
none_at f (inf true) a b = refl
none_at f (inf false) a b = absurd (true≢false a)
none_at f (fin s zero e) a b = absurd (true≢false (sym (equals_zero s e) ∙ b))
none_at f (fin true (suc m) e) a b = refl
none_at f (fin false (suc m) e) a b = absurd (not_below m e a)

nan_is : (f : Format) → div f (of_bits f 0) (of_bits f 0) ≡ nan
unfolding div of_bits
nan_is binary32 = refl
nan_is binary64 = refl

pub no_root : (f : Format) (v : Float) → lt (of_bits f 0) v ≡ false → eq v (of_bits f 0) ≡ false → div f (of_bits f 0) (of_bits f 0) ≡ sqrt_of f v
no_root f v a b = nan_is f ∙ none_at f v (ap (λ (x : Float). lt x v) (sym (zero_is f)) ∙ a) (ap (λ (x : Float). eq v x) (sym (zero_is f)) ∙ b)
