-- Which values pass the tests of the code: finite, and a zero. Assumes nothing.
use Rattle.std.proofs.Common.{◌≡◌, ℕ, zero, suc, ◌*◌, ◌^◌, ◌<◌, Bool, true, false, not, ◌&&◌, ◌||◌, T, eqb, ℤ, pos, negsuc, sym, refl, ap, ◌∙◌, lt_of_lt_of_le, lt_irrefl, zero-lt-suc, mul-pos, mul-one, arith, eqb-true, eqb→eq, le_of_eq, one-mul, true≢false}
use mathlib.Core.Bool.{beq, false≢true}
use lib.Pow.{pow-lt}
use lib.Ieee.{Float, nan, inf, fin, Format, binary32, binary64, up, down, fits, nan_bits, of_bits, lt, eq, neg}
use lib.Ieee.Fits.{up_pos}
use lib.Ieee.Scale.{finite}

-- ---- the literals of the tests
abbrev pub origin : Float
origin = fin false 0 (pos 0)

pub zero_is : (f : Format) → of_bits f 0 ≡ origin
unfolding of_bits
zero_is binary32 = refl
zero_is binary64 = refl

pub top32_is : of_bits binary32 0x7f80_0000 ≡ inf false
unfolding of_bits
top32_is = refl

pub top32_number : T (not (nan_bits binary32 0x7f80_0000))
unfolding nan_bits
top32_number = tt

-- ---- finite, by two comparisons with the infinities
minus_is : neg (inf false) ≡ inf true
unfolding neg
minus_is = refl

finite_at : (v : Float) → lt (inf true) v ≡ true → lt v (inf false) ≡ finite v
unfolding lt
finite_at nan h = absurd (false≢true h)
finite_at (inf true) h = absurd (false≢true h)
finite_at (inf false) h = refl
finite_at (fin s m e) h = refl

not_finite_at : (v : Float) → lt (inf true) v ≡ false → false ≡ finite v
unfolding lt
not_finite_at nan h = refl
not_finite_at (inf s) h = refl
not_finite_at (fin s m e) h = absurd (true≢false h)

module _ (v t : Float) (I : t ≡ inf false) where
  pub finite_by : lt (neg t) v ≡ true → lt v t ≡ finite v
  finite_by h = ap (λ (x : Float). lt v x) I ∙ finite_at v (sym (ap (λ (x : Float). lt x v) (ap neg I ∙ minus_is)) ∙ h)

  pub not_finite_by : lt (neg t) v ≡ false → false ≡ finite v
  not_finite_by h = not_finite_at v (sym (ap (λ (x : Float). lt x v) (ap neg I ∙ minus_is)) ∙ h)

-- ---- zeros
abbrev pub Zero : Float → Type 0
Zero v = (s : Bool) × (e : ℤ) × (v ≡ fin s zero e)

no_zero : (x d : ℕ) → 0 < x → x * 1 ≡ 0 * 1 * d → ⊥
no_zero x d p h = omega arith

and_first : (a b : Bool) → (a && b) ≡ true → a ≡ true
and_first true b h = refl
and_first false b h = h

zero_at : (v : Float) → eq v origin ≡ true → Zero v
unfolding eq
zero_at nan h = absurd (false≢true h)
zero_at (inf s) h = absurd (false≢true h)
zero_at (fin s zero e) h = (s, e, refl)
zero_at (fin s (suc m) e) h =
    absurd (no_zero (suc m * up e) (down e) (mul-pos (zero-lt-suc m) (up_pos e))
    (eqb-true (suc m * up e * 1) (0 * 1 * down e) (and_first (eqb (suc m * up e * 1) (0 * 1 * down e)) (beq s false || eqb (suc m * up e * 1) 0) h)))

pub zero_by : (f : Format) (v : Float) → eq v (of_bits f 0) ≡ true → Zero v
zero_by f v h = zero_at v (ap (λ (x : Float). eq v x) (sym (zero_is f)) ∙ h)

more_than_one : (k : ℕ) → 2 ^ suc k ≡ 1 → ⊥
more_than_one k h = lt_irrefl 1 (lt_of_lt_of_le (pow-lt (zero-lt-suc k)) (le_of_eq h))

-- a zero of a format is written in one way
pub zero_form : (f : Format) (s : Bool) (e : ℤ) → T (fits f (fin s zero e)) → e ≡ pos 0
unfolding fits
zero_form f s (pos zero) h = refl
zero_form f s (pos (suc k)) h = absurd (more_than_one k (sym (mul-one (2 ^ suc k)) ∙ eqb→eq (2 ^ suc k * 1) 1 h))
zero_form f s (negsuc k) h = absurd (more_than_one k (sym (one-mul (2 ^ suc k)) ∙ eqb→eq (1 * 2 ^ suc k) 1 h))
