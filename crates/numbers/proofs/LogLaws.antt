-- One digit of the logarithm, and the turns of the loops over 24 of them. Assumes nothing.
use Rattle.std.proofs.Common.{◌≡◌, ℕ, suc, ◌+◌, ◌-◌, ◌*◌, ◌/◌, ◌^◌, ◌<◌, ◌≤◌, Bool, true, false, cond, leb, sym, refl, ap, ◌∙◌, subst, le_trans, lt_of_lt_of_le, lt_of_le_of_lt, le_of_lt, mul-le-mul_right, div-lt_iff_lt-mul, mul-le-mul_left, mul-lt-mul_of_pos_right, le-div_iff_mul-le, add-one, arith, lit≤, pow_pos, pow_mono, leb-false, leb-true}
use native.Mathlib.Nat.{pow-succ'}
use Rattle.numbers.specs.Log.{squared, full, digit, next, digits}

module _ (y : ℕ) (lo : 2 ^ 31 ≤ y) (hi : y < 2 ^ 32) where
  pub square_fits : y * y < 2 ^ 64
  square_fits = lt_of_le_of_lt (mul-le-mul_left y (le_of_lt hi)) (mul-lt-mul_of_pos_right hi (pow_pos 32))

  squared_ge : 2 ^ 31 ≤ squared y
  squared_ge = (le-div_iff_mul-le (pow_pos 31)).1 (le_trans (mul-le-mul_left (2 ^ 31) lo) (mul-le-mul_right y lo))

  squared_lt : squared y < 2 ^ 33
  squared_lt = (div-lt_iff_lt-mul (pow_pos 31)).1 square_fits

one_less : (i : ℕ) → i < 24 → 24 - i ≡ suc (24 - (i + 1))
one_less i h = omega arith

step : (d y t : ℕ) → digits (suc d) y t ≡ digits d (next y) (2 * t + digit y)
unfolding digits
step d y t = refl

digit_le : (y : ℕ) → digit y ≤ 1
digit_le y = go (full y)
  where
    go : (b : Bool) → cond b 1 0 ≤ 1
    go true = lit≤ tt
    go false = lit≤ tt

-- ---- the next y keeps its leading one at bit 31
module _ (y : ℕ) (lo : 2 ^ 31 ≤ y) (hi : y < 2 ^ 32) where
  in_word : (b : Bool) → leb (2 ^ 32) (squared y) ≡ b
      → (2 ^ 31 ≤ cond b (squared y / 2) (squared y)) × (cond b (squared y / 2) (squared y) < 2 ^ 32)
  in_word true e = go (squared y) (leb-true (2 ^ 32) (squared y) e) (squared_lt y lo hi)
    where
      go : (s : ℕ) → 2 ^ 32 ≤ s → s < 2 ^ 33 → (2 ^ 31 ≤ s / 2) × (s / 2 < 2 ^ 32)
      go s a b = (omega arith, omega arith)
  in_word false e = (squared_ge y lo hi, leb-false (2 ^ 32) (squared y) e)

  next_in : (2 ^ 31 ≤ next y) × (next y < 2 ^ 32)
  next_in = in_word (leb (2 ^ 32) (squared y)) refl

none_left : (i y t : ℕ) → i ≤ 24 → 24 ≤ i → digits (24 - i) y t ≡ t
unfolding digits
none_left i y t h l = ap (λ (d : ℕ). digits d y t) (go i h l)
  where
    go : (x : ℕ) → x ≤ 24 → 24 ≤ x → 24 - x ≡ 0
    go x a b = omega arith

-- one more place
pub more : (t d i : ℕ) → d ≤ 1 → t < 2 ^ i → 2 * t + d < 2 ^ (i + 1)
more t d i k h =
    subst (λ (x : ℕ). 2 * t + d < x) (sym (ap (λ (x : ℕ). 2 ^ x) (add-one i) ∙ pow-succ' 2 i)) (go (2 ^ i) h)
  where
    go : (p : ℕ) → t < p → 2 * t + d < 2 * p
    go p l = omega arith

-- ---- a loop over the digits of w: y keeps its leading one at bit 31, t has i digits, and the digits that are left,
-- after t, make the answer
pub record Good (w y t i : ℕ) : Type 0 where
  pub turns : i ≤ 24
  pub low : 2 ^ 31 ≤ y
  pub high : y < 2 ^ 32
  pub short : t < 2 ^ i
  pub rest : digits (24 - i) y t ≡ digits 24 w 0

pub begin : (w : ℕ) → 2 ^ 31 ≤ w → w < 2 ^ 32 → Good w w 0 0
begin w a b = record { turns = lit≤ tt; low = a; high = b; short = lit≤ tt; rest = refl }

-- t stays below 2 ^ 24
pub fits : {w y t i : ℕ} → Good w y t i → t < 2 ^ 24
fits g = lt_of_lt_of_le g.short (pow_mono g.turns)

-- one turn: y' and t' are what the code has next
pub again : {w y t i y' t' : ℕ} → Good w y t i → i < 24 → y' ≡ next y → t' ≡ 2 * t + digit y → Good w y' t' (i + 1)
again {w} {y} {t} {i} {y'} {t'} g h a b =
    let k = next_in y g.low g.high in
    record {
      turns = omega arith;
      low = subst (λ (x : ℕ). 2 ^ 31 ≤ x) (sym a) k.0;
      high = subst (λ (x : ℕ). x < 2 ^ 32) (sym a) k.1;
      short = subst (λ (x : ℕ). x < 2 ^ (i + 1)) (sym b)
          (more t (digit y) i (digit_le y) g.short);
      rest =
          ap (λ (x : ℕ). digits (24 - (i + 1)) x t') a
          ∙ ap (λ (x : ℕ). digits (24 - (i + 1)) (next y) x) b
          ∙ sym (ap (λ (d : ℕ). digits d y t) (one_less i h) ∙ step (24 - (i + 1)) y t)
          ∙ g.rest;
    }

-- after 24 of them
pub ended : {w y t i : ℕ} → Good w y t i → 24 ≤ i → (t ≡ digits 24 w 0) × (t < 2 ^ 24)
ended {w} {y} {t} {i} g h = (sym (none_left i y t g.turns h) ∙ g.rest, fits g)
