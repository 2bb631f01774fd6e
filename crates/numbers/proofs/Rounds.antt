-- `round` of m * 2 ^ j / 2 ^ 1074, for an m of i + 1 digits: what it drops and what it keeps, as the code works them out. c is 1074 - low: 925 for binary32 and 0 for binary64.
-- Assumes nothing.
use Rattle.std.proofs.Common.{◌≡◌, ℕ, suc, ◌+◌, ◌-◌, ◌*◌, ◌/◌, ◌%◌, ◌^◌, ◌<◌, ◌≤◌, Bool, ◌⊎◌, sym, refl, ap, ◌∙◌, subst, inl, inr, le_trans, le_of_eq, lt_of_lt_of_le, lt_of_le_of_lt, mul-le-mul_right, mod-eq_of_lt, mul_assoc, div-lt_iff_lt-mul, mul-pos, lt_of_not-le, le-div_iff_mul-le, zero-mul, not-le_of_lt, arith, lit<, lit≤, pow_pos, pow_mono, pow-add, shl_lt}
use Prim.Native.Nat.{compare}
use native.Mathlib.Decide.{dec_le}
use lib.Count.{count_leading_zeros, leading_top, leading_le}
use lib.Ieee.{Format, binary32, binary64, prec, low, size, units, round, hid}
use lib.Ieee.Digits.{size-lt, size-le}
use lib.Ieee.Fits.{nearest-le, round_is, two, two-le_pos}
use lib.Ieee.Nearest.{closest, closest_same, nearest-ge}
use lib.Ieee.Scale.{round_same}
use Rattle.numbers.proofs.Closest.{closest_whole}

size_gt : (n j : ℕ) → 2 ^ j ≤ n → j < size n
size_gt n j h = lt_of_not-le (λ (g : size n ≤ j). not-le_of_lt (lt_of_lt_of_le (size-lt n) (pow_mono g)) h)

-- what is dropped, from the two bounds on the number x of digits: w = i + 1 + j
dropped : (w c p x : ℕ) → x ≤ w - c → (c + p < w → w - c ≤ x) → x - p ≡ w - (c + p)
dropped w c p x hi lo = go (dec_le (suc (c + p)) w)
  where
    go : Dec (suc (c + p) ≤ w) → x - p ≡ w - (c + p)
    go (yes h) = let l = lo h in omega arith
    go (no n) = omega arith

module _ (f : Format) (c : ℕ) (C : low f + c ≡ 1074) (m i j : ℕ) (lo : 2 ^ i ≤ m) (hi : m < 2 ^ suc i) where
  abbrev pub k : ℕ
  k = suc i + j - (c + prec f)

  abbrev a : ℕ
  a = m * 2 ^ j

  abbrev n : ℕ
  n = a * 2 ^ low f

  pos_prec : 0 < prec f
  pos_prec = two-le_pos (prec f) (two f)

  a_hi : a < 2 ^ (suc i + j)
  a_hi = shl_lt (suc i) j hi

  a_lo : 2 ^ (i + j) ≤ a
  a_lo = le_trans (le_of_eq (pow-add 2 i j)) (mul-le-mul_right (2 ^ j) lo)

  digits_hi : size (n / 2 ^ 1074) ≤ suc i + j - c
  digits_hi =
      size-le (n / 2 ^ 1074) (suc i + j - c)
      ((div-lt_iff_lt-mul (pow_pos 1074)).1
      (lt_of_lt_of_le (shl_lt (suc i + j) (low f) a_hi)
      (le_trans (pow_mono (fit (suc i + j) (low f) C)) (le_of_eq (pow-add 2 (suc i + j - c) 1074)))))
    where
      fit : (w l : ℕ) → l + c ≡ 1074 → w + l ≤ w - c + 1074
      fit w l e = omega arith

  digits_lo : c + prec f < suc i + j → suc i + j - c ≤ size (n / 2 ^ 1074)
  digits_lo h =
      le_trans (one_more (prec f) h)
      (size_gt (n / 2 ^ 1074) (i + j - c)
      ((le-div_iff_mul-le (pow_pos 1074)).1
      (le_trans (le_of_eq (sym (pow-add 2 (i + j - c) 1074) ∙ ap (λ (x : ℕ). 2 ^ x) (fit (prec f) (low f) C h) ∙ pow-add 2 (i + j) (low f))) (mul-le-mul_right (2 ^ low f) a_lo))))
    where
      fit : (p l : ℕ) → l + c ≡ 1074 → c + p < suc i + j → i + j - c + 1074 ≡ i + j + l
      fit p l e g = omega arith

      one_more : (p : ℕ) → c + p < suc i + j → suc i + j - c ≤ suc (i + j - c)
      one_more p g = omega arith

  drop_is : size (n / 2 ^ 1074) - prec f ≡ k
  drop_is = dropped (suc i + j) c (prec f) (size (n / 2 ^ 1074)) digits_hi digits_lo

  abbrev pub kept : ℕ
  kept = closest a (2 ^ (c + k))

  pub round_at : (s : Bool) → round f s a (2 ^ 1074) ≡ units f s kept k
  round_at s =
      round_is f s a (2 ^ 1074)
      ∙ ap (λ (x : ℕ). units f s (closest n (2 ^ 1074 * 2 ^ x)) x) drop_is
      ∙ ap (λ (x : ℕ). units f s x k) (closest_same n (2 ^ 1074 * 2 ^ k) a (2 ^ (c + k)) (mul-pos (pow_pos 1074) (pow_pos k)) (pow_pos (c + k)) same)
    where
      fit : (l x : ℕ) → l + c ≡ 1074 → l + (c + x) ≡ 1074 + x
      fit l x e = omega arith

      same : n * 2 ^ (c + k) ≡ a * (2 ^ 1074 * 2 ^ k)
      same = mul_assoc a (2 ^ low f) (2 ^ (c + k)) ∙ ap (λ (x : ℕ). a * x) (sym (pow-add 2 (low f) (c + k)) ∙ ap (λ (x : ℕ). 2 ^ x) (fit (low f) k C) ∙ pow-add 2 1074 k)

  -- ---- the kept number
  whole_lt : a / 2 ^ (c + k) < 2 ^ prec f
  whole_lt =
      (div-lt_iff_lt-mul (pow_pos (c + k))).1
      (lt_of_lt_of_le a_hi (le_trans (pow_mono (fit (prec f))) (le_of_eq (pow-add 2 (prec f) (c + k)))))
    where
      fit : (p : ℕ) → suc i + j ≤ p + (c + (suc i + j - (c + p)))
      fit p = omega arith

  pub kept_hi : kept ≤ 2 ^ prec f
  kept_hi = le_trans (nearest-le (a / 2 ^ (c + k)) (compare (a % 2 ^ (c + k) * 2) (2 ^ (c + k)))) whole_lt

  pub kept_lo : (k ≡ 0) ⊎ (hid f ≤ kept)
  kept_lo = go (dec_le (suc (c + prec f)) (suc i + j))
    where
      fit : (p : ℕ) → 0 < p → c + p < suc i + j → p - 1 + (c + (suc i + j - (c + p))) ≡ i + j
      fit p g h = omega arith

      nil : (p : ℕ) → (suc (c + p) ≤ suc i + j → ⊥) → suc i + j - (c + p) ≡ 0
      nil p g = omega arith

      go : Dec (suc (c + prec f) ≤ suc i + j) → (k ≡ 0) ⊎ (hid f ≤ kept)
      go (yes h) =
          inr (le_trans ((le-div_iff_mul-le (pow_pos (c + k))).1
          (le_trans (le_of_eq (sym (pow-add 2 (prec f - 1) (c + k)) ∙ ap (λ (x : ℕ). 2 ^ x) (fit (prec f) pos_prec h))) a_lo))
          (nearest-ge (a / 2 ^ (c + k)) (compare (a % 2 ^ (c + k) * 2) (2 ^ (c + k)))))
      go (no g) = inl (nil (prec f) g)

  -- ---- no digit is cut off
  pub kept_exact : c + k ≤ j → kept ≡ m * 2 ^ (j - (c + k))
  kept_exact h =
      ap (λ (x : ℕ). closest x (2 ^ (c + k)))
      (ap (λ (x : ℕ). m * 2 ^ x) (sym (back j (c + k) h)) ∙ ap (λ (x : ℕ). m * x) (pow-add 2 (j - (c + k)) (c + k)) ∙ sym (mul_assoc m (2 ^ (j - (c + k))) (2 ^ (c + k))))
      ∙ closest_whole (m * 2 ^ (j - (c + k))) (2 ^ (c + k)) (pow_pos (c + k))
    where
      back : (x y : ℕ) → y ≤ x → x - y + y ≡ x
      back x y g = omega arith

  pub kept_shl : c + k ≤ j → m * 2 ^ (j - (c + k)) % 2 ^ 64 ≡ kept
  kept_shl h = mod-eq_of_lt (subst (λ (x : ℕ). x < 2 ^ 64) (kept_exact h) (lt_of_le_of_lt kept_hi (small f))) ∙ sym (kept_exact h)
    where
      small : (g : Format) → 2 ^ prec g < 2 ^ 64
      small binary32 = lit< tt
      small binary64 = lit< tt

  pub kept_cut : j ≤ c + k → closest m (2 ^ (c + k - j)) ≡ kept
  kept_cut h =
      closest_same m (2 ^ (c + k - j)) a (2 ^ (c + k)) (pow_pos (c + k - j)) (pow_pos (c + k))
      (ap (λ (x : ℕ). m * x) (ap (λ (x : ℕ). 2 ^ x) (join j (c + k) h) ∙ pow-add 2 j (c + k - j)) ∙ sym (mul_assoc m (2 ^ j) (2 ^ (c + k - j))))
    where
      join : (x y : ℕ) → x ≤ y → y ≡ x + (y - x)
      join x y g = omega arith

  -- the leading one is brought to bit 63, by z places, and all but prec digits are cut off
  pub kept_top : (z : ℕ) → z + suc i ≡ 64 → c + prec f ≤ suc i + j
      → closest (m * 2 ^ z % 2 ^ 64) (2 ^ (64 - prec f)) ≡ kept
  kept_top z e h =
      ap (λ (x : ℕ). closest x (2 ^ (64 - prec f)))
      (mod-eq_of_lt (subst (λ (x : ℕ). m * 2 ^ z < 2 ^ x) (places e) (shl_lt (suc i) z hi)))
      ∙ closest_same (m * 2 ^ z) (2 ^ (64 - prec f)) a (2 ^ (c + k)) (pow_pos (64 - prec f)) (pow_pos (c + k))
      (mul_assoc m (2 ^ z) (2 ^ (c + k))
      ∙ ap (λ (x : ℕ). m * x) (sym (pow-add 2 z (c + k)) ∙ ap (λ (x : ℕ). 2 ^ x) (fit (prec f) (short f) e h)
      ∙ pow-add 2 j (64 - prec f))
      ∙ sym (mul_assoc m (2 ^ j) (2 ^ (64 - prec f))))
    where
      places : z + suc i ≡ 64 → suc i + z ≡ 64
      places g = omega arith

      short : (g : Format) → prec g ≤ 64
      short binary32 = lit≤ tt
      short binary64 = lit≤ tt

      fit : (p : ℕ) → p ≤ 64 → z + suc i ≡ 64 → c + p ≤ suc i + j → z + (c + (suc i + j - (c + p))) ≡ j + (64 - p)
      fit p a b g = omega arith

-- ---- zero
pub round_zero : (f : Format) (s : Bool) (m j : ℕ) → m ≡ 0 → round f s (m * 2 ^ j) (2 ^ 1074) ≡ units f s 0 0
round_zero f s m j e = ap (λ (x : ℕ). round f s x (2 ^ 1074)) (ap (λ (x : ℕ). x * 2 ^ j) e ∙ zero-mul (2 ^ j)) ∙ at f
  where
    at : (g : Format) → round g s 0 (2 ^ 1074) ≡ units g s 0 0
    at binary32 = unfold round size in refl
    at binary64 = unfold round size in refl

-- ---- the digits of a word, by its leading zeros
pub digits_of : (m : ℕ) → m < 2 ^ 64 → (m ≡ 0 → ⊥) → (i : ℕ) × (64 - count_leading_zeros 64 m ≡ suc i) × (2 ^ i ≤ m) × (m < 2 ^ suc i)
digits_of m h n =
    let p : 0 < m = omega arith in
    let t = leading_top 64 m p h in
    (t.0, less (count_leading_zeros 64 m) t.0 t.1, t.2, t.3)
  where
    less : (z i : ℕ) → z + suc i ≡ 64 → 64 - z ≡ suc i
    less z i e = omega arith

-- ---- the same of a word m, whose digits the code counts; K is what the code has for k
module _ (f : Format) (c : ℕ) (C : low f + c ≡ 1074) (m j K : ℕ) (M : m < 2 ^ 64) (N : m ≡ 0 → ⊥) (KI : K ≡ 64 - count_leading_zeros 64 m + j - (c + prec f)) where
  abbrev d : (i : ℕ) × (64 - count_leading_zeros 64 m ≡ suc i) × (2 ^ i ≤ m) × (m < 2 ^ suc i)
  d = digits_of m M N

  K-is : K ≡ suc d.0 + j - (c + prec f)
  K-is = KI ∙ ap (λ (x : ℕ). x + j - (c + prec f)) d.1

  abbrev word_kept : ℕ
  word_kept = kept f c C m d.0 j d.2 d.3

  word_shl : c + K ≤ j → m * 2 ^ (j - (c + K)) % 2 ^ 64 ≡ word_kept
  word_shl h =
      ap (λ (x : ℕ). m * 2 ^ (j - (c + x)) % 2 ^ 64) K-is
      ∙ kept_shl f c C m d.0 j d.2 d.3 (subst (λ (x : ℕ). c + x ≤ j) K-is h)

  word_cut : j ≤ c + K → closest m (2 ^ (c + K - j)) ≡ word_kept
  word_cut h =
      ap (λ (x : ℕ). closest m (2 ^ (c + x - j))) K-is
      ∙ kept_cut f c C m d.0 j d.2 d.3 (subst (λ (x : ℕ). j ≤ c + x) K-is h)

  word_top : c + prec f ≤ 64 - count_leading_zeros 64 m + j
      → closest (m * 2 ^ count_leading_zeros 64 m % 2 ^ 64) (2 ^ (64 - prec f)) ≡ word_kept
  word_top h =
      kept_top f c C m d.0 j d.2 d.3 (count_leading_zeros 64 m)
      (all (count_leading_zeros 64 m) d.0 (leading_le 64 m) d.1) (subst (λ (x : ℕ). c + prec f ≤ x + j) d.1 h)
    where
      all : (z i : ℕ) → z ≤ 64 → 64 - z ≡ suc i → z + suc i ≡ 64
      all z i h e = omega arith

  word_ok : (q : ℕ) → q ≡ word_kept → (q ≤ 2 ^ prec f) × ((K ≡ 0) ⊎ (hid f ≤ q))
  word_ok q e = (
    subst (λ (x : ℕ). x ≤ 2 ^ prec f) (sym e) (kept_hi f c C m d.0 j d.2 d.3),
    subst (λ (x : ℕ). (K ≡ 0) ⊎ (hid f ≤ x)) (sym e) (subst (λ (x : ℕ). (x ≡ 0) ⊎ (hid f ≤ word_kept)) (sym K-is) (kept_lo f c C m d.0 j d.2 d.3)),
  )

  word_round : (s : Bool) (q : ℕ) → q ≡ word_kept → units f s q K ≡ round f s (m * 2 ^ j) (2 ^ 1074)
  word_round s q e =
      ap (λ (x : ℕ). units f s x K) e
      ∙ ap (λ (x : ℕ). units f s word_kept x) K-is
      ∙ sym (round_at f c C m d.0 j d.2 d.3 s)

-- ---- all that the code of a `nearest` function asks, under one name; X is what it has for c + K
pub record Word (f : Format) (m j K X : ℕ) : Type 0 where
  pub keeps : ℕ
  pub shl : X ≤ j → m * 2 ^ (j - X) % 2 ^ 64 ≡ keeps
  pub cut : j ≤ X → closest m (2 ^ (X - j)) ≡ keeps
  pub top : 1074 + prec f ≤ low f + (64 - count_leading_zeros 64 m + j)
      → closest (m * 2 ^ count_leading_zeros 64 m % 2 ^ 64) (2 ^ (64 - prec f)) ≡ keeps
  pub ok : (q : ℕ) → q ≡ keeps → (q ≤ 2 ^ prec f) × ((K ≡ 0) ⊎ (hid f ≤ q))
  pub is : (s : Bool) (q : ℕ) → q ≡ keeps → units f s q K ≡ round f s (m * 2 ^ j) (2 ^ 1074)

pub word : (f : Format) (c : ℕ) → low f + c ≡ 1074 → (m j K X : ℕ) → m < 2 ^ 64 → (m ≡ 0 → ⊥) → K ≡ 64 - count_leading_zeros 64 m + j - (c + prec f) → c + K ≡ X → Word f m j K X
word f c C m j K X M N KI e = record {
  keeps = word_kept f c C m j K M N KI;
  shl = subst (λ (x : ℕ). x ≤ j → m * 2 ^ (j - x) % 2 ^ 64 ≡ word_kept f c C m j K M N KI) e (word_shl f c C m j K M N KI);
  cut = subst (λ (x : ℕ). j ≤ x → closest m (2 ^ (x - j)) ≡ word_kept f c C m j K M N KI) e (word_cut f c C m j K M N KI);
  top = λ h. word_top f c C m j K M N KI (less (low f) (prec f) (64 - count_leading_zeros 64 m + j) C h);
  ok = word_ok f c C m j K M N KI;
  is = word_round f c C m j K M N KI;
}
  where
    less : (l p w : ℕ) → l + c ≡ 1074 → 1074 + p ≤ l + w → c + p ≤ w
    less l p w e h = omega arith

-- ---- num / 2 ^ k, as the `nearest` functions have it
pub ratio_is : (f : Format) (s : Bool) (num k : ℕ) → k ≤ 1074 → round f s (num * 2 ^ (1074 - k)) (2 ^ 1074) ≡ round f s num (2 ^ k)
ratio_is f s num k h =
    round_same f s (num * 2 ^ (1074 - k)) (2 ^ 1074) num (2 ^ k) (pow_pos 1074) (pow_pos k)
    (mul_assoc num (2 ^ (1074 - k)) (2 ^ k) ∙ ap (λ (x : ℕ). num * x) (sym (pow-add 2 (1074 - k) k) ∙ ap (λ (x : ℕ). 2 ^ x) (go k h)))
  where
    go : (x : ℕ) → x ≤ 1074 → 1074 - x + x ≡ 1074
    go x g = omega arith
