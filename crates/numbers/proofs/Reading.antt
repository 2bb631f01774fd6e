-- What the fields of a float's bit pattern say of its value; and `narrow`. Assumes nothing.
use Rattle.std.proofs.Common.{◌≡◌, ℕ, suc, ◌+◌, ◌-◌, ◌*◌, ◌/◌, ◌%◌, ◌^◌, ◌<◌, ◌≤◌, Bool, true, false, cond, not, ◌&&◌, ◌||◌, T, eqb, leb, sym, refl, ap, ◌∙◌, subst, inl, inr, true≢false, mod-lt, zero-lt-suc, mul_comm, div-lt_iff_lt-mul, add_comm, mul-pos, arith, lit<, eqb→eq, pow_pos, eq-eqb}
use mathlib.Core.Bool.{false≢true}
use lib.Dec.{not_T}
use lib.Pow.{field}
use lib.Bits.{bit_and, and_mask, mask_lt}
use lib.Ieee.{Float, nan, inf, fin, Format, binary32, binary64, prec, emax, low, hid, ones, top, odd, fits, is_nan}
use lib.Ieee.{of_fields, of_bits, to_bits, neg, lt, eq, ne, div, round, up, down}
use lib.Ieee.Bits.{of_bits-to_bits, cond_no}
use lib.Ieee.Fits.{down_pos}
use lib.Ieee.Exact.{HasValue, odd_sign}
use lib.Ieee.Scale.{finite, round_same}
use Rattle.numbers.specs.Parts.{Parted}
use Rattle.numbers.specs.Values.{narrow}

pub finite_number : (v : Float) → T (finite v) → T (not (is_nan v))
unfolding is_nan
finite_number nan h = absurd h
finite_number (inf s) h = tt
finite_number (fin s m e) h = tt

-- ---- the fields
of_bits_is : (f : Format) (b : ℕ) → of_bits f b ≡ of_fields f (leb (top f) b) (b % top f / hid f) (b % hid f)
unfolding of_bits
of_bits_is f b = refl

low_is : (f : Format) (s : Bool) (t : ℕ) → of_fields f s 0 t ≡ odd (prec f) s t 0 (low f)
unfolding of_fields
low_is f s t = refl

mid_is : (f : Format) (s : Bool) (x t : ℕ) → (suc x ≡ ones f → ⊥)
    → of_fields f s (suc x) t ≡ odd (prec f) s (hid f + t) x (low f)
unfolding of_fields
mid_is f s x t h =
    cond_no (eqb (suc x) (ones f)) (cond (eqb t 0) (inf s) nan) (odd (prec f) s (hid f + t) x (low f))
    (not_T (eqb (suc x) (ones f)) (λ u. h (eqb→eq (suc x) (ones f) u)))

-- the highest field is no finite value's
not_finite : (b s : Bool) → T (finite (cond b (inf s) nan)) → ⊥
not_finite true s h = h
not_finite false s h = h

top_not : (f : Format) (s : Bool) (t : ℕ) → T (finite (of_fields f s (ones f) t)) → ⊥
unfolding of_fields
top_not binary32 s t h = not_finite (eqb t 0) s h
top_not binary64 s t h = not_finite (eqb t 0) s h

module _ (f : Format) (v : Float) (F : T (fits f v)) (N : T (finite v)) where
  abbrev b : ℕ
  b = to_bits f v

  abbrev s : Bool
  s = leb (top f) b

  abbrev x : ℕ
  x = b % top f / hid f

  abbrev t : ℕ
  t = b % hid f

  reads : of_fields f s x t ≡ v
  reads = sym (of_bits_is f b) ∙ of_bits-to_bits f v F

  t_lt : t < hid f
  t_lt = mod-lt b (pow_pos (prec f - 1))

  x_lt : x < suc (ones f)
  x_lt =
      (div-lt_iff_lt-mul (pow_pos (prec f - 1))).1
      (subst (λ (y : ℕ). b % top f < y) (mul_comm (hid f) (suc (ones f)))
      (mod-lt b (mul-pos (pow_pos (prec f - 1)) (zero-lt-suc (ones f)))))

  x_not : x ≡ ones f → ⊥
  x_not e =
      top_not f s t
      (subst (λ (y : ℕ). T (finite (of_fields f s y t))) e (subst (λ (w : Float). T (finite w)) (sym reads) N))

  twice : hid f + hid f ≡ 2 ^ prec f
  twice = go f
    where
      go : (g : Format) → hid g + hid g ≡ 2 ^ prec g
      go binary32 = refl
      go binary64 = refl

  pub zero_field : x ≡ 0 → Parted f v (record { neg = s; sig = t; j = 0 })
  zero_field e = record {
    value = subst (λ (w : Float). HasValue w s (t * 2 ^ 0) (2 ^ low f))
        (sym (low_is f s t) ∙ ap (λ (y : ℕ). of_fields f s y t) (sym e) ∙ reads) (odd_sign (prec f) s t 0 (low f));
    small = wider (hid f) (2 ^ prec f) t t_lt twice;
    near = any_field f;
    lead = inl refl;
  }
    where
      wider : (h p y : ℕ) → y < h → h + h ≡ p → y < p
      wider h p y k e = omega arith

      any_field : (g : Format) → 0 < 2 * emax g
      any_field binary32 = lit< tt
      any_field binary64 = lit< tt

  pub some_field : (x ≡ 0 → ⊥) → Parted f v (record { neg = s; sig = t + hid f; j = x - 1 })
  some_field n = record {
    value = subst (λ (w : Float). HasValue w s ((t + hid f) * 2 ^ (x - 1)) (2 ^ low f)) read
        (subst (λ (q : ℕ). HasValue (odd (prec f) s (hid f + t) (x - 1) (low f)) s (q * 2 ^ (x - 1)) (2 ^ low f))
        (add_comm (hid f) t) (odd_sign (prec f) s (hid f + t) (x - 1) (low f)));
    small = wider (hid f) (2 ^ prec f) t t_lt twice;
    near = under (emax f) x x_lt x_not n;
    lead = inr (least (hid f) t);
  }
    where
      again : (y : ℕ) → (y ≡ 0 → ⊥) → suc (y - 1) ≡ y
      again y h = omega arith

      wider : (h p y : ℕ) → y < h → h + h ≡ p → y + h < p
      wider h p y k e = omega arith

      under : (m y : ℕ) → y < suc (2 * m + 1) → (y ≡ 2 * m + 1 → ⊥) → (y ≡ 0 → ⊥) → y - 1 < 2 * m
      under m y h k g = omega arith

      least : (h y : ℕ) → h ≤ y + h
      least h y = omega arith

      read : odd (prec f) s (hid f + t) (x - 1) (low f) ≡ v
      read =
          sym (mid_is f s (x - 1) t (λ e. x_not (sym (again x n) ∙ e)))
          ∙ ap (λ (y : ℕ). of_fields f s y t) (again x n)
          ∙ reads

-- ---- the same as the machine has the fields, by masks: m digits below a field of w places
module _ (f : Format) (w m : ℕ) (A : top f ≡ 2 ^ (w + m)) (B : hid f ≡ 2 ^ m) (v : Float) (F : T (fits f v))
    (N : T (finite v)) where
  abbrev pub field_of : ℕ
  field_of = bit_and (to_bits f v / 2 ^ m) (2 ^ w - 1)

  abbrev pub low_of : ℕ
  low_of = bit_and (to_bits f v) (2 ^ m - 1)

  field_is : field_of ≡ x f v F N
  field_is =
      and_mask (to_bits f v / 2 ^ m) w
      ∙ sym (field (to_bits f v) w m)
      ∙ ap (λ (y : ℕ). to_bits f v % y / 2 ^ m) (sym A)
      ∙ ap (λ (y : ℕ). to_bits f v % top f / y) (sym B)

  low_of_is : low_of ≡ t f v F N
  low_of_is = and_mask (to_bits f v) m ∙ ap (λ (y : ℕ). to_bits f v % y) (sym B)

  pub low_lt : low_of < 2 ^ m
  low_lt = mask_lt (to_bits f v) m

  pub field_lt : field_of < 2 ^ w
  field_lt = mask_lt (to_bits f v / 2 ^ m) w

  pub parted_low : field_of ≡ 0 → Parted f v (record { neg = s f v F N; sig = low_of; j = 0 })
  parted_low e =
      subst (λ (y : ℕ). Parted f v (record { neg = s f v F N; sig = y; j = 0 })) (sym low_of_is)
      (zero_field f v F N (sym field_is ∙ e))

  pub parted : (field_of ≡ 0 → ⊥) → Parted f v (record { neg = s f v F N; sig = low_of + hid f; j = field_of - 1 })
  parted n =
      subst (λ (y : ℕ). Parted f v (record { neg = s f v F N; sig = y + hid f; j = field_of - 1 })) (sym low_of_is)
      (subst (λ (y : ℕ). Parted f v (record { neg = s f v F N; sig = t f v F N + hid f; j = y - 1 })) (sym field_is)
      (some_field f v F N (λ e. n (field_is ∙ e))))

-- ---- `narrow`
pub narrow_value : (v : Float) (s : Bool) (a c : ℕ) → 0 < c → HasValue v s a c → round binary32 s a c ≡ narrow v
unfolding narrow
narrow_value nan s a c p h = absurd h
narrow_value (inf t) s a c p h = absurd h
narrow_value (fin t m e) s a c p h =
    round_same binary32 s a c (m * up e) (down e) p (down_pos e) (sym h.1)
    ∙ ap (λ (z : Bool). round binary32 z (m * up e) (down e)) (sym h.0)

nan_is : div binary32 (of_bits binary32 0) (of_bits binary32 0) ≡ nan
unfolding div of_bits
nan_is = refl

low_inf : div binary32 (neg (of_bits binary32 1065353216)) (of_bits binary32 0) ≡ inf true
unfolding div of_bits neg
low_inf = refl

high_inf : div binary32 (of_bits binary32 1065353216) (of_bits binary32 0) ≡ inf false
unfolding div of_bits
high_inf = refl

pub narrow_nan : (v : Float) → ne v v ≡ true → div binary32 (of_bits binary32 0) (of_bits binary32 0) ≡ narrow v
unfolding narrow ne eq
narrow_nan nan h = nan_is
narrow_nan (inf true) h = absurd (false≢true h)
narrow_nan (inf false) h = absurd (false≢true h)
narrow_nan (fin true m e) h = absurd (false≢true (sym (ap (λ (z : Bool). not (z && (true || eqb (m * up e * down e) 0))) (eq-eqb (m * up e * down e) (m * up e * down e) refl)) ∙ h))
narrow_nan (fin false m e) h = absurd (false≢true (sym (ap (λ (z : Bool). not (z && (true || eqb (m * up e * down e) 0))) (eq-eqb (m * up e * down e) (m * up e * down e) refl)) ∙ h))

pub narrow_below : (v : Float) → finite v ≡ false → ne v v ≡ false → lt v (of_bits binary64 0) ≡ true → div binary32 (neg (of_bits binary32 1065353216)) (of_bits binary32 0) ≡ narrow v
unfolding narrow ne eq lt of_bits
narrow_below nan f h l = absurd (true≢false h)
narrow_below (inf true) f h l = low_inf
narrow_below (inf false) f h l = absurd (false≢true l)
narrow_below (fin s m e) f h l = absurd (true≢false f)

pub narrow_over : (v : Float) → finite v ≡ false → ne v v ≡ false → lt v (of_bits binary64 0) ≡ false → div binary32 (of_bits binary32 1065353216) (of_bits binary32 0) ≡ narrow v
unfolding narrow ne eq lt of_bits
narrow_over nan f h l = absurd (true≢false h)
narrow_over (inf true) f h l = absurd (true≢false l)
narrow_over (inf false) f h l = high_inf
narrow_over (fin s m e) f h l = absurd (true≢false f)
