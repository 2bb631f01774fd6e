-- Whether an f32 lies below the rounded root of another, by one exact product in f64: the middle between it and the next f32, squared. Assumes nothing.
use Rattle.std.proofs.Common.{◌≡◌, ℕ, suc, ◌+◌, ◌-◌, ◌*◌, ◌/◌, ◌%◌, ◌^◌, ◌<◌, ◌≤◌, min, Bool, true, false, not, T, ltb, ℤ, sym, refl, ap, ◌∙◌, subst, inr, true≢false, le_trans, le_of_eq, lt_of_lt_of_le, lt_of_le_of_lt, le_of_lt, lt_irrefl, mul-le-mul_right, mod-eq_of_lt, mul_assoc, mul_comm, le_antisymm, lt_of_mul-lt-mul_right, mul-lt-mul_of_pos_right, mul-pos, mul_right_comm, mul_left_comm, arith, lit<, lit≤, pow_pos, pow_mono, pow-add, shl_lt, ltb-false, ltb-true, le-ltb, lt-ltb}
use native.Mathlib.Nat.{eq_of_mul-eq-mul_right, pow-succ'}
use native.Mathlib.Decide.{dec_le}
use lib.Ieee.{Float, nan, inf, fin, Format, binary32, binary64, low, up, down, fits, of_bits, nan_bits, lt, mul}
use lib.Ieee.Bits.{of_bits-to_bits, of_bits-fits}
use lib.Ieee.Fits.{down_pos}
use lib.Ieee.Exact.{HasValue, units_val, round_exact}
use lib.Ieee.Positive.{positive, positive_of_value, mul_at}
use Rattle.numbers.specs.Root.{square_units, root_of, sqrt_of, units_of, Nearer}
use Rattle.numbers.proofs.FloorRoot.{square_mono}
use Rattle.numbers.proofs.NearestRoot.{Short, rooted_fits, root_short, root_best, root_value, units_whole}
use Rattle.numbers.proofs.Packs.{value_bits, pattern_is, pattern_number}
use Rattle.numbers.proofs.Plain.{Plain}

-- ---- tests that say the same
pub ltb_same : (x y p q : ℕ) → (x < y → p < q) → (p < q → x < y) → ltb x y ≡ ltb p q
ltb_same x y p q f g = go (dec_le (suc x) y)
  where
    go : Dec (suc x ≤ y) → ltb x y ≡ ltb p q
    go (yes h) = lt-ltb x y h ∙ sym (lt-ltb p q (f h))
    go (no n) = le-ltb x y (omega arith) ∙ sym (le-ltb p q (not_less (λ h. n (g h))))
      where
        not_less : (p < q → ⊥) → q ≤ p
        not_less h = omega arith

-- a / c < b / d by the products
crossed : (x y g h a b c d : ℕ) → x * c ≡ a * g → y * d ≡ b * h → x * h * (c * d) ≡ a * d * (g * h)
crossed x y g h a b c d p q =
    let r : x * c * (h * d) ≡ a * g * (h * d) = ap (λ (z : ℕ). z * (h * d)) p in
    simp (mul_assoc, mul_comm, mul_left_comm) (simp (mul_assoc, mul_comm, mul_left_comm) at r)

pub lt_values : (x y : Float) (a c b d : ℕ) → 0 < c → 0 < d → HasValue x false a c → HasValue y false b d → lt x y ≡ ltb (a * d) (b * c)
unfolding lt
lt_values nan y a c b d C D p q = absurd p
lt_values (inf s) y a c b d C D p q = absurd p
lt_values (fin s m e) nan a c b d C D p q = absurd q
lt_values (fin s m e) (inf t) a c b d C D p q = absurd q
lt_values (fin true m e) (fin t n g) a c b d C D p q = absurd (true≢false p.0)
lt_values (fin false m e) (fin true n g) a c b d C D p q = absurd (true≢false q.0)
lt_values (fin false m e) (fin false n g) a c b d C D p q =
    ltb_same (m * up e * down g) (n * up g * down e) (a * d) (b * c)
    (λ h. lt_of_mul-lt-mul_right (down e * down g) (subst (λ (z : ℕ). a * d * (down e * down g) < z) right (subst (λ (z : ℕ). z < n * up g * down e * (c * d)) left (mul-lt-mul_of_pos_right h (mul-pos C D)))))
    (λ h. lt_of_mul-lt-mul_right (c * d) (subst (λ (z : ℕ). m * up e * down g * (c * d) < z) (sym right) (subst (λ (z : ℕ). z < b * c * (down e * down g)) (sym left) (mul-lt-mul_of_pos_right h (mul-pos (down_pos e) (down_pos g))))))
  where
    left : m * up e * down g * (c * d) ≡ a * d * (down e * down g)
    left = crossed (m * up e) (n * up g) (down e) (down g) a b c d p.1 q.1

    right : n * up g * down e * (c * d) ≡ b * c * (down e * down g)
    right = ap (λ (z : ℕ). n * up g * down e * z) (mul_comm c d) ∙ crossed (n * up g) (m * up e) (down g) (down e) b a d c q.1 p.1 ∙ ap (λ (z : ℕ). b * c * z) (mul_comm (down g) (down e))

-- the same number as another fraction
pub revalue : (x : Float) (s : Bool) (a c a' c' : ℕ) → 0 < c → a * c' ≡ a' * c → HasValue x s a c → HasValue x s a' c'
revalue nan s a c a' c' C h v = v
revalue (inf t) s a c a' c' C h v = v
revalue (fin t m e) s a c a' c' C h v = (v.0, eq_of_mul-eq-mul_right c C (m * up e * c') (a' * down e) (mul_right_comm (m * up e) c' c ∙ ap (λ (z : ℕ). z * c') v.1 ∙ mul_right_comm a (down e) c' ∙ ap (λ (z : ℕ). z * down e) h ∙ mul_right_comm a' c (down e)))

-- ---- a value a of f32 with 24 digits, the next one b, and the rounded root R of N, all in units
module _ (N R s k : ℕ) (SL : 2 ^ 23 ≤ s) (SH : s < 2 ^ 24) (SR : Short binary32 R) (B : (b : ℕ) → Short binary32 b → Nearer N R b) where
  abbrev a : ℕ
  a = s * 2 ^ k

  abbrev b : ℕ
  b = suc s * 2 ^ k

  short_next : Short binary32 b
  short_next = go (dec_le (suc (suc s)) (2 ^ 24))
    where
      last : (suc (suc s) ≤ 2 ^ 24 → ⊥) → suc s ≡ 2 ^ 23 * 2
      last n = omega arith

      go : Dec (suc (suc s) ≤ 2 ^ 24) → Short binary32 b
      go (yes h) = (suc s, k, h, refl)
      go (no n) = (2 ^ 23, suc k, lit< tt, ap (λ (x : ℕ). x * 2 ^ k) (last n) ∙ mul_assoc (2 ^ 23) 2 (2 ^ k) ∙ ap (λ (x : ℕ). 2 ^ 23 * x) (sym (pow-succ' 2 k)))

  -- no value lies between the two
  gap : a < R → b ≤ R
  gap h = go (dec_le k SR.1)
    where
      back : (x y : ℕ) → y ≤ x → x - y + y ≡ x
      back x y g = omega arith

      t : ℕ
      t = SR.0 * 2 ^ (SR.1 - k)

      steps : k ≤ SR.1 → R ≡ t * 2 ^ k
      steps g = SR.3 ∙ ap (λ (x : ℕ). SR.0 * x) (ap (λ (x : ℕ). 2 ^ x) (sym (back SR.1 k g)) ∙ pow-add 2 (SR.1 - k) k) ∙ sym (mul_assoc SR.0 (2 ^ (SR.1 - k)) (2 ^ k))

      fewer : (x y : ℕ) → (x ≤ y → ⊥) → 24 + y ≤ 23 + x
      fewer x y n = omega arith

      go : Dec (k ≤ SR.1) → b ≤ R
      go (yes g) = le_trans (mul-le-mul_right (2 ^ k) (lt_of_mul-lt-mul_right (2 ^ k) (subst (λ (x : ℕ). a < x) (steps g) h))) (le_of_eq (sym (steps g)))
      go (no n) =
          absurd (lt_irrefl a (lt_of_lt_of_le h (le_of_lt (lt_of_le_of_lt (le_of_eq SR.3) (lt_of_lt_of_le (shl_lt 24 SR.1 SR.2) (le_trans (pow_mono (fewer k SR.1 n)) (le_trans (le_of_eq (pow-add 2 23 k)) (mul-le-mul_right (2 ^ k) SL))))))))

  over : a < R → (a + b) * (a + b) < 4 * N
  over h = lt_of_le_of_lt (square_mono (a + b) (R + a) (sum a b R (gap h))) ((B a (s, k, SH, refl)).1 h)
    where
      sum : (x y z : ℕ) → y ≤ z → x + y ≤ z + x
      sum x y z g = omega arith

  under : R ≤ a → 4 * N < (a + b) * (a + b)
  under h = lt_of_lt_of_le ((B b short_next).0 (lt_of_le_of_lt h (mul-lt-mul_of_pos_right (one s) (pow_pos k)))) (square_mono (R + b) (a + b) (sum R a b h))
    where
      one : (x : ℕ) → x < suc x
      one x = omega arith

      sum : (x y z : ℕ) → x ≤ y → x + z ≤ y + z
      sum x y z g = omega arith

  pub middle_decides : ltb ((a + b) * (a + b)) (4 * N) ≡ ltb a R
  middle_decides = ltb_same ((a + b) * (a + b)) (4 * N) a R (λ h. more (λ g. clash _ _ h (under g))) over
    where
      more : (R ≤ a → ⊥) → a < R
      more n = omega arith

      clash : (x y : ℕ) → x < y → y < x → ⊥
      clash x y p q = omega arith

-- ---- a pattern c of a normal f32, with 24 digits s and k zeros after them, and the pattern of the middle
abbrev digits_of : ℕ → ℕ
digits_of c = c % 2 ^ 23 + 2 ^ 23

abbrev zeros_of : ℕ → ℕ
zeros_of c = c / 2 ^ 23 - 1

module _ (c : ℕ) (CL : 2 ^ 23 ≤ c) (CH : c < 254 * 2 ^ 23) where
  abbrev s : ℕ
  s = digits_of c

  abbrev k : ℕ
  k = zeros_of c

  s_lo : 2 ^ 23 ≤ s
  s_lo = omega arith

  s_hi : s < 2 ^ 24
  s_hi = omega arith

  k_lt : k < 253
  k_lt = omega arith

  c_is : k * 2 ^ 23 + s ≡ c
  c_is = omega arith

  place_lt : (q p l n : ℕ) → q < 2 ^ p → l < n → q * 2 ^ l < 2 ^ (p + n)
  place_lt q p l n h g = lt_of_lt_of_le (shl_lt p l h) (pow_mono (sum p l n g))
    where
      sum : (x y z : ℕ) → y < z → x + y ≤ x + z
      sum x y z i = omega arith

  -- a pattern that is no infinity's is the number's own
  own : (x y p : ℕ) → p ≡ x → x < y → p ≡ 0 + min x y
  own x y p e h = omega arith

  value_is : HasValue (of_bits binary32 c) false (s * 2 ^ k) (2 ^ 149)
  value_is =
      subst (λ (x : Float). HasValue x false (s * 2 ^ k) (2 ^ 149))
      (sym (ap (of_bits binary32) (own (k * 2 ^ 23 + s) (255 * 2 ^ 23) c (sym c_is) (lt_of_le_of_lt (le_of_eq c_is) (lt_of_lt_of_le CH (lit≤ tt)))) ∙ pattern_is binary32 false s k (le_of_lt s_hi) (inr s_lo)))
      (units_val binary32 false s k (lt_of_lt_of_le (place_lt s 24 k 253 s_hi k_lt) (lit≤ tt)))

  abbrev w : ℕ
  w = 2 * s + 1

  -- the pattern of the middle, as the code makes it
  abbrev pub middle : ℕ
  middle = c * 2 ^ 29 % 2 ^ 64 + 0x3800_0000_1000_0000

  abbrev q : ℕ
  q = s * 2 ^ 29 + 2 ^ 28

  middle_is : middle ≡ (k + 896) * 2 ^ 52 + q
  middle_is = ap (λ (x : ℕ). x + 0x3800_0000_1000_0000) (mod-eq_of_lt fits_in) ∙ go k s c_is
    where
      fits_in : c * 2 ^ 29 < 2 ^ 64
      fits_in = omega arith

      go : (x y : ℕ) → x * 2 ^ 23 + y ≡ c → c * 2 ^ 29 + 0x3800_0000_1000_0000 ≡ (x + 896) * 2 ^ 52 + (y * 2 ^ 29 + 2 ^ 28)
      go x y e = omega arith

  pub middle_lt : middle < 2 ^ 64
  middle_lt = lt_of_le_of_lt (le_of_eq middle_is) (go k s k_lt s_hi)
    where
      go : (x y : ℕ) → x < 253 → y < 2 ^ 24 → (x + 896) * 2 ^ 52 + (y * 2 ^ 29 + 2 ^ 28) < 2 ^ 64
      go x y a b = omega arith

  q_hi : q < 2 ^ 53
  q_hi = omega (arith, s_hi)

  q_lo : 2 ^ 52 ≤ q
  q_lo = omega (arith, s_lo)

  small : (k + 896) * 2 ^ 52 + q < 2047 * 2 ^ 52
  small = go k q k_lt q_hi
    where
      go : (x y : ℕ) → x < 253 → y < 2 ^ 53 → (x + 896) * 2 ^ 52 + y < 2047 * 2 ^ 52
      go x y a b = omega arith

  middle_own : middle ≡ 0 + min ((k + 896) * 2 ^ 52 + q) (2047 * 2 ^ 52)
  middle_own = own ((k + 896) * 2 ^ 52 + q) (2047 * 2 ^ 52) middle middle_is small

  pub middle_number : T (not (nan_bits binary64 middle))
  middle_number = subst (λ (x : ℕ). T (not (nan_bits binary64 x))) (sym middle_own) (pattern_number binary64 false q (k + 896) (le_of_lt q_hi) (inr q_lo))

  q_is : q * 2 ^ (k + 896) * 2 ^ 150 ≡ w * 2 ^ k * 2 ^ 1074
  q_is =
      ap (λ (x : ℕ). x * 2 ^ (k + 896) * 2 ^ 150) (whole s)
      ∙ ap (λ (x : ℕ). x * 2 ^ 150) (mul_assoc w (2 ^ 28) (2 ^ (k + 896)) ∙ ap (λ (x : ℕ). w * x) (sym (pow-add 2 28 (k + 896))))
      ∙ mul_assoc w (2 ^ (28 + (k + 896))) (2 ^ 150)
      ∙ ap (λ (x : ℕ). w * x) (sym (pow-add 2 (28 + (k + 896)) 150) ∙ ap (λ (x : ℕ). 2 ^ x) (sum k) ∙ pow-add 2 k 1074)
      ∙ sym (mul_assoc w (2 ^ k) (2 ^ 1074))
    where
      whole : (x : ℕ) → x * 2 ^ 29 + 2 ^ 28 ≡ (2 * x + 1) * 2 ^ 28
      whole x = omega arith

      sum : (x : ℕ) → 28 + (x + 896) + 150 ≡ x + 1074
      sum x = omega arith

  -- it is w * 2 ^ k / 2 ^ 150
  middle_value : HasValue (of_bits binary64 middle) false (w * 2 ^ k) (2 ^ 150)
  middle_value =
      revalue (of_bits binary64 middle) false (q * 2 ^ (k + 896)) (2 ^ 1074) (w * 2 ^ k) (2 ^ 150) (pow_pos 1074) q_is
      (subst (λ (x : Float). HasValue x false (q * 2 ^ (k + 896)) (2 ^ 1074))
      (sym (ap (of_bits binary64) middle_own ∙ pattern_is binary64 false q (k + 896) (le_of_lt q_hi) (inr q_lo)))
      (units_val binary64 false q (k + 896) (lt_of_lt_of_le (place_lt q 53 (k + 896) 1149 q_hi (plus k k_lt)) (lit≤ tt))))
    where
      plus : (x : ℕ) → x < 253 → x + 896 < 1149
      plus x h = omega arith

  middle_positive : T (positive (of_bits binary64 middle))
  middle_positive =
      positive_of_value (of_bits binary64 middle) (w * 2 ^ k) (2 ^ 150) middle_value (mul-pos (odd_pos s) (pow_pos k))
    where
      odd_pos : (x : ℕ) → 0 < 2 * x + 1
      odd_pos x = omega arith

  abbrev A : ℕ
  A = w * 2 ^ k

  -- its square has 50 digits: the product in f64 is exact
  square_value : HasValue (mul binary64 (of_bits binary64 middle) (of_bits binary64 middle)) false (A * A) (2 ^ 150 * 2 ^ 150)
  square_value =
      subst (λ (x : Float). HasValue x false (A * A) (2 ^ 150 * 2 ^ 150))
      (sym (mul_at binary64 (of_bits binary64 middle) (of_bits binary64 middle) A (2 ^ 150) A (2 ^ 150) middle_positive middle_positive (pow_pos 150) (pow_pos 150) middle_value middle_value))
      (round_exact binary64 false (A * A) (2 ^ 150 * 2 ^ 150) (w * w) (k + k + 774) (mul-pos (pow_pos 150) (pow_pos 150)) (lt_of_lt_of_le square_lt (lit≤ tt))
      (lt_of_lt_of_le (place_lt (w * w) 50 (k + k + 774) 1280 square_lt (plus k k_lt)) (lit≤ tt))
      same)
    where
      w_lt : w < 2 ^ 25
      w_lt = omega (arith, s_hi)

      square_lt : w * w < 2 ^ 50
      square_lt = lt_of_le_of_lt (mul-le-mul_right w (le_of_lt w_lt)) (lt_of_lt_of_le (subst (λ (x : ℕ). x < 2 ^ 25 * 2 ^ 25) (mul_comm w (2 ^ 25)) (mul-lt-mul_of_pos_right w_lt (pow_pos 25))) (lit≤ tt))

      plus : (x : ℕ) → x < 253 → x + x + 774 < 1280
      plus x h = omega arith

      squares : (x y : ℕ) → x * y * (x * y) ≡ x * x * (y * y)
      squares x y = omega arith

      sum : (x : ℕ) → x + x + 1074 ≡ x + x + 774 + 300
      sum x = omega arith

      same : A * A * 2 ^ 1074 ≡ w * w * 2 ^ (k + k + 774) * (2 ^ 150 * 2 ^ 150)
      same =
          ap (λ (x : ℕ). x * 2 ^ 1074) (squares w (2 ^ k) ∙ ap (λ (x : ℕ). w * w * x) (sym (pow-add 2 k k)))
          ∙ mul_assoc (w * w) (2 ^ (k + k)) (2 ^ 1074)
          ∙ ap (λ (x : ℕ). w * w * x) (sym (pow-add 2 (k + k) 1074) ∙ ap (λ (x : ℕ). 2 ^ x) (sum k) ∙ pow-add 2 (k + k + 774) 300)
          ∙ sym (mul_assoc (w * w) (2 ^ (k + k + 774)) (2 ^ 300))
          ∙ ap (λ (x : ℕ). w * w * 2 ^ (k + k + 774) * x) (pow-add 2 150 150)

  -- ---- against a v that is finite and above zero
  module _ (v : Float) (p : Plain v) (F : T (fits binary32 v)) where
    abbrev m : ℕ
    m = p.0

    abbrev e : ℤ
    e = p.1

    held : T (fits binary32 (fin false (suc m) e))
    held = subst (λ (x : Float). T (fits binary32 x)) p.2 F

    abbrev N : ℕ
    N = square_units binary32 (suc m) e

    abbrev R : ℕ
    R = units_of binary32 (root_of binary32 (suc m) e)

    both : A ≡ s * 2 ^ k + suc s * 2 ^ k
    both = go s (2 ^ k)
      where
        go : (x y : ℕ) → (2 * x + 1) * y ≡ x * y + suc x * y
        go x y = omega arith

    four : suc m * up e * (2 ^ 150 * 2 ^ 150) ≡ 4 * N * down e
    four =
        ap (λ (x : ℕ). suc m * up e * x) (lit_is)
        ∙ sym (mul_assoc (suc m * up e) (2 ^ 298) 4)
        ∙ ap (λ (x : ℕ). x * 4) (sym (units_whole binary32 m e held))
        ∙ go N (down e)
      where
        lit_is : 2 ^ 150 * 2 ^ 150 ≡ 2 ^ 298 * 4
        lit_is = refl

        go : (x y : ℕ) → x * y * 4 ≡ 4 * x * y
        go x y = omega arith

    scaled : (x y d : ℕ) → 0 < d → ltb (x * d) (y * d) ≡ ltb x y
    scaled x y d D = ltb_same (x * d) (y * d) x y (λ h. lt_of_mul-lt-mul_right d h) (λ h. mul-lt-mul_of_pos_right h D)

    square_test : lt (mul binary64 (of_bits binary64 middle) (of_bits binary64 middle)) (fin false (suc m) e) ≡ ltb (A * A) (4 * N)
    square_test =
        lt_values (mul binary64 (of_bits binary64 middle) (of_bits binary64 middle)) (fin false (suc m) e) (A * A) (2 ^ 150 * 2 ^ 150) (suc m * up e) (down e) (mul-pos (pow_pos 150) (pow_pos 150)) (down_pos e) square_value (refl, refl)
        ∙ ap (λ (x : ℕ). ltb (A * A * down e) x) four
        ∙ scaled (A * A) (4 * N) (down e) (down_pos e)

    root_test : lt (of_bits binary32 c) (root_of binary32 (suc m) e) ≡ ltb (s * 2 ^ k) R
    root_test =
        lt_values (of_bits binary32 c) (root_of binary32 (suc m) e) (s * 2 ^ k) (2 ^ 149) R (2 ^ 149) (pow_pos 149) (pow_pos 149) value_is (root_value binary32 m e held)
        ∙ scaled (s * 2 ^ k) R (2 ^ 149) (pow_pos 149)

    same_root : sqrt_of binary32 v ≡ root_of binary32 (suc m) e
    unfolding sqrt_of
    same_root = ap (sqrt_of binary32) p.2

    pub below_root : lt (mul binary64 (of_bits binary64 middle) (of_bits binary64 middle)) v ≡ lt (of_bits binary32 c) (sqrt_of binary32 v)
    below_root =
        ap (lt (mul binary64 (of_bits binary64 middle) (of_bits binary64 middle))) p.2
        ∙ square_test
        ∙ ap (λ (x : ℕ). ltb (x * x) (4 * N)) both
        ∙ middle_decides N R s k s_lo s_hi (root_short binary32 m e held) (root_best binary32 m e held)
        ∙ sym root_test
        ∙ ap (lt (of_bits binary32 c)) (sym same_root)

-- ---- where c is below the root and the next pattern is not, that one is the root
next_is : (c : ℕ) → 2 ^ 23 ≤ c → suc (digits_of c) * 2 ^ zeros_of c ≡ digits_of (suc c) * 2 ^ zeros_of (suc c)
next_is c h = go (dec_le (suc (suc (c % 2 ^ 23))) (2 ^ 23))
  where
    within : suc (suc (c % 2 ^ 23)) ≤ 2 ^ 23 → (suc (digits_of c) ≡ digits_of (suc c)) × (zeros_of c ≡ zeros_of (suc c))
    within g = (omega arith, omega arith)

    across : (suc (suc (c % 2 ^ 23)) ≤ 2 ^ 23 → ⊥) → (suc (digits_of c) ≡ 2 ^ 23 * 2) × (digits_of (suc c) ≡ 2 ^ 23) × (zeros_of (suc c) ≡ suc (zeros_of c))
    across n = (omega arith, omega arith, omega arith)

    go : Dec (suc (suc (c % 2 ^ 23)) ≤ 2 ^ 23) → suc (digits_of c) * 2 ^ zeros_of c ≡ digits_of (suc c) * 2 ^ zeros_of (suc c)
    go (yes g) = let e = within g in ap (λ (x : ℕ). x * 2 ^ zeros_of c) e.0 ∙ ap (λ (x : ℕ). digits_of (suc c) * 2 ^ x) e.1
    go (no n) =
        let e = across n in
        ap (λ (x : ℕ). x * 2 ^ zeros_of c) e.0
        ∙ mul_assoc (2 ^ 23) 2 (2 ^ zeros_of c)
        ∙ ap (λ (x : ℕ). 2 ^ 23 * x) (sym (pow-succ' 2 (zeros_of c)) ∙ ap (λ (x : ℕ). 2 ^ x) (sym e.2))
        ∙ ap (λ (x : ℕ). x * 2 ^ zeros_of (suc c)) (sym e.1)

-- two values of a format of the same size are one
one_value : (f : Format) (x y : Float) (a : ℕ) → T (fits f x) → T (fits f y) → HasValue x false a (2 ^ low f) → HasValue y false a (2 ^ low f) → x ≡ y
one_value f x y a p q h g = sym (of_bits-to_bits f x p) ∙ ap (of_bits f) (value_bits f x false a h ∙ sym (value_bits f y false a g)) ∙ of_bits-to_bits f y q

module _ (c : ℕ) (L : 2 ^ 23 ≤ c) (H : suc c < 254 * 2 ^ 23) (v : Float) (p : Plain v) (F : T (fits binary32 v)) where
  c_lt : c < 254 * 2 ^ 23
  c_lt = omega arith

  next_ge : 2 ^ 23 ≤ suc c
  next_ge = omega arith

  pub squeezed : lt (of_bits binary32 c) (sqrt_of binary32 v) ≡ true → lt (of_bits binary32 (suc c)) (sqrt_of binary32 v) ≡ false → of_bits binary32 (suc c) ≡ sqrt_of binary32 v
  squeezed a b =
      let F' = held c L c_lt v p F in
      let n = digits_of (suc c) * 2 ^ zeros_of (suc c) in
      one_value binary32 (of_bits binary32 (suc c)) (sqrt_of binary32 v) n (of_bits-fits binary32 (suc c)) (subst (λ (x : Float). T (fits binary32 x)) (sym (same_root c L c_lt v p F)) (rooted_fits binary32 (suc p.0) p.1))
      (value_is (suc c) next_ge H)
      (subst (λ (x : Float). HasValue x false n (2 ^ 149)) (sym (same_root c L c_lt v p F)) (subst (λ (x : ℕ). HasValue (root_of binary32 (suc p.0) p.1) false x (2 ^ 149)) same_size (root_value binary32 p.0 p.1 F')))
    where
      less : ltb (digits_of c * 2 ^ zeros_of c) (R c L c_lt v p F) ≡ true
      less = sym (root_test c L c_lt v p F) ∙ ap (lt (of_bits binary32 c)) (sym (same_root c L c_lt v p F)) ∙ a

      not_less : ltb (digits_of (suc c) * 2 ^ zeros_of (suc c)) (R c L c_lt v p F) ≡ false
      not_less = sym (root_test (suc c) next_ge H v p F) ∙ ap (lt (of_bits binary32 (suc c))) (sym (same_root c L c_lt v p F)) ∙ b

      same_size : R c L c_lt v p F ≡ digits_of (suc c) * 2 ^ zeros_of (suc c)
      same_size =
          le_antisymm (ltb-false _ _ not_less)
          (le_trans (le_of_eq (sym (next_is c L)))
          (gap (N c L c_lt v p F) (R c L c_lt v p F) (digits_of c) (zeros_of c) (s_lo c L c_lt) (s_hi c L c_lt) (root_short binary32 p.0 p.1 (held c L c_lt v p F)) (root_best binary32 p.0 p.1 (held c L c_lt v p F)) (ltb-true _ _ less)))
