-- What makes an estimated root safe, and what certifies it: a root q of 56 digits, in halves of 28. Assumes nothing.
use Rattle.std.proofs.Common.{◌≡◌, ℕ, ◌+◌, ◌-◌, ◌*◌, ◌/◌, ◌%◌, ◌^◌, ◌<◌, ◌≤◌, Bool, true, false, not, ◌&&◌, T, ltb, leb, sym, refl, ap, ◌∙◌, subst, le_trans, le_of_eq, lt_of_lt_of_le, lt_of_le_of_lt, le_of_lt, mod-eq_of_lt, div-lt_iff_lt-mul, lt_of_mul-lt-mul_right, mul-le-mul_left, mul-lt-mul_of_pos_right, div-le_self, arith, pow_pos, ltb-true, le-ltb, lt-ltb, le-leb, leb-true}
use mathlib.Core.Bool.{false≢true}
use lib.Ieee.{Float, nan, inf, fin, binary32, binary64, is_nan, nan_bits, of_bits, to_bits, lt, eq, le}
use borrow.Author.Tests.{lt-leb}
use Rattle.numbers.specs.Estimate.{uncertified, newton_of, digits_of, lifted_of, certifies}
use Rattle.numbers.specs.Root.{sqrt_of}
use Rattle.numbers.proofs.FloorRoot.{square_mono}
use Rattle.numbers.proofs.Plain.{number_bits}

-- ---- patterns and values that are numbers
pub guess_number : (x : ℕ) → T (not (nan_bits binary64 (0x5fe6_eb50_c7b5_37a9 - x)))
guess_number x = number_bits binary64 (0x5fe6_eb50_c7b5_37a9 - x) (less x)
  where
    less : (y : ℕ) → 0x5fe6_eb50_c7b5_37a9 - y ≤ 2047 * 2 ^ 52
    less y = omega arith

pub small_number : (z t : ℕ) → T (not (nan_bits binary64 ((1024 - z) * 2 ^ 52 % 2 ^ 64 + t % 2 ^ 52)))
small_number z t = number_bits binary64 _ (less ((1024 - z) * 2 ^ 52 % 2 ^ 64) t (few z))
  where
    few : (y : ℕ) → (1024 - y) * 2 ^ 52 % 2 ^ 64 ≤ 1024 * 2 ^ 52
    few y = omega arith

    less : (x y : ℕ) → x ≤ 1024 * 2 ^ 52 → x + y % 2 ^ 52 ≤ 2047 * 2 ^ 52
    less x y h = omega arith

pub le_number : (x y : Float) → le x y ≡ true → T (not (is_nan y))
unfolding le lt eq is_nan
le_number nan nan h = absurd (false≢true h)
le_number (inf s) nan h = absurd (false≢true h)
le_number (fin s m e) nan h = absurd (false≢true h)
le_number x (inf t) h = tt
le_number x (fin t n d) h = tt

-- ---- the halves of q
pub product_lt : (x y : ℕ) → x < 2 ^ 28 → y < 2 ^ 28 → x * y < 2 ^ 56
product_lt x y h k = lt_of_le_of_lt (mul-le-mul_left x (le_of_lt k)) (mul-lt-mul_of_pos_right h (pow_pos 28))

module _ (q : ℕ) (Q : q < 2 ^ 56) where
  abbrev a : ℕ
  a = q / 2 ^ 28

  abbrev b : ℕ
  b = q % 2 ^ 28

  a_lt : a < 2 ^ 28
  a_lt = omega arith

  b_lt : b < 2 ^ 28
  b_lt = omega arith

  pub high_fits : a * a < 2 ^ 64
  high_fits = wide (a * a) (product_lt a a a_lt a_lt)
    where
      wide : (x : ℕ) → x < 2 ^ 56 → x < 2 ^ 64
      wide x h = omega arith

  pub cross_fits : a * b < 2 ^ 64
  cross_fits = wide (a * b) (product_lt a b a_lt b_lt)
    where
      wide : (x : ℕ) → x < 2 ^ 56 → x < 2 ^ 64
      wide x h = omega arith

  pub double_fits : 2 * (a * b) < 2 ^ 64
  double_fits = wide (a * b) (product_lt a b a_lt b_lt)
    where
      wide : (x : ℕ) → x < 2 ^ 56 → 2 * x < 2 ^ 64
      wide x h = omega arith

  pub low_fits : b * b < 2 ^ 64
  low_fits = wide (b * b) (product_lt b b b_lt b_lt)
    where
      wide : (x : ℕ) → x < 2 ^ 56 → x < 2 ^ 64
      wide x h = omega arith

  -- what is left of m * 2 ^ 48, half by half
  pub certified : (m d r : ℕ) → m % 256 ≡ 0 → a * a ≤ m / 256 → (m / 256 - a * a) * 2 ^ 28 ≡ 2 * (a * b) + d → d * 2 ^ 28 ≡ b * b + r → q * q + r ≡ m * 2 ^ 48
  certified m d r e h g k = square ∙ go (a * a) (a * b) (b * b) m d r e h g k
    where
      halves : q ≡ a * 2 ^ 28 + b
      halves = omega arith

      opened : (x y : ℕ) → (x * 2 ^ 28 + y) * (x * 2 ^ 28 + y) ≡ x * x * 2 ^ 56 + 2 * (x * y) * 2 ^ 28 + y * y
      opened x y = omega arith

      square : q * q + r ≡ a * a * 2 ^ 56 + 2 * (a * b) * 2 ^ 28 + b * b + r
      square = ap (λ (x : ℕ). x * x + r) halves ∙ ap (λ (x : ℕ). x + r) (opened a b)

      go : (A P B m d r : ℕ) → m % 256 ≡ 0 → A ≤ m / 256 → (m / 256 - A) * 2 ^ 28 ≡ 2 * P + d → d * 2 ^ 28 ≡ B + r → A * 2 ^ 56 + 2 * P * 2 ^ 28 + B + r ≡ m * 2 ^ 48
      go A P B m d r e h g k = omega arith

  -- modulo 2 ^ 64, half by half
  pub residue_is : (m d e r : ℕ) → (d + a * a) % 2 ^ 64 ≡ m / 256 → (e + 2 * (a * b)) % 2 ^ 64 ≡ d * 2 ^ 28 % 2 ^ 64 → (r + b * b) % 2 ^ 64 ≡ e * 2 ^ 28 % 2 ^ 64 → (r + q * q) % 2 ^ 64 ≡ m / 256 * 2 ^ 56 % 2 ^ 64
  residue_is m d e r i j k = ap (λ (x : ℕ). (r + x) % 2 ^ 64) square ∙ go (a * a) (a * b) (b * b) (m / 256) d e r i j k
    where
      halves : q ≡ a * 2 ^ 28 + b
      halves = omega arith

      opened : (x y : ℕ) → (x * 2 ^ 28 + y) * (x * 2 ^ 28 + y) ≡ x * x * 2 ^ 56 + 2 * (x * y) * 2 ^ 28 + y * y
      opened x y = omega arith

      square : q * q ≡ a * a * 2 ^ 56 + 2 * (a * b) * 2 ^ 28 + b * b
      square = ap (λ (x : ℕ). x * x) halves ∙ opened a b

      -- the same number modulo 2 ^ 64, with the quotients
      open_mod : (x y : ℕ) → x % 2 ^ 64 ≡ y % 2 ^ 64 → x + y / 2 ^ 64 * 2 ^ 64 ≡ y + x / 2 ^ 64 * 2 ^ 64
      open_mod x y h = omega arith

      shut_mod : (x y u v : ℕ) → x + u * 2 ^ 64 ≡ y + v * 2 ^ 64 → x % 2 ^ 64 ≡ y % 2 ^ 64
      shut_mod x y u v h = omega arith

      open_first : (x n : ℕ) → x % 2 ^ 64 ≡ n → x ≡ x / 2 ^ 64 * 2 ^ 64 + n
      open_first x n h = omega arith

      sum : (A P B n d e r k1 k2 k3 k4 k5 : ℕ) → d + A ≡ k1 * 2 ^ 64 + n → e + 2 * P + k3 * 2 ^ 64 ≡ d * 2 ^ 28 + k2 * 2 ^ 64 → r + B + k5 * 2 ^ 64 ≡ e * 2 ^ 28 + k4 * 2 ^ 64 → r + (A * 2 ^ 56 + 2 * P * 2 ^ 28 + B) + (k3 * 2 ^ 28 + k5) * 2 ^ 64 ≡ n * 2 ^ 56 + (k1 * 2 ^ 56 + k2 * 2 ^ 28 + k4) * 2 ^ 64
      sum A P B n d e r k1 k2 k3 k4 k5 i j k = omega arith

      go : (A P B n d e r : ℕ) → (d + A) % 2 ^ 64 ≡ n → (e + 2 * P) % 2 ^ 64 ≡ d * 2 ^ 28 % 2 ^ 64 → (r + B) % 2 ^ 64 ≡ e * 2 ^ 28 % 2 ^ 64 → (r + (A * 2 ^ 56 + 2 * P * 2 ^ 28 + B)) % 2 ^ 64 ≡ n * 2 ^ 56 % 2 ^ 64
      go A P B n d e r i j k = shut_mod _ _ _ _ (sum A P B n d e r _ _ _ _ _ (open_first (d + A) n i) (open_mod (e + 2 * P) (d * 2 ^ 28) j) (open_mod (r + B) (e * 2 ^ 28) k))

-- ---- one step of Newton's
pub thrice : (y h : Float) {n1 n2 n3 : Float} → n1 ≡ newton_of y h → n2 ≡ newton_of n1 h → n3 ≡ newton_of n2 h → n3 ≡ newton_of (newton_of (newton_of y h) h) h
thrice y h a b c = c ∙ ap (λ (x : Float). newton_of x h) (b ∙ ap (λ (x : Float). newton_of x h) a)

pub digits_is : (r s : Float) → r ≡ s → le (of_bits binary64 0x3ff0_0000_0000_0000) r ≡ true → 8 * (2 ^ 52 + to_bits binary64 r % 2 ^ 52) ≡ digits_of s
digits_is r s e h = sym (rw h) ∙ ap digits_of e

pub no_digits : (r s : Float) → r ≡ s → le (of_bits binary64 0x3ff0_0000_0000_0000) r ≡ false → 2 ^ 55 ≡ digits_of s
no_digits r s e h = sym (rw h) ∙ ap digits_of e

pub up_fits : (q r : ℕ) → q < 2 ^ 56 → r < 2 ^ 63 → q + r / (2 * q) < 2 ^ 64
up_fits q r h k = go (r / (2 * q)) (div-le_self r (2 * q))
  where
    go : (x : ℕ) → x ≤ r → q + x < 2 ^ 64
    go x l = omega arith

pub down_fits : (q r : ℕ) → 2 ^ 55 ≤ q → 2 ^ 63 ≤ r → (2 ^ 64 - 1 - r) / (2 * q) ≤ q - 1
down_fits q r h k = go ((2 ^ 64 - 1 - r) / (2 * q)) ((div-lt_iff_lt-mul divisor_pos).1 enough)
  where
    divisor_pos : 0 < 2 * q
    divisor_pos = omega arith

    enough : 2 ^ 64 - 1 - r < 2 ^ 7 * (2 * q)
    enough = omega arith

    go : (x : ℕ) → x < 2 ^ 7 → x ≤ q - 1
    go x l = omega arith

-- ---- `lifted`
module _ (x y : ℕ) where
  pub lifted_long : 2 ^ 35 ≤ x → uncertified ≡ lifted_of x y
  lifted_long h = rw (le-ltb x (2 ^ 35) h)

  shift_is : x < 2 ^ 35 → x * 2 ^ 28 % 2 ^ 64 ≡ x * 2 ^ 28
  shift_is h = mod-eq_of_lt (omega arith)

  pub lifted_below : x < 2 ^ 35 → x * 2 ^ 28 % 2 ^ 64 < y → uncertified ≡ lifted_of x y
  lifted_below h g = rw (lt-ltb x (2 ^ 35) h, lt-leb y (x * 2 ^ 28) (subst (λ (z : ℕ). z < y) (shift_is h) g))

  pub lifted_done : x < 2 ^ 35 → y ≤ x * 2 ^ 28 % 2 ^ 64 → x * 2 ^ 28 % 2 ^ 64 - y ≡ lifted_of x y
  lifted_done h g =
      ap (λ (z : ℕ). z - y) (shift_is h)
      ∙ rw (lt-ltb x (2 ^ 35) h, le-leb y (x * 2 ^ 28) (subst (λ (z : ℕ). y ≤ z) (shift_is h) g))

  -- it is none, or the difference
  pub lifted_some : (lifted_of x y ≡ uncertified → ⊥) → (x * 2 ^ 28 ≡ y + lifted_of x y) × (x < 2 ^ 35)
  lifted_some n = go (ltb x (2 ^ 35)) refl (leb y (x * 2 ^ 28)) refl
    where
      less : y ≤ x * 2 ^ 28 → x * 2 ^ 28 ≡ y + (x * 2 ^ 28 - y)
      less h = omega arith

      go : (a : Bool) → ltb x (2 ^ 35) ≡ a → (b : Bool) → leb y (x * 2 ^ 28) ≡ b → (x * 2 ^ 28 ≡ y + lifted_of x y) × (x < 2 ^ 35)
      go false e b f = absurd (n (rw e))
      go true e false f = absurd (n (rw (e, f)))
      go true e true f = (less (leb-true y (x * 2 ^ 28) f) ∙ ap (λ (z : ℕ). y + z) (sym (rw (e, f))), ltb-true x (2 ^ 35) e)

  pub lifted_is : (r : ℕ) → x < 2 ^ 35 → x * 2 ^ 28 ≡ y + r → lifted_of x y ≡ r
  lifted_is r h e = sym (lifted_done h (le_trans (no_more r e) (le_of_eq (sym (shift_is h)))))
      ∙ ap (λ (z : ℕ). z - y) (shift_is h ∙ e) ∙ gone y r
    where
      no_more : (s : ℕ) → x * 2 ^ 28 ≡ y + s → y ≤ x * 2 ^ 28
      no_more s g = omega arith

      gone : (u s : ℕ) → u + s - u ≡ s
      gone u s = omega arith

-- ---- `rest_of`
module _ (m q : ℕ) (Q : q < 2 ^ 56) where
  abbrev pub first : ℕ
  first = lifted_of (m / 256 - a q Q * a q Q) (2 * (a q Q * b q Q))

  abbrev pub last : ℕ
  last = lifted_of first (b q Q * b q Q)

  small_some : (r : ℕ) → r ≤ 2 * q → r ≡ uncertified → ⊥
  small_some r h e = omega arith

  -- what is small enough was left
  pub rest_split : m % 256 ≡ 0 → a q Q * a q Q ≤ m / 256 → last ≤ 2 * q → q * q + last ≡ m * 2 ^ 48
  rest_split e h g =
      let l = lifted_some first (b q Q * b q Q) (small_some last g) in
      let f = lifted_some (m / 256 - a q Q * a q Q) (2 * (a q Q * b q Q)) (short first l.1) in
      certified q Q m first last e h f.0 l.0
    where
      short : (x : ℕ) → x < 2 ^ 35 → x ≡ uncertified → ⊥
      short x k i = omega arith

  -- and where q is the root, it is found
  module _ (t : ℕ) (E : m % 256 ≡ 0) (T : t ≤ 2 * q) (S : q * q + t ≡ m * 2 ^ 48) where
    halves : q ≡ a q Q * 2 ^ 28 + b q Q
    halves = omega arith

    square : q * q ≡ a q Q * a q Q * 2 ^ 56 + 2 * (a q Q * b q Q) * 2 ^ 28 + b q Q * b q Q
    square = ap (λ (x : ℕ). x * x) halves ∙ opened (a q Q) (b q Q)
      where
        opened : (x y : ℕ) → (x * 2 ^ 28 + y) * (x * 2 ^ 28 + y) ≡ x * x * 2 ^ 56 + 2 * (x * y) * 2 ^ 28 + y * y
        opened x y = omega arith

    -- m / 256 lies below the square of the next a
    under : m / 256 * 2 ^ 56 < (a q Q + 1) * (a q Q + 1) * 2 ^ 56
    under = lt_of_le_of_lt (whole m E (q * q + t) S) (lt_of_lt_of_le (next q t T) (le_trans (square_mono (q + 1) ((a q Q + 1) * 2 ^ 28) above) (le_of_eq (squares (a q Q + 1)))))
      where
        whole : (w : ℕ) → w % 256 ≡ 0 → (s : ℕ) → s ≡ w * 2 ^ 48 → w / 256 * 2 ^ 56 ≤ s
        whole w i s j = omega arith

        next : (x y : ℕ) → y ≤ 2 * x → x * x + y < (x + 1) * (x + 1)
        next x y k = omega arith

        above : q + 1 ≤ (a q Q + 1) * 2 ^ 28
        above = omega arith

        squares : (x : ℕ) → x * 2 ^ 28 * (x * 2 ^ 28) ≡ x * x * 2 ^ 56
        squares x = omega arith

    head_lt : m / 256 < (a q Q + 1) * (a q Q + 1)
    head_lt = lt_of_mul-lt-mul_right (2 ^ 56) under

    -- the three steps, with the products as plain numbers
    steps : (A P B n : ℕ) → n * 2 ^ 56 ≡ A * 2 ^ 56 + 2 * P * 2 ^ 28 + B + t → (A ≤ n) × (2 * P ≤ (n - A) * 2 ^ 28)
    steps A P B n h = (omega arith, omega arith)

    total : m / 256 * 2 ^ 56 ≡ a q Q * a q Q * 2 ^ 56 + 2 * (a q Q * b q Q) * 2 ^ 28 + b q Q * b q Q + t
    total = whole m E (q * q + t) S ∙ ap (λ (x : ℕ). x + t) square
      where
        whole : (w : ℕ) → w % 256 ≡ 0 → (s : ℕ) → s ≡ w * 2 ^ 48 → w / 256 * 2 ^ 56 ≡ s
        whole w i s j = omega arith

    pub found_above : a q Q * a q Q ≤ m / 256
    found_above = (steps (a q Q * a q Q) (a q Q * b q Q) (b q Q * b q Q) (m / 256) total).0

    abbrev d : ℕ
    d = (m / 256 - a q Q * a q Q) * 2 ^ 28 - 2 * (a q Q * b q Q)

    first_is : first ≡ d
    first_is =
        lifted_is (m / 256 - a q Q * a q Q) (2 * (a q Q * b q Q)) d (few (a q Q) (m / 256) (a q Q * a q Q) (a_lt q Q) head_lt refl)
        (back _ _ (steps (a q Q * a q Q) (a q Q * b q Q) (b q Q * b q Q) (m / 256) total).1)
      where
        few : (x n s : ℕ) → x < 2 ^ 28 → n < (x + 1) * (x + 1) → s ≡ x * x → n - s < 2 ^ 35
        few x n s h k e = let g : (x + 1) * (x + 1) ≡ s + 2 * x + 1 = omega arith in omega arith

        back : (x y : ℕ) → y ≤ x → x ≡ y + (x - y)
        back x y h = omega arith

    left : (A P B n : ℕ) → n * 2 ^ 56 ≡ A * 2 ^ 56 + 2 * P * 2 ^ 28 + B + t → ((n - A) * 2 ^ 28 - 2 * P) * 2 ^ 28 ≡ B + t
    left A P B n h = omega arith

    pub found : last ≡ t
    found =
        ap (λ (x : ℕ). lifted_of x (b q Q * b q Q)) first_is
        ∙ lifted_is d (b q Q * b q Q) t (few d (b q Q * b q Q) (product_lt (b q Q) (b q Q) (b_lt q Q) (b_lt q Q)) same) same
      where
        same : d * 2 ^ 28 ≡ b q Q * b q Q + t
        same = left (a q Q * a q Q) (a q Q * b q Q) (b q Q * b q Q) (m / 256) total

        few : (x s : ℕ) → s < 2 ^ 56 → x * 2 ^ 28 ≡ s + t → x < 2 ^ 35
        few x s h k = omega arith

-- ---- `certified32`
abbrev pub Certified : ℕ → Float → Type 0
Certified c v = ((2 ^ 23 < c) × (c < 254 * 2 ^ 23)) × (lt (of_bits binary32 c) (sqrt_of binary32 v) ≡ false) × (lt (of_bits binary32 (c - 1)) (sqrt_of binary32 v) ≡ true)

both : (x y z w : Bool) → (x && y && not z && w) ≡ true → (x ≡ true) × (y ≡ true) × (z ≡ false) × (w ≡ true)
both false y z w h = absurd (false≢true h)
both true false z w h = absurd (false≢true h)
both true true true w h = absurd (false≢true h)
both true true false w h = (refl, refl, refl, h)

pub certified_by : (c : ℕ) (v : Float) → certifies c v ≡ true → Certified c v
certified_by c v h =
    let k = both (ltb (2 ^ 23) c) (ltb c (254 * 2 ^ 23)) (lt (of_bits binary32 c) (sqrt_of binary32 v)) (lt (of_bits binary32 (c - 1)) (sqrt_of binary32 v)) h in
    ((ltb-true (2 ^ 23) c k.0, ltb-true c (254 * 2 ^ 23) k.1), k.2, k.3)
