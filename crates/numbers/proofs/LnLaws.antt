-- Where the logarithm of an f32 that is finite and above zero begins, from its parts sig * 2 ^ j / 2 ^ 149 and the
-- leading zeros of sig. Assumes nothing.
use Rattle.std.proofs.Common.{◌≡◌, ℕ, suc, ◌+◌, ◌-◌, ◌*◌, ◌%◌, ◌^◌, ◌<◌, ◌≤◌, Bool, false, cond, ℤ, pos, negsuc, sym, refl, ap, ◌∙◌, subst, le_trans, le_of_eq, lt_of_lt_of_le, le_of_suc-le-suc, lt_irrefl, mul-le-mul_right, mod-eq_of_lt, zero-lt-suc, mul_assoc, mul-pos, lt_of_not-le, mul-one, mul_right_comm, div-one, arith, lit<, lit≤, pow_pos, pow_mono, pow-add, shl_lt, le-leb}
use native.Mathlib.Nat.{eq_of_mul-eq-mul_right}
use native.Mathlib.Decide.{dec_le}
use lib.Count.{count_leading_zeros, leading_top}
use lib.Ieee.{Float, fin, binary32, up, down, minus, size}
use lib.Ieee.Digits.{size-lt, size_reaches}
use lib.Ieee.Fits.{up_pos}
use lib.Ieee.Exact.{HasValue}
use lib.Ieee.Nearest.{div_same}
use lib.Ieee.Positive.{first_pos}
use borrow.Author.Tests.{lt-leb}
use Rattle.numbers.specs.Log.{digits, rise, fall, lead, fixed, scaled, ln_of}
use Rattle.numbers.specs.Parts.{Parted, Begun}
use Rattle.numbers.specs.declared.rounding.Parts.{Parts}
use Rattle.numbers.proofs.Packs.{size_exact}
use Rattle.numbers.proofs.Plain.{Plain}

up_is : (e : ℤ) → up e ≡ 2 ^ rise e
up_is (pos a) = refl
up_is (negsuc a) = refl

down_is : (e : ℤ) → down e ≡ 2 ^ fall e
down_is (pos a) = refl
down_is (negsuc a) = refl

pub size_shift : (m k : ℕ) → 0 < m → size (m * 2 ^ k) ≡ size m + k
size_shift m k p =
    let z = size m in
    let Z : 0 < z = lt_of_not-le (λ (g : z ≤ 0). lt_irrefl 0 (lt_of_lt_of_le p (le_of_suc-le-suc (lt_of_lt_of_le (size-lt m) (pow_mono g))))) in
    size_exact (z - 1 + k) (m * 2 ^ k)
    (le_trans (le_of_eq (pow-add 2 (z - 1) k)) (mul-le-mul_right (2 ^ k) (size_reaches m (z - 1) (before z Z))))
    (subst (λ (x : ℕ). m * 2 ^ k < 2 ^ x) (after z Z) (shl_lt z k (size-lt m)))
    ∙ sym (after z Z)
  where
    before : (x : ℕ) → 0 < x → x - 1 < x
    before x h = omega arith

    after : (x : ℕ) → 0 < x → x + k ≡ suc (x - 1 + k)
    after x h = omega arith

-- a difference, written in another way
minus_yes : (a b : ℕ) → b ≤ a → minus a b ≡ pos (a - b)
minus_yes a b h = ap (λ (t : Bool). cond t (pos (a - b)) (negsuc (b - suc a))) (le-leb b a h)

minus_no : (a b : ℕ) → a < b → minus a b ≡ negsuc (b - suc a)
minus_no a b h = ap (λ (t : Bool). cond t (pos (a - b)) (negsuc (b - suc a))) (lt-leb b a h)

minus_same : (a b c d : ℕ) → a + d ≡ c + b → minus a b ≡ minus c d
minus_same a b c d e = go (dec_le b a)
  where
    go : Dec (b ≤ a) → minus a b ≡ minus c d
    go (yes h) = minus_yes a b h ∙ ap pos (omega arith) ∙ sym (minus_yes c d (omega arith))
    go (no n) = minus_no a b (omega arith) ∙ ap negsuc (omega arith) ∙ sym (minus_no c d (omega arith))

-- ---- v is m * 2 ^ e, and sig * 2 ^ j / 2 ^ 149 with a sig of i + 1 digits
module _ (m : ℕ) (e : ℤ) (sig j i : ℕ) (M : 0 < m) (W : m * up e * 2 ^ 149 ≡ sig * 2 ^ j * down e) (lo : 2 ^ i ≤ sig)
    (hi : sig < 2 ^ suc i) (I : i < 24) where
  abbrev R : ℕ
  R = rise e + 149

  same : m * 2 ^ R ≡ sig * 2 ^ (j + fall e)
  same =
      ap (λ (x : ℕ). m * x) (pow-add 2 (rise e) 149)
      ∙ sym (mul_assoc m (2 ^ rise e) (2 ^ 149))
      ∙ ap (λ (x : ℕ). m * x * 2 ^ 149) (sym (up_is e))
      ∙ W
      ∙ ap (λ (x : ℕ). sig * 2 ^ j * x) (down_is e)
      ∙ mul_assoc sig (2 ^ j) (2 ^ fall e)
      ∙ ap (λ (x : ℕ). sig * x) (sym (pow-add 2 j (fall e)))

  sizes : size m + R ≡ suc i + (j + fall e)
  sizes =
      sym (size_shift m R M)
      ∙ ap size same
      ∙ size_shift sig (j + fall e) (lt_of_lt_of_le (pow_pos i) lo)
      ∙ ap (λ (x : ℕ). x + (j + fall e)) (size_exact i sig lo hi)

  lead_is : lead m ≡ sig * 2 ^ (31 - i)
  lead_is =
      div_same (m * 2 ^ 32) (2 ^ size m) (sig * 2 ^ (31 - i)) 1 (pow_pos (size m)) (lit< tt)
      (mul-one (m * 2 ^ 32)
      ∙ eq_of_mul-eq-mul_right (2 ^ R) (pow_pos R) (m * 2 ^ 32) (sig * 2 ^ (31 - i) * 2 ^ size m) moved)
      ∙ div-one (sig * 2 ^ (31 - i))
    where
      places : (a b z : ℕ) → z + a ≡ suc i + b → b + 32 ≡ 31 - i + z + a
      places a b z h = omega arith

      moved : m * 2 ^ 32 * 2 ^ R ≡ sig * 2 ^ (31 - i) * 2 ^ size m * 2 ^ R
      moved =
          mul_right_comm m (2 ^ 32) (2 ^ R)
          ∙ ap (λ (x : ℕ). x * 2 ^ 32) same
          ∙ mul_assoc sig (2 ^ (j + fall e)) (2 ^ 32)
          ∙ ap (λ (x : ℕ). sig * x) (
          sym (pow-add 2 (j + fall e) 32)
          ∙ ap (λ (x : ℕ). 2 ^ x) (places R (j + fall e) (size m) sizes)
          ∙ pow-add 2 (31 - i + size m) R
          ∙ ap (λ (x : ℕ). x * 2 ^ R) (pow-add 2 (31 - i) (size m)))
          ∙ sym (mul_assoc sig (2 ^ (31 - i) * 2 ^ size m) (2 ^ R))
          ∙ ap (λ (x : ℕ). x * 2 ^ R) (sym (mul_assoc sig (2 ^ (31 - i)) (2 ^ size m)))

  pub fixed_is : fixed m e ≡ minus ((j + i) * 2 ^ 24 + digits 24 (sig * 2 ^ (31 - i)) 0) (149 * 2 ^ 24)
  fixed_is =
      ap (λ (y : ℕ). minus ((rise e + size m) * 2 ^ 24 + digits 24 y 0) ((fall e + 1) * 2 ^ 24)) lead_is
      ∙ minus_same ((rise e + size m) * 2 ^ 24 + t) ((fall e + 1) * 2 ^ 24) ((j + i) * 2 ^ 24 + t) (149 * 2 ^ 24)
      (go (rise e) (fall e) (size m) t sizes)
    where
      t : ℕ
      t = digits 24 (sig * 2 ^ (31 - i)) 0

      go : (r f z x : ℕ) → z + (r + 149) ≡ suc i + (j + f)
          → (r + z) * 2 ^ 24 + x + 149 * 2 ^ 24 ≡ (j + i) * 2 ^ 24 + x + (f + 1) * 2 ^ 24
      go r f z x a = omega arith

-- ---- the leading zeros z of an f32's significand, and with them where the leading one is brought
pub record Counted (sig z : ℕ) : Type 0 where
  pub i : ℕ
  pub count : z + i ≡ 63
  pub digits : i < 24
  pub least : 2 ^ i ≤ sig
  pub most : sig < 2 ^ suc i

pub counted : (sig : ℕ) → 0 < sig → sig < 2 ^ 24 → Counted sig (count_leading_zeros 64 sig)
counted sig p h =
    let t = leading_top 64 sig p (wide sig h) in
    record {
      i = t.0;
      count = less (count_leading_zeros 64 sig) t.0 t.1;
      digits = lt_of_not-le (λ (g : 24 ≤ t.0). lt_irrefl sig (lt_of_lt_of_le h (le_trans (pow_mono g) t.2)));
      least = t.2;
      most = t.3;
    }
  where
    wide : (x : ℕ) → x < 2 ^ 24 → x < 2 ^ 64
    wide x k = omega arith

    less : (z i : ℕ) → z + suc i ≡ 64 → z + i ≡ 63
    less z i e = omega arith

-- the leading one is at bit 31
module _ (sig z : ℕ) (k : Counted sig z) where
  reached_low : 2 ^ 31 ≤ sig * 2 ^ (31 - k.i)
  reached_low =
      le_trans (le_of_eq (ap (λ (x : ℕ). 2 ^ x) (places k.i k.digits) ∙ pow-add 2 k.i (31 - k.i)))
      (mul-le-mul_right (2 ^ (31 - k.i)) k.least)
    where
      places : (x : ℕ) → x < 24 → 31 ≡ x + (31 - x)
      places x h = omega arith

  reached_high : sig * 2 ^ (31 - k.i) < 2 ^ 32
  reached_high =
      subst (λ (x : ℕ). sig * 2 ^ (31 - k.i) < 2 ^ x) (places k.i k.digits)
      (shl_lt (suc k.i) (31 - k.i) k.most)
    where
      places : (x : ℕ) → x < 24 → suc x + (31 - x) ≡ 32
      places x h = omega arith

  -- and the shift loses nothing
  brought : sig * 2 ^ (z - 32) % 2 ^ 64 ≡ sig * 2 ^ (31 - k.i)
  brought = ap (λ (x : ℕ). sig * 2 ^ x % 2 ^ 64) (left k.i k.count)
      ∙ mod-eq_of_lt (lt_of_lt_of_le reached_high (pow_mono {i = 32} {j = 64} (lit≤ tt)))
    where
      left : (b : ℕ) → z + b ≡ 63 → z - 32 ≡ 31 - b
      left b e = omega arith

-- ---- where the logarithm begins, as the code has it
module _ (v : Float) (q : Plain v) (p : Parts) (a : Parted binary32 v p) where
  has : HasValue (fin false (suc q.0) q.1) p.neg (p.sig * 2 ^ p.j) (2 ^ 149)
  has = subst (λ (x : Float). HasValue x p.neg (p.sig * 2 ^ p.j) (2 ^ 149)) q.2 a.value

  some_digit : 0 < p.sig
  some_digit =
      first_pos p.sig (2 ^ p.j)
      (first_pos (p.sig * 2 ^ p.j) (down q.1)
      (subst (λ (x : ℕ). 0 < x) has.1 (mul-pos (mul-pos (zero-lt-suc q.0) (up_pos q.1)) (pow_pos 149))))

  pub zeros : Counted p.sig (count_leading_zeros 64 p.sig)
  zeros = counted p.sig some_digit a.small

  pub begun : Begun v (p.sig * 2 ^ (count_leading_zeros 64 p.sig - 32) % 2 ^ 64) (p.j + 63 - count_leading_zeros 64 p.sig)
  unfolding ln_of
  begun =
      let y = brought p.sig (count_leading_zeros 64 p.sig) zeros in
      let x = exponent p.j (count_leading_zeros 64 p.sig) zeros.i zeros.count in
      record {
        low = subst (λ (n : ℕ). 2 ^ 31 ≤ n) (sym y) (reached_low p.sig (count_leading_zeros 64 p.sig) zeros);
        high = subst (λ (n : ℕ). n < 2 ^ 32) (sym y) (reached_high p.sig (count_leading_zeros 64 p.sig) zeros);
        most = subst (λ (n : ℕ). n < 277) (sym x) (few p.j zeros.i a.near zeros.digits);
        is = λ t r.
            ap (λ (n : ℕ). scaled (minus (n * 2 ^ 24 + t) (149 * 2 ^ 24))) x
            ∙ ap (λ (n : ℕ). scaled (minus ((p.j + zeros.i) * 2 ^ 24 + n) (149 * 2 ^ 24)))
            (r ∙ ap (λ (n : ℕ). digits 24 n 0) y)
            ∙ ap scaled
            (sym (fixed_is (suc q.0) q.1 p.sig p.j zeros.i (zero-lt-suc q.0) has.1
            zeros.least zeros.most zeros.digits))
            ∙ ap ln_of (sym q.2);
      }
    where
      exponent : (j z i : ℕ) → z + i ≡ 63 → j + 63 - z ≡ j + i
      exponent j z i e = omega arith

      few : (j i : ℕ) → j < 254 → i < 24 → j + i < 277
      few j i b c = omega arith
