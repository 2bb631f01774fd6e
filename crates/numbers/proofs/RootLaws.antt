-- The square root as the code works it out: the even shift, the root's leading digits, and their rounding. Assumes nothing.
use Rattle.std.proofs.Common.{◌≡◌, ℕ, zero, suc, ◌+◌, ◌-◌, ◌*◌, ◌/◌, ◌%◌, ◌^◌, ◌<◌, ◌≤◌, Bool, true, false, cond, ◌&&◌, T, eqb, ltb, leb, ◌⊎◌, ℤ, sym, refl, ap, ◌∙◌, subst, inl, inr, le_trans, le_of_eq, lt_of_lt_of_le, le_of_suc-le-suc, lt_of_le_of_lt, lt_irrefl, mul-le-mul_right, mod-eq_of_lt, zero-lt-suc, mul_assoc, add-mul, eq-zero-or-pos, le_antisymm, mul-le-mul_left, mul-lt-mul_of_pos_right, mul-pos, one-mul, lt_of_not-le, zero-mul, mul-one, mul_right_comm, le_of_mul-le-mul_right, div-one, arith, lit≤, leb→le, pow_pos, pow_mono, pow-add, shl_lt, eq-eqb, ne_eqb, eqb-true}
use native.Mathlib.Nat.{eq_of_mul-eq-mul_right, le_dest, pow-succ'}
use lib.Count.{count_leading_zeros, leading_top}
use lib.Ieee.{Float, fin, Format, binary32, binary64, prec, low, up, down, fits, round}
use lib.Ieee.Fits.{and_l, and_r, up_pos, down_pos}
use lib.Ieee.Exact.{HasValue}
use lib.Ieee.Nearest.{div_same}
use lib.Ieee.Scale.{round_same}
use Rattle.numbers.specs.declared.rounding.Parts.{Parts}
use Rattle.numbers.specs.Parts.{Parted, Rooted}
use Rattle.numbers.specs.Root.{floor_root, square_units, root_of, sqrt_of}
use Rattle.numbers.proofs.FloorRoot.{floor_root_law, square_lt_back}
use Rattle.numbers.proofs.Between.{round_between}
use Rattle.numbers.proofs.Plain.{Plain}

pow_lt_back : (i p : ℕ) → 2 ^ i < 2 ^ p → i < p
pow_lt_back i p h = lt_of_not-le (λ (g : p ≤ i). lt_irrefl (2 ^ i) (lt_of_lt_of_le h (pow_mono g)))

-- ---- the shift that leaves an even number of places
module _ (sig j : ℕ) (P : 0 < sig) (S : sig < 2 ^ 53) where
  abbrev z : ℕ
  z = count_leading_zeros 64 sig

  top : (i : ℕ) × (z + suc i ≡ 64) × (2 ^ i ≤ sig) × (sig < 2 ^ suc i)
  top = leading_top 64 sig P (go sig S)
    where
      go : (x : ℕ) → x < 2 ^ 53 → x < 2 ^ 64
      go x h = omega arith

  i_lt : top.0 < 53
  i_lt = pow_lt_back top.0 53 (lt_of_le_of_lt top.2 S)

  abbrev pub sh : ℕ
  sh = z - (z + j) % 2

  pub z_ge : 11 ≤ z
  z_ge = go z top.0 top.1 i_lt
    where
      go : (x i : ℕ) → x + suc i ≡ 64 → i < 53 → 11 ≤ x
      go x i a b = omega arith

  pub z_le : z ≤ 63
  z_le = go z top.0 top.1
    where
      go : (x i : ℕ) → x + suc i ≡ 64 → x ≤ 63
      go x i a = omega arith

  pub large : 2 ^ 62 ≤ sig * 2 ^ sh
  large = le_trans (pow_mono (go z top.0 top.1)) (le_trans (le_of_eq (pow-add 2 top.0 sh)) (mul-le-mul_right (2 ^ sh) top.2))
    where
      go : (x i : ℕ) → x + suc i ≡ 64 → 62 ≤ i + (x - (x + j) % 2)
      go x i a = omega arith

  pub small : sig * 2 ^ sh < 2 ^ 64
  small = lt_of_lt_of_le (shl_lt (suc top.0) sh top.3) (pow_mono (go z top.0 top.1))
    where
      go : (x i : ℕ) → x + suc i ≡ 64 → suc i + (x - (x + j) % 2) ≤ 64
      go x i a = omega arith

  pub shl_is : sig * 2 ^ sh % 2 ^ 64 ≡ sig * 2 ^ sh
  shl_is = mod-eq_of_lt small

  pub even : sh + 2 * ((j + 1024 - sh) / 2) ≡ j + 1024
  even = go z z_ge z_le
    where
      go : (x : ℕ) → 11 ≤ x → x ≤ 63 → x - (x + j) % 2 + 2 * ((j + 1024 - (x - (x + j) % 2)) / 2) ≡ j + 1024
      go x a b = omega arith

-- ---- from a root's leading digits to its rounding
-- N = q * q + rest, and n = N * (g * g), with g = 2 ^ i
module _ (q rest g n r : ℕ) (G : 0 < g) (R : rest ≤ 2 * q) (NI : n ≡ (q * q + rest) * (g * g)) (FR : (r * r ≤ n) × (n < suc r * suc r)) where
  squares : (x y : ℕ) → x * y * (x * y) ≡ x * x * (y * y)
  squares x y = omega arith

  root_ge : q * g ≤ r
  root_ge =
      le_of_suc-le-suc (square_lt_back (q * g) (suc r)
      (lt_of_le_of_lt (le_trans (le_of_eq (squares q g)) (le_trans (mul-le-mul_right (g * g) (more (q * q))) (le_of_eq (sym NI)))) FR.1))
    where
      more : (x : ℕ) → x ≤ x + rest
      more x = omega arith

  root_lt : r < suc q * g
  root_lt =
      square_lt_back r (suc q * g)
      (lt_of_le_of_lt FR.0 (lt_of_le_of_lt (le_of_eq NI) (lt_of_lt_of_le (mul-lt-mul_of_pos_right below (mul-pos G G)) (le_of_eq (sym (squares (suc q) g))))))
    where
      below : q * q + rest < suc q * suc q
      below = omega arith

  -- r is q * g and b more
  beyond : (b : ℕ) × (q * g + b ≡ r) × (b < g)
  beyond =
      let d = le_dest root_ge in
      (d.0, d.1, go d.0 d.1 root_lt)
    where
      go : (b : ℕ) → q * g + b ≡ r → r < suc q * g → b < g
      go b e l = omega arith

  exact : rest ≡ 0 → r ≡ q * g
  exact e = le_antisymm (le_of_suc-le-suc (square_lt_back r (suc (q * g)) (lt_of_le_of_lt FR.0 (lt_of_le_of_lt (le_of_eq is) (larger (q * g)))))) root_ge
    where
      plain : (q * q + rest) * (g * g) ≡ q * q * (g * g)
      plain = ap (λ (x : ℕ). (q * q + x) * (g * g)) e ∙ ap (λ (x : ℕ). x * (g * g)) (go (q * q))
        where
          go : (x : ℕ) → x + 0 ≡ x
          go x = omega arith

      is : n ≡ q * g * (q * g)
      is = NI ∙ plain ∙ sym (squares q g)

      larger : (x : ℕ) → x * x < suc x * suc x
      larger x = omega arith

  exact_square : rest ≡ 0 → r * r ≡ n
  exact_square e = ap (λ (x : ℕ). x * x) (exact e) ∙ squares q g ∙ ap (λ (x : ℕ). x * (g * g)) (go (q * q) rest e) ∙ sym NI
    where
      go : (x y : ℕ) → y ≡ 0 → x ≡ x + y
      go x y h = omega arith

  -- where the root is not whole, q * g is below it
  inexact : 0 < rest → r ≡ q * g → r * r ≡ n → ⊥
  inexact p e h = go (q * q * (g * g)) (rest * (g * g)) (mul-pos p (mul-pos G G)) (sym (squares q g) ∙ ap (λ (x : ℕ). x * x) (sym e) ∙ h ∙ NI ∙ add-mul (q * q) rest (g * g))
    where
      go : (x y : ℕ) → 0 < y → x ≡ x + y → ⊥
      go x y a b = omega arith

  abbrev sticky : ℕ
  sticky = cond (eqb (r * r) n) 0 1

  sticky_le : sticky ≤ 1
  sticky_le = go (eqb (r * r) n)
    where
      go : (b : Bool) → cond b 0 1 ≤ 1
      go true = lit≤ tt
      go false = lit≤ tt

  -- what stands above q * (2 * g)
  over_pos : 0 < rest → 0 < 2 * beyond.0 + sticky
  over_pos p = go (eqb (r * r) n) refl
    where
      rest_pos : (b t : ℕ) → (b ≡ 0 → ⊥) → 0 < 2 * b + t
      rest_pos b t h = omega arith

      last : (b : ℕ) → 0 < 2 * b + 1
      last b = omega arith

      plus : (x b : ℕ) → x + b ≡ r → b ≡ 0 → r ≡ x
      plus x b e h = omega arith

      go : (t : Bool) → eqb (r * r) n ≡ t → 0 < 2 * beyond.0 + cond t 0 1
      go true e =
          rest_pos beyond.0 0 (λ h. inexact p (plus (q * g) beyond.0 beyond.1 h) (eqb-true (r * r) n e))
      go false e = last beyond.0

  over_lt : 2 * beyond.0 + sticky < 2 * g
  over_lt = go beyond.0 sticky beyond.2 sticky_le
    where
      go : (b t : ℕ) → b < g → t ≤ 1 → 2 * b + t < 2 * g
      go b t h k = omega arith

  module _ (f : Format) (i : ℕ) (GI : g ≡ 2 ^ i) (H : 2 ^ prec f ≤ q) where
    pub root_rounds : round f false (2 * r + sticky) (2 ^ (low f + 1)) ≡ round f false ((2 * q + cond (eqb rest 0) 0 1) * g) (2 ^ (low f + 1))
    root_rounds = go (eq-zero-or-pos rest)
      where
        two_g : 2 * g ≡ 2 ^ suc i
        two_g = ap (λ (x : ℕ). 2 * x) GI ∙ sym (pow-succ' 2 i)

        whole : (x : ℕ) → x ≡ q * g → 2 * x + 0 ≡ (2 * q + 0) * g
        whole x e = omega arith

        left : (x b t : ℕ) → q * g + b ≡ x → 2 * x + t ≡ q * (2 * g) + (2 * b + t)
        left x b t e = omega arith

        right : q * (2 * g) + g ≡ (2 * q + 1) * g
        right = omega arith

        half : g < 2 * g
        half = omega arith

        go : (rest ≡ 0) ⊎ (0 < rest) → round f false (2 * r + sticky) (2 ^ (low f + 1)) ≡ round f false ((2 * q + cond (eqb rest 0) 0 1) * g) (2 ^ (low f + 1))
        go (inl e) =
            ap (λ (b : Bool). round f false (2 * r + cond b 0 1) (2 ^ (low f + 1))) (eq-eqb (r * r) n (exact_square e))
            ∙ ap (λ (x : ℕ). round f false x (2 ^ (low f + 1))) (whole r (exact e))
            ∙ ap (λ (b : Bool). round f false ((2 * q + cond b 0 1) * g) (2 ^ (low f + 1))) (sym (eq-eqb rest 0 e))
        go (inr p) =
            ap (λ (x : ℕ). round f false x (2 ^ (low f + 1))) (left r beyond.0 sticky beyond.1 ∙ ap (λ (x : ℕ). q * x + (2 * beyond.0 + sticky)) two_g)
            ∙ round_between f false q i H (2 * beyond.0 + sticky) g (over_pos p) (subst (λ (x : ℕ). 2 * beyond.0 + sticky < x) two_g over_lt) G (subst (λ (x : ℕ). g < x) two_g half)
            ∙ ap (λ (x : ℕ). round f false (q * x + g) (2 ^ (low f + 1))) (sym two_g)
            ∙ ap (λ (x : ℕ). round f false x (2 ^ (low f + 1))) right
            ∙ ap (λ (b : Bool). round f false ((2 * q + cond b 0 1) * g) (2 ^ (low f + 1)))
            (sym (ne_eqb rest 0 (not_zero rest p)))
          where
            not_zero : (x : ℕ) → 0 < x → x ≡ 0 → ⊥
            not_zero x a b = omega arith

-- ---- the root of m * 2 ^ e, from the parts sig * 2 ^ j / 2 ^ 1074 of that value
enough : (f : Format) → 2 ^ prec f ≤ 2 ^ 55
enough binary32 = lit≤ tt
enough binary64 = lit≤ tt

module _ (f : Format) (m : ℕ) (e : ℤ) (sig j w k i : ℕ) (R : Rooted sig j w k) (W : m * up e * 2 ^ 1074 ≡ sig * 2 ^ j * down e) (I : i + 1073 ≡ k + low f) where
  abbrev N : ℕ
  N = sig * 2 ^ R.sh * 2 ^ 48

  q_ge : 2 ^ 55 ≤ R.q
  q_ge =
      le_of_suc-le-suc (square_lt_back (2 ^ 55) (suc R.q)
      (lt_of_le_of_lt (mul-le-mul_right (2 ^ 48) R.large) (lt_of_le_of_lt (le_of_eq (sym R.split)) (go R.q R.rest R.rests))))
    where
      go : (x y : ℕ) → y ≤ 2 * x → x * x + y < suc x * suc x
      go x y h = omega arith

  -- both sides as one power of two times sig
  left : m * up e * 2 ^ (2 * low f) * 2 ^ 1074 ≡ sig * 2 ^ (j + 2 * low f) * down e
  left =
      mul_right_comm (m * up e) (2 ^ (2 * low f)) (2 ^ 1074)
      ∙ ap (λ (x : ℕ). x * 2 ^ (2 * low f)) W
      ∙ mul_right_comm (sig * 2 ^ j) (down e) (2 ^ (2 * low f))
      ∙ ap (λ (x : ℕ). x * down e) (mul_assoc sig (2 ^ j) (2 ^ (2 * low f)) ∙ ap (λ (x : ℕ). sig * x) (sym (pow-add 2 j (2 * low f))))

  right : N * (2 ^ i * 2 ^ i) * down e * 2 ^ 1074 ≡ sig * 2 ^ (R.sh + 48 + (i + i) + 1074) * down e
  right =
      mul_right_comm (N * (2 ^ i * 2 ^ i)) (down e) (2 ^ 1074)
      ∙ ap (λ (x : ℕ). x * down e)
      (ap (λ (x : ℕ). N * x * 2 ^ 1074) (sym (pow-add 2 i i))
      ∙ ap (λ (x : ℕ). x * 2 ^ (i + i) * 2 ^ 1074) (mul_assoc sig (2 ^ R.sh) (2 ^ 48) ∙ ap (λ (x : ℕ). sig * x) (sym (pow-add 2 R.sh 48)))
      ∙ ap (λ (x : ℕ). x * 2 ^ 1074) (mul_assoc sig (2 ^ (R.sh + 48)) (2 ^ (i + i)) ∙ ap (λ (x : ℕ). sig * x) (sym (pow-add 2 (R.sh + 48) (i + i))))
      ∙ mul_assoc sig (2 ^ (R.sh + 48 + (i + i))) (2 ^ 1074)
      ∙ ap (λ (x : ℕ). sig * x) (sym (pow-add 2 (R.sh + 48 + (i + i)) 1074)))

  places : j + 2 * low f ≡ R.sh + 48 + (i + i) + 1074
  places = go (low f) R.sh R.even I
    where
      go : (l s : ℕ) → s + 2 * k ≡ j + 1024 → i + 1073 ≡ k + l → j + 2 * l ≡ s + 48 + (i + i) + 1074
      go l s a b = omega arith

  units_is : square_units f m e ≡ N * (2 ^ i * 2 ^ i)
  units_is =
      div_same (m * up e * 2 ^ (2 * low f)) (down e) (N * (2 ^ i * 2 ^ i)) 1 (down_pos e) (lit≤ tt)
      (mul-one (m * up e * 2 ^ (2 * low f))
      ∙ eq_of_mul-eq-mul_right (2 ^ 1074) (pow_pos 1074) (m * up e * 2 ^ (2 * low f)) (N * (2 ^ i * 2 ^ i) * down e) (left ∙ ap (λ (x : ℕ). sig * 2 ^ x * down e) places ∙ sym right))
      ∙ div-one (N * (2 ^ i * 2 ^ i))

  pub rooted : round f false (w * 2 ^ k) (2 ^ 1074) ≡ root_of f m e
  unfolding root_of
  rooted =
      round_same f false (w * 2 ^ k) (2 ^ 1074) (w * 2 ^ i) (2 ^ (low f + 1)) (pow_pos 1074) (pow_pos (low f + 1))
      (mul_assoc w (2 ^ k) (2 ^ (low f + 1)) ∙ ap (λ (x : ℕ). w * x) (sym (pow-add 2 k (low f + 1)) ∙ ap (λ (x : ℕ). 2 ^ x) (go (low f) I) ∙ pow-add 2 i 1074) ∙ sym (mul_assoc w (2 ^ i) (2 ^ 1074)))
      ∙ ap (λ (x : ℕ). round f false (x * 2 ^ i) (2 ^ (low f + 1))) R.is
      ∙ sym (root_rounds R.q R.rest (2 ^ i) (square_units f m e) (floor_root (square_units f m e)) (pow_pos i) R.rests
      (units_is ∙ ap (λ (x : ℕ). x * (2 ^ i * 2 ^ i)) (sym R.split))
      (floor_root_law (square_units f m e))
      f i refl (le_trans (enough f) q_ge))
    where
      go : (l : ℕ) → i + 1073 ≡ k + l → k + (l + 1) ≡ i + 1074
      go l h = omega arith

-- an f32 is a multiple of 2 ^ -149
fine : (m : ℕ) (e : ℤ) → T (fits binary32 (fin false (suc m) e)) → down e ≤ 2 ^ 149
unfolding fits
fine m e h =
    let A = eqb (suc m % 2) 1 && ltb (suc m) (2 ^ 24) in
    leb→le (down e) (2 ^ 149)
    (and_r A (leb (down e) (2 ^ 149))
    (and_l (A && leb (down e) (2 ^ 149)) (ltb (suc m * up e) (2 ^ 128 * down e)) h))

-- ---- a v that is finite and above zero, and its parts
module _ (v : Float) (p : Plain v) (a : Parts) (A : Parted binary64 v a) where
  abbrev m : ℕ
  m = suc p.0

  abbrev e : ℤ
  e = p.1

  value : m * up e * 2 ^ 1074 ≡ a.sig * 2 ^ a.j * down e
  value = (subst (λ (x : Float). HasValue x a.neg (a.sig * 2 ^ a.j) (2 ^ 1074)) p.2 A.value).1

  sig_some : (s : ℕ) → a.sig ≡ s → 0 < s
  sig_some zero h = absurd (lt_irrefl 0 (lt_of_lt_of_le (mul-pos (mul-pos (zero-lt-suc p.0) (up_pos e)) (pow_pos 1074)) (le_of_eq (value ∙ ap (λ (x : ℕ). x * 2 ^ a.j * down e) h ∙ ap (λ (x : ℕ). x * down e) (zero-mul (2 ^ a.j)) ∙ zero-mul (down e)))))
  sig_some (suc s) h = zero-lt-suc s

  pub sig_pos : 0 < a.sig
  sig_pos = sig_some a.sig refl

  pub root_fits : (0 < a.sig) × (a.sig < 2 ^ 53) × (a.j < 2046)
  root_fits = (sig_pos, A.small, A.near)

  pub root64 : (w k : ℕ) → Rooted a.sig a.j w k → (r : Float) → r ≡ round binary64 false (w * 2 ^ k) (2 ^ 1074) → r ≡ sqrt_of binary64 v
  unfolding sqrt_of
  root64 w k R r h = h ∙ rooted binary64 m e a.sig a.j w k (k + 1) R value (go k) ∙ ap (sqrt_of binary64) (sym p.2)
    where
      go : (x : ℕ) → x + 1 + 1073 ≡ x + 1074
      go x = omega arith

  -- an f32 is no less than 2 ^ -149
  units_ge : down e ≤ 2 ^ 149 → 2 ^ 925 ≤ a.sig * 2 ^ a.j
  units_ge d =
      le_of_mul-le-mul_right
      (le_trans (le_trans (le_of_eq (sym (one-mul (2 ^ 1074)))) (mul-le-mul_right (2 ^ 1074) (mul-pos (zero-lt-suc p.0) (up_pos e))))
      (le_trans (le_of_eq value) (mul-le-mul_left (a.sig * 2 ^ a.j) d))) (pow_pos 149)

  pub root32 : T (fits binary32 v) → (w k : ℕ) → Rooted a.sig a.j w k → (r : Float) → r ≡ round binary32 false (w * 2 ^ k) (2 ^ 1074) → r ≡ sqrt_of binary32 v
  unfolding sqrt_of
  root32 F w k R r h = h ∙ rooted binary32 m e a.sig a.j w k (k - 924) R value (back k far) ∙ ap (sqrt_of binary32) (sym p.2)
    where
      d : down e ≤ 2 ^ 149
      d = fine p.0 e (subst (λ (x : Float). T (fits binary32 x)) p.2 F)

      gap : 925 + R.sh < 64 + a.j
      gap = pow_lt_back (925 + R.sh) (64 + a.j)
          (lt_of_le_of_lt (le_of_eq (pow-add 2 925 R.sh))
          (lt_of_le_of_lt (mul-le-mul_right (2 ^ R.sh) (units_ge d))
          (lt_of_le_of_lt (le_of_eq (mul_right_comm a.sig (2 ^ a.j) (2 ^ R.sh)))
          (lt_of_lt_of_le (mul-lt-mul_of_pos_right R.small (pow_pos a.j)) (le_of_eq (sym (pow-add 2 64 a.j)))))))

      far : 924 ≤ k
      far = go R.sh a.j gap R.even
        where
          go : (s j : ℕ) → 925 + s < 64 + j → s + 2 * k ≡ j + 1024 → 924 ≤ k
          go s j x y = omega arith

      back : (x : ℕ) → 924 ≤ x → x - 924 + 1073 ≡ x + 149
      back x g = omega arith
