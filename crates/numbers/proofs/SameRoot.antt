-- The library's root of a value that a format holds is `sqrt_of`. Both cut the root at a scale finer than the format's,
-- and round what they have; the library's scale, 2 ^ -2271, is the finer one. Assumes nothing.
use Rattle.std.proofs.Common.{◌≡◌, ℕ, zero, suc, ◌+◌, ◌-◌, ◌*◌, ◌/◌, ◌%◌, ◌^◌, ◌<◌, ◌≤◌, Bool, true, false, cond, T, eqb, ◌⊎◌, ℤ, sym, refl, ap, ◌∙◌, subst, inl, inr, le_trans, le_of_eq, lt_of_lt_of_le, le_of_suc-le-suc, lt_of_le_of_lt, mul-le-mul_right, mul-lt-mul_of_pos_right, mul-pos, mul_assoc, add-mul, eq-zero-or-pos, le_antisymm, pow_pos, pow_mono, pow-add, arith, lit≤, eq-eqb, ne_eqb, eqb-true, add-zero, mod-lt, div-add-mod', lt_of_not-le, not-le_of_lt}
use Rattle.std.proofs.lemmas.Nat.{div-mul-add}
use native.Mathlib.Nat.{le_dest, pow-succ'}
use native.Mathlib.Decide.{dec_le}
use lib.Ieee.Digits.{size-lt}
use lib.Ieee.{Float, nan, inf, fin, Format, binary32, binary64, prec, low, up, down, size, fits, units, round, root_below, root_twice, sqrt}
use lib.Ieee.Fits.{round_is}
use lib.Ieee.Nearest.{closest, closest_same, div_same}
use lib.Ieee.Root.{whole_part}
use lib.Ieee.Scale.{round_same}
use Rattle.numbers.specs.Log.{rise, fall}
use Rattle.numbers.specs.Root.{floor_root, square_units, root_of, sqrt_of}
use Rattle.numbers.proofs.Closest.{closest_down, closest_up}
use Rattle.numbers.proofs.FloorRoot.{floor_root_law, square_lt_back}
use Rattle.numbers.proofs.NearestRoot.{Held, held_of, place, fall_le, N-is, R-ge}
use Rattle.numbers.proofs.Plain.{zero_form}

-- ---- two numbers that lie strictly between Q and Q + 1 times g are nearest to the same multiple of 2 * c * g
module _ (Q g c : ℕ) (C : 0 < c) where
  abbrev q : ℕ
  q = Q / (2 * c)

  abbrev o : ℕ
  o = Q % (2 * c)

  o_lt : o < 2 * c
  o_lt = mod-lt Q (go c C)
    where
      go : (x : ℕ) → 0 < x → 0 < 2 * x
      go x h = omega arith

  apart : (a : ℕ) → Q * g + a ≡ q * (2 * c * g) + (o * g + a)
  apart a = ap (λ (x : ℕ). x * g + a) (sym (div-add-mod' Q (2 * c))) ∙ go q o (2 * c)
    where
      go : (x y d : ℕ) → (x * d + y) * g + a ≡ x * (d * g) + (y * g + a)
      go x y d = omega arith

  lower : o < c → (a : ℕ) → a < g → closest (Q * g + a) (2 * c * g) ≡ q
  lower h a l =
      ap (λ (x : ℕ). closest x (2 * c * g)) (apart a)
      ∙ closest_down q (2 * c * g) (o * g + a) (go o (mul-le-mul_right g h))
    where
      go : (y : ℕ) → suc y * g ≤ c * g → (y * g + a) * 2 < 2 * c * g
      go y k = omega arith

  upper : c ≤ o → (a : ℕ) → 0 < a → a < g → closest (Q * g + a) (2 * c * g) ≡ q + 1
  upper h a p l =
      ap (λ (x : ℕ). closest x (2 * c * g)) (apart a)
      ∙ closest_up q (2 * c * g) (o * g + a) (go o (mul-le-mul_right g h)) (top o (mul-le-mul_right g o_lt))
    where
      go : (y : ℕ) → c * g ≤ y * g → 2 * c * g < (y * g + a) * 2
      go y k = omega arith

      top : (y : ℕ) → suc y * g ≤ 2 * c * g → y * g + a < 2 * c * g
      top y k = omega arith

  closest_between : (a b : ℕ) → 0 < a → a < g → 0 < b → b < g
      → closest (Q * g + a) (2 * c * g) ≡ closest (Q * g + b) (2 * c * g)
  closest_between a b p l p' l' = go (dec_le (suc o) c)
    where
      go : Dec (suc o ≤ c) → closest (Q * g + a) (2 * c * g) ≡ closest (Q * g + b) (2 * c * g)
      go (yes h) = lower h a l ∙ sym (lower h b l')
      go (no n) = let h : c ≤ o = omega arith in upper h a p l ∙ sym (upper h b p' l')

size_gt : (n j : ℕ) → 2 ^ j ≤ n → j < size n
size_gt n j h = lt_of_not-le (λ (g : size n ≤ j). not-le_of_lt (lt_of_lt_of_le (size-lt n) (pow_mono g)) h)

-- ---- so they round alike for g = 2 ^ suc i, as so many units of 2 ^ -(low + suc i), where Q has more digits than the
-- format keeps
module _ (f : Format) (s : Bool) (Q i : ℕ) (H : 2 ^ prec f ≤ Q) where
  abbrev g : ℕ
  g = 2 ^ suc i

  abbrev den : ℕ
  den = 2 ^ (low f + suc i)

  abbrev k : ℕ
  k = size Q - prec f

  k_pos : 0 < k
  k_pos = go (size Q) (size_gt Q (prec f) H)
    where
      go : (x : ℕ) → prec f < x → 0 < x - prec f
      go x h = omega arith

  module _ (a : ℕ) (A : a < g) where
    whole : (Q * g + a) * 2 ^ low f / den ≡ Q
    whole =
        div_same ((Q * g + a) * 2 ^ low f) den (Q * g + a) g (pow_pos (low f + suc i)) (pow_pos (suc i))
        (mul_assoc (Q * g + a) (2 ^ low f) g ∙ ap (λ (x : ℕ). (Q * g + a) * x) (sym (pow-add 2 (low f) (suc i))))
        ∙ div-mul-add Q g a A

    rounds : round f s (Q * g + a) den ≡ units f s (closest (Q * g + a) (2 * 2 ^ (k - 1) * g)) k
    rounds =
        round_is f s (Q * g + a) den
        ∙ ap (λ (x : ℕ). let j = size x - prec f in units f s (closest ((Q * g + a) * 2 ^ low f) (den * 2 ^ j)) j) whole
        ∙ ap (λ (x : ℕ). units f s x k)
        (closest_same ((Q * g + a) * 2 ^ low f) (den * 2 ^ k) (Q * g + a) (2 * 2 ^ (k - 1) * g)
        (mul-pos (pow_pos (low f + suc i)) (pow_pos k))
        (mul-pos (mul-pos (lit≤ tt) (pow_pos (k - 1))) (pow_pos (suc i)))
        (unit (2 ^ low f) g (2 ^ (k - 1)) den (2 ^ k) (pow-add 2 (low f) (suc i))
        (ap (λ (x : ℕ). 2 ^ x) (one_less k k_pos) ∙ pow-succ' 2 (k - 1))))
      where
        one_less : (x : ℕ) → 0 < x → x ≡ suc (x - 1)
        one_less x h = omega arith

        unit : (l d h b p : ℕ) → b ≡ l * d → p ≡ 2 * h → (Q * g + a) * l * (2 * h * d) ≡ (Q * g + a) * (b * p)
        unit l d h b p e e2 = rw (e, e2) (go (Q * g + a))
          where
            go : (x : ℕ) → x * l * (2 * h * d) ≡ x * (l * d * (2 * h))
            go x = omega arith

  round_between : (a b : ℕ) → 0 < a → a < g → 0 < b → b < g → round f s (Q * g + a) den ≡ round f s (Q * g + b) den
  round_between a b P A P' B =
      rounds a A
      ∙ ap (λ (x : ℕ). units f s x k) (closest_between Q g (2 ^ (k - 1)) (pow_pos (k - 1)) a b P A P' B)
      ∙ sym (rounds b B)

-- ---- n is r0 * r0 + rest at the coarse scale, and that times h * h at the fine one, where the root's whole part is r
module _ (r0 rest h n r : ℕ) (P : 0 < h) (R : rest ≤ 2 * r0) (N : n ≡ (r0 * r0 + rest) * (h * h))
    (FR : (r * r ≤ n) × (n < suc r * suc r)) where
  squares : (x y : ℕ) → x * y * (x * y) ≡ x * x * (y * y)
  squares x y = omega arith

  root_ge : r0 * h ≤ r
  root_ge =
      le_of_suc-le-suc (square_lt_back (r0 * h) (suc r)
      (lt_of_le_of_lt
      (le_trans (le_of_eq (squares r0 h)) (le_trans (mul-le-mul_right (h * h) (more (r0 * r0))) (le_of_eq (sym N))))
      FR.1))
    where
      more : (x : ℕ) → x ≤ x + rest
      more x = omega arith

  root_lt : r < suc r0 * h
  root_lt =
      square_lt_back r (suc r0 * h)
      (lt_of_le_of_lt FR.0 (lt_of_le_of_lt (le_of_eq N)
      (lt_of_lt_of_le (mul-lt-mul_of_pos_right below (mul-pos P P)) (le_of_eq (sym (squares (suc r0) h))))))
    where
      below : r0 * r0 + rest < suc r0 * suc r0
      below = omega arith

  -- r is r0 * h and b more
  beyond : (b : ℕ) × (r0 * h + b ≡ r) × (b < h)
  beyond =
      let d = le_dest root_ge in
      (d.0, d.1, go d.0 d.1 root_lt)
    where
      go : (b : ℕ) → r0 * h + b ≡ r → r < suc r0 * h → b < h
      go b e l = omega arith

  exact : rest ≡ 0 → r ≡ r0 * h
  exact e =
      le_antisymm
      (le_of_suc-le-suc (square_lt_back r (suc (r0 * h))
      (lt_of_le_of_lt FR.0 (lt_of_le_of_lt (le_of_eq is) (larger (r0 * h)))))) root_ge
    where
      is : n ≡ r0 * h * (r0 * h)
      is =
          N
          ∙ ap (λ (x : ℕ). (r0 * r0 + x) * (h * h)) e
          ∙ ap (λ (x : ℕ). x * (h * h)) (add-zero (r0 * r0)) ∙ sym (squares r0 h)

      larger : (x : ℕ) → x * x < suc x * suc x
      larger x = omega arith

  exact_square : rest ≡ 0 → r * r ≡ n
  exact_square e =
      ap (λ (x : ℕ). x * x) (exact e)
      ∙ squares r0 h
      ∙ ap (λ (x : ℕ). x * (h * h)) (sym (add-zero (r0 * r0)))
      ∙ ap (λ (x : ℕ). (r0 * r0 + x) * (h * h)) (sym e)
      ∙ sym N

  -- where the root is not whole, r0 * h is below it
  inexact : 0 < rest → r ≡ r0 * h → r * r ≡ n → ⊥
  inexact p e g =
      go (r0 * r0 * (h * h)) (rest * (h * h)) (mul-pos p (mul-pos P P))
      (sym (squares r0 h) ∙ ap (λ (x : ℕ). x * x) (sym e) ∙ g ∙ N ∙ add-mul (r0 * r0) rest (h * h))
    where
      go : (x y : ℕ) → 0 < y → x ≡ x + y → ⊥
      go x y a b = omega arith

  abbrev sticky : ℕ
  sticky = cond (eqb (r * r) n) 0 1

  sticky_le : (b : Bool) → cond b 0 1 ≤ 1
  sticky_le true = lit≤ tt
  sticky_le false = lit≤ tt

  -- what stands above r0 * (2 * h)
  over_pos : 0 < rest → 0 < 2 * beyond.0 + sticky
  over_pos p = go (eqb (r * r) n) refl
    where
      some : (b t : ℕ) → (b ≡ 0 → ⊥) → 0 < 2 * b + t
      some b t h = omega arith

      last : (b : ℕ) → 0 < 2 * b + 1
      last b = omega arith

      plus : (x b : ℕ) → x + b ≡ r → b ≡ 0 → r ≡ x
      plus x b e h = omega arith

      go : (t : Bool) → eqb (r * r) n ≡ t → 0 < 2 * beyond.0 + cond t 0 1
      go true e = some beyond.0 0 (λ z. inexact p (plus (r0 * h) beyond.0 beyond.1 z) (eqb-true (r * r) n e))
      go false e = last beyond.0

  over_lt : 2 * beyond.0 + sticky < 2 * h
  over_lt = go beyond.0 sticky beyond.2 (sticky_le (eqb (r * r) n))
    where
      go : (b t : ℕ) → b < h → t ≤ 1 → 2 * b + t < 2 * h
      go b t l k = omega arith

  module _ (f : Format) (i : ℕ) (I : h ≡ 2 ^ i) (H : 2 ^ prec f ≤ r0) where
    abbrev fine : ℕ
    fine = 2 ^ (low f + suc i)

    two_h : 2 * h ≡ 2 ^ suc i
    two_h = ap (λ (x : ℕ). 2 * x) I ∙ sym (pow-succ' 2 i)

    -- the coarse number at the fine scale
    coarser : (t : ℕ) → round f false ((2 * r0 + t) * h) fine ≡ round f false (2 * r0 + t) (2 ^ (low f + 1))
    coarser t =
        round_same f false ((2 * r0 + t) * h) fine (2 * r0 + t) (2 ^ (low f + 1))
        (pow_pos (low f + suc i)) (pow_pos (low f + 1))
        (mul_assoc (2 * r0 + t) h (2 ^ (low f + 1))
        ∙ ap (λ (x : ℕ). (2 * r0 + t) * x)
        (ap (λ (x : ℕ). x * 2 ^ (low f + 1)) I ∙ sym (pow-add 2 i (low f + 1)) ∙ ap (λ (x : ℕ). 2 ^ x) (go (low f))))
      where
        go : (l : ℕ) → i + (l + 1) ≡ l + suc i
        go l = omega arith

    root_rounds : round f false (2 * r + sticky) fine ≡ round f false (2 * r0 + cond (eqb rest 0) 0 1) (2 ^ (low f + 1))
    root_rounds = go (eq-zero-or-pos rest)
      where
        whole : (x : ℕ) → x ≡ r0 * h → 2 * x + 0 ≡ (2 * r0 + 0) * h
        whole x e = omega arith

        left : (x b t : ℕ) → r0 * h + b ≡ x → 2 * x + t ≡ r0 * (2 * h) + (2 * b + t)
        left x b t e = omega arith

        right : r0 * (2 * h) + h ≡ (2 * r0 + 1) * h
        right = omega arith

        half : h < 2 * h
        half = omega arith

        some : (x : ℕ) → 0 < x → x ≡ 0 → ⊥
        some x a b = omega arith

        go : (rest ≡ 0) ⊎ (0 < rest)
            → round f false (2 * r + sticky) fine ≡ round f false (2 * r0 + cond (eqb rest 0) 0 1) (2 ^ (low f + 1))
        go (inl e) =
            ap (λ (b : Bool). round f false (2 * r + cond b 0 1) fine) (eq-eqb (r * r) n (exact_square e))
            ∙ ap (λ (x : ℕ). round f false x fine) (whole r (exact e))
            ∙ coarser 0
            ∙ ap (λ (b : Bool). round f false (2 * r0 + cond b 0 1) (2 ^ (low f + 1))) (sym (eq-eqb rest 0 e))
        go (inr p) =
            ap (λ (x : ℕ). round f false x fine)
            (left r beyond.0 sticky beyond.1 ∙ ap (λ (x : ℕ). r0 * x + (2 * beyond.0 + sticky)) two_h)
            ∙ round_between f false r0 i H (2 * beyond.0 + sticky) h (over_pos p)
            (subst (λ (x : ℕ). 2 * beyond.0 + sticky < x) two_h over_lt) P (subst (λ (x : ℕ). h < x) two_h half)
            ∙ ap (λ (x : ℕ). round f false (r0 * x + h) fine) (sym two_h)
            ∙ ap (λ (x : ℕ). round f false x fine) right
            ∙ coarser 1
            ∙ ap (λ (b : Bool). round f false (2 * r0 + cond b 0 1) (2 ^ (low f + 1)))
            (sym (ne_eqb rest 0 (some rest p)))

-- ---- a value that is held is a whole number at both scales
same_flag : (x y n : ℕ) → x + y ≡ n → eqb y 0 ≡ eqb x n
same_flag x y n h = go (eq-zero-or-pos y)
  where
    plain : y ≡ 0 → x ≡ n
    plain e = omega arith

    less : 0 < y → x ≡ n → ⊥
    less p e = omega arith

    some : 0 < y → y ≡ 0 → ⊥
    some p e = omega arith

    go : (y ≡ 0) ⊎ (0 < y) → eqb y 0 ≡ eqb x n
    go (inl e) = eq-eqb y 0 e ∙ sym (eq-eqb x n (plain e))
    go (inr p) = ne_eqb y 0 (some p) ∙ sym (ne_eqb x n (less p))

finer : (f : Format) → (i : ℕ) × (low f + i ≡ 2271)
finer binary32 = (2122, refl)
finer binary64 = (1197, refl)

module _ (f : Format) (m : ℕ) (e : ℤ) (F : T (fits f (fin false (suc m) e))) where
  H : Held f (suc m) e
  H = held_of f false m e F

  abbrev n0 : ℕ
  n0 = square_units f (suc m) e

  abbrev r0 : ℕ
  r0 = floor_root n0

  -- what is left of n0 below the square
  left : (rest : ℕ) × (r0 * r0 + rest ≡ n0)
  left = le_dest (floor_root_law n0).0

  left_le : left.0 ≤ 2 * r0
  left_le = go r0 left.0 n0 left.1 (floor_root_law n0).1
    where
      go : (r y n : ℕ) → r * r + y ≡ n → n < suc r * suc r → y ≤ 2 * r
      go r y n a b = omega arith

  abbrev i : ℕ
  i = (finer f).0

  abbrev n : ℕ
  n = suc m * up e * 2 ^ 4542 / down e

  abbrev places : ℕ
  places = rise e + 2 * low f - fall e

  fine_is : n ≡ (r0 * r0 + left.0) * (2 ^ i * 2 ^ i)
  fine_is =
      place 4542 (suc m) e (under (low f) (finer f).1 (fall_le f (suc m) e H))
      ∙ ap (λ (x : ℕ). suc m * 2 ^ x) (go (low f) (finer f).1 (fall_le f (suc m) e H))
      ∙ ap (λ (x : ℕ). suc m * x) (pow-add 2 places (i + i))
      ∙ sym (mul_assoc (suc m) (2 ^ places) (2 ^ (i + i)))
      ∙ ap (λ (x : ℕ). x * 2 ^ (i + i)) (sym (N-is f (suc m) e H) ∙ sym left.1)
      ∙ ap (λ (x : ℕ). (r0 * r0 + left.0) * x) (pow-add 2 i i)
    where
      under : (l : ℕ) → l + i ≡ 2271 → fall e ≤ l → fall e ≤ 4542
      under l h k = omega arith

      go : (l : ℕ) → l + i ≡ 2271 → fall e ≤ l → rise e + 4542 - fall e ≡ rise e + 2 * l - fall e + (i + i)
      go l h k = omega arith

  positive_root : round f false (root_twice n) (2 ^ 2272) ≡ root_of f (suc m) e
  unfolding root_twice root_of
  positive_root =
      ap (λ (x : ℕ). round f false (root_twice n) (2 ^ x)) (go (low f) (finer f).1)
      ∙ root_rounds r0 left.0 (2 ^ i) n (root_below (size n) n) (pow_pos i) left_le fine_is
      (next (root_below (size n) n) n (whole_part n)) f i refl (R-ge f (suc m) e H)
      ∙ ap (λ (b : Bool). round f false (2 * r0 + cond b 0 1) (2 ^ (low f + 1))) (same_flag (r0 * r0) left.0 n0 left.1)
    where
      go : (l : ℕ) → l + i ≡ 2271 → 2272 ≡ l + suc i
      go l h = omega arith

      next : (r y : ℕ) → (r * r ≤ y) × (y < (r + 1) * (r + 1)) → (r * r ≤ y) × (y < suc r * suc r)
      next r y h = (h.0, omega (arith, h.1))

pub sqrt_law : (f : Format) (v : Float) → T (fits f v) → sqrt f v ≡ sqrt_of f v
unfolding sqrt sqrt_of
sqrt_law f nan F = refl
sqrt_law f (inf true) F = refl
sqrt_law f (inf false) F = refl
sqrt_law f (fin s zero e) F = ap (fin s 0) (sym (zero_form f s e F))
sqrt_law f (fin true (suc m) e) F = refl
sqrt_law f (fin false (suc m) e) F = positive_root f m e F
