-- Two numbers that lie strictly between the same two neighbouring multiples of 2 ^ (i + 1), of which the lower is Q times that, round alike, where Q has more digits than the format keeps. Assumes nothing.
use Rattle.std.proofs.Common.{◌≡◌, ℕ, suc, ◌+◌, ◌-◌, ◌*◌, ◌/◌, ◌%◌, ◌^◌, ◌<◌, ◌≤◌, Bool, sym, ap, ◌∙◌, le_trans, le_of_eq, lt_of_lt_of_le, le-add_right, mul-le-mul_right, mod-lt, mul_assoc, suc-mul, div-lt_iff_lt-mul, mul-pos, pow-suc, lt_of_not-le, div-add-mod', le-div_iff_mul-le, not-le_of_lt, arith, lit≤, pow_pos, pow_mono, pow-add}
use native.Mathlib.Nat.{pow-succ'}
use native.Mathlib.Decide.{dec_le}
use lib.Ieee.{Format, prec, low, size, units, round}
use lib.Ieee.Digits.{size-lt, size_reaches}
use lib.Ieee.Fits.{round_is}
use lib.Ieee.Nearest.{closest, closest_same, div_same}
use Rattle.numbers.proofs.Closest.{closest_down, closest_up}
use Rattle.numbers.proofs.Packs.{size_exact}

-- ---- `closest`
module _ (Q g c : ℕ) (C : 0 < c) where
  abbrev q : ℕ
  q = Q / (2 * c)

  abbrev o : ℕ
  o = Q % (2 * c)

  o_lt : o < 2 * c
  o_lt = mod-lt Q (go c C)
    where
      go : (x : ℕ) → 0 < x → 0 < 2 * x
      go x h = omega arith

  apart : (a : ℕ) → Q * g + a ≡ q * (2 * c * g) + (o * g + a)
  apart a = ap (λ (x : ℕ). x * g + a) (sym (div-add-mod' Q (2 * c))) ∙ go q o (2 * c)
    where
      go : (x y d : ℕ) → (x * d + y) * g + a ≡ x * (d * g) + (y * g + a)
      go x y d = omega arith

  down : o < c → (a : ℕ) → a < g → closest (Q * g + a) (2 * c * g) ≡ q
  down h a l = ap (λ (x : ℕ). closest x (2 * c * g)) (apart a) ∙ closest_down q (2 * c * g) (o * g + a) (go o (mul-le-mul_right g h))
    where
      go : (y : ℕ) → suc y * g ≤ c * g → (y * g + a) * 2 < 2 * c * g
      go y k = omega arith

  up : c ≤ o → (a : ℕ) → 0 < a → a < g → closest (Q * g + a) (2 * c * g) ≡ q + 1
  up h a p l = ap (λ (x : ℕ). closest x (2 * c * g)) (apart a) ∙ closest_up q (2 * c * g) (o * g + a) (go o (mul-le-mul_right g h)) (top o (mul-le-mul_right g o_lt))
    where
      go : (y : ℕ) → c * g ≤ y * g → 2 * c * g < (y * g + a) * 2
      go y k = omega arith

      top : (y : ℕ) → suc y * g ≤ 2 * c * g → y * g + a < 2 * c * g
      top y k = omega arith

  pub closest_between : (a b : ℕ) → 0 < a → a < g → 0 < b → b < g → closest (Q * g + a) (2 * c * g) ≡ closest (Q * g + b) (2 * c * g)
  closest_between a b p l p' l' = go (dec_le (suc o) c)
    where
      go : Dec (suc o ≤ c) → closest (Q * g + a) (2 * c * g) ≡ closest (Q * g + b) (2 * c * g)
      go (yes h) = down h a l ∙ sym (down h b l')
      go (no n) = let h : c ≤ o = omega arith in up h a p l ∙ sym (up h b p' l')

-- ---- `round`
size_gt : (n j : ℕ) → 2 ^ j ≤ n → j < size n
size_gt n j h = lt_of_not-le (λ (g : size n ≤ j). not-le_of_lt (lt_of_lt_of_le (size-lt n) (pow_mono g)) h)

module _ (f : Format) (s : Bool) (Q i : ℕ) (H : 2 ^ prec f ≤ Q) where
  abbrev z : ℕ
  z = size Q

  abbrev p : ℕ
  p = prec f

  abbrev l : ℕ
  l = low f

  abbrev g : ℕ
  g = 2 ^ suc i

  more : p < z
  more = size_gt Q p H

  abbrev k : ℕ
  k = z + i - p

  room : suc i ≤ k
  room = go z p more
    where
      go : (x y : ℕ) → y < x → suc i ≤ x + i - y
      go x y h = omega arith

  module _ (a : ℕ) (A : a < g) where
    n : ℕ
    n = Q * g + a

    whole : n * 2 ^ l / 2 ^ (l + 1) ≡ n / 2
    unfolding n
    whole = div_same (n * 2 ^ l) (2 ^ (l + 1)) n 2 (pow_pos (l + 1)) (lit≤ tt) (mul_assoc n (2 ^ l) 2 ∙ ap (λ (x : ℕ). n * x) (sym (pow-add 2 l 1)))

    lower : 2 ^ (z - 1 + i) ≤ n / 2
    unfolding n
    lower =
        (le-div_iff_mul-le (lit≤ tt)).1
        (le_trans (le_of_eq (sym (pow-suc 2 (z - 1 + i)) ∙ ap (λ (x : ℕ). 2 ^ x) (go (z - 1)) ∙ pow-add 2 (z - 1) (suc i)))
        (le_trans (mul-le-mul_right g (size_reaches Q (z - 1) (before z p more))) (le-add_right (Q * g) a)))
      where
        go : (x : ℕ) → suc (x + i) ≡ x + suc i
        go x = omega arith

        before : (x y : ℕ) → y < x → x - 1 < x
        before x y h = omega arith

    upper : n / 2 < 2 ^ suc (z - 1 + i)
    unfolding n
    upper =
        (div-lt_iff_lt-mul (lit≤ tt)).1
        (lt_of_lt_of_le (under (Q * g) a A)
        (le_trans (le_of_eq (sym (suc-mul Q g))) (le_trans (mul-le-mul_right g (size-lt Q))
        (le_of_eq (sym (pow-add 2 z (suc i)) ∙ ap (λ (x : ℕ). 2 ^ x) (go z p more) ∙ pow-suc 2 (suc (z - 1 + i)))))))
      where
        go : (x y : ℕ) → y < x → x + suc i ≡ suc (suc (x - 1 + i))
        go x y h = omega arith

        under : (x y : ℕ) → y < g → x + y < x + g
        under x y h = omega arith

    drop_is : size (n * 2 ^ l / 2 ^ (l + 1)) - p ≡ k
    unfolding n
    drop_is = ap (λ (x : ℕ). size x - p) whole ∙ ap (λ (x : ℕ). x - p) (size_exact (z - 1 + i) (n / 2) lower upper) ∙ go z p more
      where
        go : (x y : ℕ) → y < x → suc (x - 1 + i) - y ≡ x + i - y
        go x y h = omega arith

    abbrev c : ℕ
    c = 2 ^ (k - suc i)

    unit : 2 ^ suc k ≡ 2 * c * g
    unit = pow-succ' 2 k ∙ ap (λ (x : ℕ). 2 * x) (ap (λ (x : ℕ). 2 ^ x) (back k (suc i) room) ∙ pow-add 2 (k - suc i) (suc i)) ∙ sym (mul_assoc 2 c g)
      where
        back : (x y : ℕ) → y ≤ x → x ≡ x - y + y
        back x y h = omega arith

    rounds : round f s (Q * g + a) (2 ^ (l + 1)) ≡ units f s (closest (Q * g + a) (2 * c * g)) k
    unfolding n
    rounds =
        round_is f s n (2 ^ (l + 1))
        ∙ ap (λ (x : ℕ). units f s (closest (n * 2 ^ l) (2 ^ (l + 1) * 2 ^ x)) x) drop_is
        ∙ ap (λ (x : ℕ). units f s x k)
        (closest_same (n * 2 ^ l) (2 ^ (l + 1) * 2 ^ k) n (2 ^ suc k) (mul-pos (pow_pos (l + 1)) (pow_pos k)) (pow_pos (suc k))
        (mul_assoc n (2 ^ l) (2 ^ suc k) ∙ ap (λ (x : ℕ). n * x) (sym (pow-add 2 l (suc k)) ∙ ap (λ (x : ℕ). 2 ^ x) (go l k) ∙ pow-add 2 (l + 1) k))
        ∙ ap (λ (x : ℕ). closest n x) unit)
      where
        go : (x y : ℕ) → x + suc y ≡ x + 1 + y
        go x y = omega arith

  pub round_between : (a b : ℕ) → 0 < a → a < g → 0 < b → b < g → round f s (Q * g + a) (2 ^ (l + 1)) ≡ round f s (Q * g + b) (2 ^ (l + 1))
  round_between a b P A P' B =
      rounds a A
      ∙ ap (λ (x : ℕ). units f s x k) (closest_between Q g (2 ^ (k - suc i)) (pow_pos (k - suc i)) a b P A P' B)
      ∙ sym (rounds b B)
