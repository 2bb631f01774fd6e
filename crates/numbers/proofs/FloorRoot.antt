-- `floor_root n` is the largest r with r * r ≤ n. Assumes nothing.
use Rattle.std.proofs.Common.{◌≡◌, ℕ, zero, suc, ◌+◌, ◌*◌, ◌/◌, ◌^◌, ◌<◌, ◌≤◌, Bool, true, false, cond, not, T, leb, sym, refl, ◌∙◌, subst, le_trans, le_of_eq, le_refl, lt_of_lt_of_le, mul-le-mul_right, zero-lt-suc, mul_comm, div-lt_iff_lt-mul, mul-le-mul_left, lt_of_not-le, not-le_of_lt, arith, leb→le}
use native.Mathlib.Nat.{pow-succ'}
use lib.Dec.{nleb→lt}
use lib.Ieee.{size}
use lib.Ieee.Digits.{size-lt}
use Rattle.numbers.specs.Root.{root_in, floor_root}

pub square_mono : (a b : ℕ) → a ≤ b → a * a ≤ b * b
square_mono a b h = le_trans (mul-le-mul_left a h) (mul-le-mul_right b h)

pub square_lt_back : (a b : ℕ) → a * a < b * b → a < b
square_lt_back a b h = lt_of_not-le (λ (g : b ≤ a). not-le_of_lt h (square_mono b a g))

abbrev pub IsRoot : ℕ → ℕ → Type 0
IsRoot n r = (r * r ≤ n) × (n < suc r * suc r)

step : (n s q : ℕ) → n / 4 ≡ q → IsRoot q s → IsRoot n (cond (leb ((2 * s + 1) * (2 * s + 1)) n) (2 * s + 1) (2 * s))
step n s q e h = go (leb ((2 * s + 1) * (2 * s + 1)) n) (leb→le ((2 * s + 1) * (2 * s + 1)) n) (nleb→lt ((2 * s + 1) * (2 * s + 1)) n)
  where
    four : n < 4 * q + 4
    four = omega arith

    lower : 4 * q ≤ n
    lower = omega arith

    top : n < suc (2 * s + 1) * suc (2 * s + 1)
    top = let a = h.1 in let b = four in omega arith

    low : 2 * s * (2 * s) ≤ n
    low = let a = h.0 in let b = lower in omega arith

    mid : n < (2 * s + 1) * (2 * s + 1) → n < suc (2 * s) * suc (2 * s)
    mid l = omega arith

    go : (b : Bool) → (T b → (2 * s + 1) * (2 * s + 1) ≤ n) → (T (not b) → n < (2 * s + 1) * (2 * s + 1)) → IsRoot n (cond b (2 * s + 1) (2 * s))
    go true y z = (y tt, top)
    go false y z = (low, mid (z tt))

is_root_in : (d n : ℕ) → n < 4 ^ d → IsRoot n (root_in d n)
unfolding root_in
is_root_in zero n h = (omega arith, omega arith)
is_root_in (suc d) n h =
    step n (root_in d (n / 4)) (n / 4) refl
    (is_root_in d (n / 4) ((div-lt_iff_lt-mul (zero-lt-suc 3)).1 (subst (λ (x : ℕ). n < x) (pow-succ' 4 d ∙ mul_comm 4 (4 ^ d)) h)))

two_four : (k : ℕ) → 2 ^ k ≤ 4 ^ k
two_four zero = le_refl 1
two_four (suc k) = le_trans (le_of_eq (pow-succ' 2 k)) (le_trans (go (2 ^ k) (4 ^ k) (two_four k)) (le_of_eq (sym (pow-succ' 4 k))))
  where
    go : (a b : ℕ) → a ≤ b → 2 * a ≤ 4 * b
    go a b h = omega arith

pub floor_root_law : (n : ℕ) → IsRoot n (floor_root n)
unfolding floor_root
floor_root_law n = is_root_in (size n) n (lt_of_lt_of_le (size-lt n) (two_four (size n)))
