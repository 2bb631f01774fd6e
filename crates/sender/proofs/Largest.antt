-- No finite f32 is above the largest. Assumes nothing.
use mathlib.Core.Path.{◌≡◌, refl, sym, ap, ◌∙◌, subst}
use mathlib.Core.Logic.{inl, inr}
use mathlib.Core.Bool.{true, false}
use Prim.Native.Nat.{ℕ, zero, suc, ◌+◌, ◌-◌, ◌*◌, ◌^◌, ◌≤◌, ◌<◌}
use native.Mathlib.Nat.{mul-le-mul, mul-le-mul_right, mul_assoc, mul_comm, mul-one, add-sub_of_le, lt_of_mul-lt-mul_right, le_of_lt}
use native.Mathlib.Omega.{arith}
use lib.IntN.{ℤ, pos, negsuc}
use lib.Dec.{T, leb, leb→le, nleb→lt}
use lib.Pow.{pow_pos, pow-add, le_ones}
use lib.Ieee.{Float, nan, inf, fin, binary32, up, down, le, fits, of_bits}
use lib.Ieee.Scale.{finite}
use Rattle.ranges.proofs.Signed.{signed→le}
use Rattle.ranges.proofs.Own.{fits_parts}
use Rattle.ranges.proofs.Compare.{either}

-- 2 ^ 128 - 2 ^ 104, as the bits 7F7FFFFF have it
abbrev pub largest : Float
largest = fin false 16777215 (pos 104)

-- ---- in numbers: m below 2 ^ p
most : (p m : ℕ) → m < 2 ^ p → m ≤ 2 ^ p - 1
most p m h = le_ones p h

-- 2 ^ k is no more than 2 ^ t
low_power : (p m k t : ℕ) → m < 2 ^ p → k ≤ t → m * 2 ^ k ≤ (2 ^ p - 1) * 2 ^ t
low_power p m k t h l =
    subst (λ (z : ℕ). m * 2 ^ k ≤ (2 ^ p - 1) * 2 ^ z) (add-sub_of_le l)
    (subst (λ (z : ℕ). m * 2 ^ k ≤ (2 ^ p - 1) * z) (sym (pow-add 2 k (t - k)))
    (mul-le-mul (most p m h) (subst (λ (z : ℕ). z ≤ 2 ^ k * 2 ^ (t - k)) (mul-one (2 ^ k)) (mul-le-mul {n₁ = 2 ^ k} {m₁ = 1} {n₂ = 2 ^ k} {m₂ = 2 ^ (t - k)} (omega arith) (pow_pos (t - k))))))

-- 2 ^ t is no more than 2 ^ k
high_power : (p m k t : ℕ) → t ≤ k → m * 2 ^ k < 2 ^ p * 2 ^ t → m * 2 ^ k ≤ (2 ^ p - 1) * 2 ^ t
high_power p m k t l h =
    let q = m * 2 ^ (k - t) in
    let e : m * 2 ^ k ≡ q * 2 ^ t =
    ap (λ (z : ℕ). m * 2 ^ z) (sym (add-sub_of_le l)) ∙ ap (λ (z : ℕ). m * z) (pow-add 2 t (k - t) ∙ mul_comm (2 ^ t) (2 ^ (k - t))) ∙ sym (mul_assoc m (2 ^ (k - t)) (2 ^ t)) in
    subst (λ (z : ℕ). z ≤ (2 ^ p - 1) * 2 ^ t) (sym e) (mul-le-mul_right (2 ^ t) (most p q (lt_of_mul-lt-mul_right (2 ^ t) (subst (λ (z : ℕ). z < 2 ^ p * 2 ^ t) e h))))

power : (p m k t : ℕ) → m < 2 ^ p → m * 2 ^ k < 2 ^ p * 2 ^ t → m * 2 ^ k ≤ (2 ^ p - 1) * 2 ^ t
power p m k t h l = elim (either (leb k t)) [ inl y ↦ low_power p m k t h (leb→le k t y) | inr n ↦ high_power p m k t (le_of_lt (nleb→lt k t n)) l ]

-- m itself is no more than m times what is at least 1, twice
small : (a b c d : ℕ) → a ≤ b → 0 < c → 0 < d → a * 1 ≤ b * c * d
small a b c d h p q = mul-le-mul (subst (λ (z : ℕ). z ≤ b * c) (mul-one a) (mul-le-mul h p)) q

-- ---- of floats
numbers : (m : ℕ) (e : ℤ) → m < 2 ^ 24 → m * up e < 2 ^ 128 * down e → m * up e ≤ 16777215 * 2 ^ 104 * down e
numbers m (pos k) h l = subst (λ (z : ℕ). m * 2 ^ k ≤ z) (sym (mul-one (16777215 * 2 ^ 104))) (power 24 m k 104 h (subst (λ (z : ℕ). m * 2 ^ k < z) (mul-one (2 ^ 128)) l))
numbers m (negsuc k) h l = small m 16777215 (2 ^ 104) (2 ^ suc k) (le_ones 24 h) (pow_pos 104) (pow_pos (suc k))

level : (a p d : ℕ) → a ≤ p * d → a * 1 + 0 * d ≤ p * d + 0 * 1
level a p d h = omega arith

under : (p d n : ℕ) → 0 * 1 + 0 * d ≤ p * d + n * 1
under p d n = omega arith

nothing : (u q : ℕ) → 0 * u ≤ q
nothing u q = omega arith

pub finite_most : (v : Float) → T (fits binary32 v) → T (finite v) → T (le v largest)
finite_most nan F p = absurd p
finite_most (inf s) F p = absurd p
finite_most (fin true m e) F p = signed→le (fin true m e) largest tt tt (under (16777215 * 2 ^ 104) (down e) (m * up e))
finite_most (fin false zero e) F p = signed→le (fin false zero e) largest tt tt (level (0 * up e) (16777215 * 2 ^ 104) (down e) (nothing (up e) (16777215 * 2 ^ 104 * down e)))
finite_most (fin false (suc m) e) F p = let w = fits_parts binary32 false m e F in signed→le (fin false (suc m) e) largest tt tt (level (suc m * up e) (16777215 * 2 ^ 104) (down e) (numbers (suc m) e w.0 w.2))

pub largest_is : of_bits binary32 0x7f7f_ffff ≡ largest
unfolding of_bits
largest_is = refl
