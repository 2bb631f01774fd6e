-- Worked examples, computed from the definitions of specs/; and that `lead` brings the leading one to bit 31 and loses nothing. Assumes nothing.
use Rattle.std.proofs.Common.{◌≡◌, ℕ, ◌+◌, ◌-◌, ◌*◌, ◌/◌, ◌^◌, ◌<◌, ◌≤◌, sym, refl, ap, ◌∙◌, subst, le_trans, le_of_eq, lt_of_lt_of_le, le_of_suc-le-suc, lt_irrefl, mul-le-mul_right, mul_assoc, mul_comm, div-lt_iff_lt-mul, mul-lt-mul_of_pos_right, lt_of_not-le, le-div_iff_mul-le, mul-div_cancel, arith, pow_pos, pow_mono, pow-add}
use lib.Ieee.{binary32, binary64, of_bits, size, round}
use lib.Ieee.Digits.{size-lt, size-le, size_reaches}
use Rattle.numbers.specs.Values.{narrow}
use Rattle.numbers.specs.Log.{digits, lead, ln_of}
use Rattle.numbers.specs.Root.{root_in, floor_root, root_of, sqrt_of}

-- ---- `lead`
module _ (m : ℕ) (M : 0 < m) (S : m < 2 ^ 32) where
  z_le : size m ≤ 32
  z_le = size-le m 32 S

  -- nothing is lost
  pub lead_exact : lead m * 2 ^ size m ≡ m * 2 ^ 32
  lead_exact = ap (λ (x : ℕ). x / 2 ^ size m * 2 ^ size m) shape ∙ ap (λ (x : ℕ). x * 2 ^ size m) (mul-div_cancel (m * 2 ^ (32 - size m)) (pow_pos (size m))) ∙ sym shape
    where
      back : (x : ℕ) → x ≤ 32 → 32 ≡ 32 - x + x
      back x h = omega arith

      shape : m * 2 ^ 32 ≡ m * 2 ^ (32 - size m) * 2 ^ size m
      shape = ap (λ (x : ℕ). m * 2 ^ x) (back (size m) z_le) ∙ ap (λ (x : ℕ). m * x) (pow-add 2 (32 - size m) (size m)) ∙ sym (mul_assoc m (2 ^ (32 - size m)) (2 ^ size m))

  -- the leading one is at bit 31
  pub lead_lt : lead m < 2 ^ 32
  lead_lt = (div-lt_iff_lt-mul (pow_pos (size m))).1 (subst (λ (x : ℕ). m * 2 ^ 32 < x) (mul_comm (2 ^ size m) (2 ^ 32)) (mul-lt-mul_of_pos_right (size-lt m) (pow_pos 32)))

  z_pos : 0 < size m
  z_pos = lt_of_not-le (λ (g : size m ≤ 0). lt_irrefl 0 (lt_of_lt_of_le M (le_of_suc-le-suc (lt_of_lt_of_le (size-lt m) (pow_mono g)))))

  pub lead_ge : 2 ^ 31 ≤ lead m
  lead_ge =
      (le-div_iff_mul-le (pow_pos (size m))).1
      (le_trans (le_of_eq (sym (pow-add 2 31 (size m)) ∙ ap (λ (x : ℕ). 2 ^ x) (go (size m) z_pos) ∙ pow-add 2 (size m - 1) 32)) (mul-le-mul_right (2 ^ 32) (size_reaches m (size m - 1) (before (size m) z_pos))))
    where
      go : (x : ℕ) → 0 < x → 31 + x ≡ x - 1 + 32
      go x h = omega arith

      before : (x : ℕ) → 0 < x → x - 1 < x
      before x h = omega arith

-- ---- ln 2, ln 1, ln 0.5, ln 3, those of the smallest f32 and of thrice that, the root of 2, and 0.1 as an f32
ln_two : ln_of (of_bits binary32 0x4000_0000) ≡ of_bits binary32 0x3f31_7218
unfolding ln_of digits size round of_bits
ln_two = refl

ln_one : ln_of (of_bits binary32 0x3f80_0000) ≡ of_bits binary32 0
unfolding ln_of digits size round of_bits
ln_one = refl

ln_half : ln_of (of_bits binary32 0x3f00_0000) ≡ of_bits binary32 0xbf31_7218
unfolding ln_of digits size round of_bits
ln_half = refl

ln_three : ln_of (of_bits binary32 0x4040_0000) ≡ of_bits binary32 0x3f8c_9f54
unfolding ln_of digits size round of_bits
ln_three = refl

ln_smallest : ln_of (of_bits binary32 1) ≡ of_bits binary32 0xc2ce_8ed0
unfolding ln_of digits size round of_bits
ln_smallest = refl

ln_subnormal : ln_of (of_bits binary32 3) ≡ of_bits binary32 0xc2cc_5c53
unfolding ln_of digits size round of_bits
ln_subnormal = refl

sqrt_two : sqrt_of binary32 (of_bits binary32 0x4000_0000) ≡ of_bits binary32 0x3fb5_04f3
unfolding sqrt_of root_of floor_root root_in size round of_bits
sqrt_two = refl

sqrt_two_64 : sqrt_of binary64 (of_bits binary64 0x4000_0000_0000_0000) ≡ of_bits binary64 0x3ff6_a09e_667f_3bcd
unfolding sqrt_of root_of floor_root root_in size round of_bits
sqrt_two_64 = refl

-- 0.1
narrow_tenth : narrow (of_bits binary64 0x3fb9_9999_9999_999a) ≡ of_bits binary32 0x3dcc_cccd
unfolding narrow round of_bits
narrow_tenth = refl
