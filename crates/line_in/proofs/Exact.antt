-- The numbers of a line as f32. Assumes nothing.
use mathlib.Core.Path.{◌≡◌, refl, sym, ap, ◌∙◌, subst}
use mathlib.Core.Bool.{Bool, true, false}
use Prim.Native.Nat.{ℕ, min, ◌+◌, ◌*◌, ◌^◌, ◌≤◌, ◌<◌}
use native.Mathlib.Nat.{lt_of_lt_of_le, mul-one, mul_assoc, mul_comm, mul-pos}
use native.Mathlib.Omega.{arith}
use lib.Dec.{T, ltb, le→leb, lit<, lit≤}
use lib.Pow.{pow_mono, shl_lt}
use lib.IntN.{pos}
use lib.Ieee.{Float, nan, inf, fin, binary32, up, down, size, round, of_int, of_bits, div, lt, in_float}
use lib.Ieee.Fits.{down_pos}
use lib.Ieee.Scale.{round_same}
use lib.Ieee.Exact.{HasValue, round_exact}
use borrow.Author.Tests.{lt-ltb, le-ltb, ltb-true, ltb-false}
use Rattle.ranges.specs.Limits.{duration_refusal}
use Rattle.line_in.specs.Exact.{Exact}
use Rattle.line_in.specs.Form.{capped, ticks, whole, sixty_fourths}

-- ---- what a number counts as

pub capped_above : (n : ℕ) → 16777216 < n → capped n ≡ 16777216
capped_above n h = rw (lt-ltb 16777216 n h)

pub capped_within : (n : ℕ) → n ≤ 16777216 → capped n ≡ n
capped_within n h = rw (le-ltb 16777216 n h)

-- the code has the least of the two
pub least : (n : ℕ) → whole (min n 16777216) ≡ whole (capped n)
least n = ap whole (go (ltb 16777216 n) refl)
  where
    go : (b : Bool) → ltb 16777216 n ≡ b → min n 16777216 ≡ capped n
    go true e = let h : 16777216 < n = ltb-true 16777216 n e in rw (capped_above n h) (omega arith)
    go false e = let h : n ≤ 16777216 = ltb-false 16777216 n e in rw (capped_within n h) (omega arith)

pub ticks_above : (n : ℕ) → 16777216 < n → ticks n ≡ 16777218
ticks_above n h = rw (lt-ltb 16777216 n h)

pub ticks_within : (n : ℕ) → n ≤ 16777216 → ticks n ≡ n
ticks_within n h = rw (le-ltb 16777216 n h)

-- ---- the literals of the code: 16777216.0, 64.0, and 262144.03125

pub most : of_bits binary32 0x4b80_0000 ≡ whole 16777216
unfolding whole size round of_int of_bits
most = refl

pub sixty_four : of_bits binary32 0x4280_0000 ≡ whole 64
unfolding whole size round of_int of_bits
sixty_four = refl

pub refused : of_bits binary32 0x4880_0001 ≡ sixty_fourths 16777218
unfolding whole sixty_fourths size round of_int of_bits div
refused = refl

-- ---- up to 16,777,216 a cast to f32 loses nothing

pub fits_float : (n : ℕ) → n ≤ 16777216 → T (in_float binary32 (pos n))
unfolding in_float
fits_float n h = le→leb n 16777216 h

-- ---- no number of a line is changed by rounding

below_top : (n j : ℕ) → n < 2 ^ 24 → j ≤ 149 → n * 2 ^ j < 2 ^ 277
below_top n j h k =
    let e : 24 + j ≤ 277 = omega arith in
    lt_of_lt_of_le (shl_lt 24 j h) (pow_mono e)

-- a fraction with a numerator below 2 ^ 24, over 1 and over 64
over_one : (n : ℕ) → n < 2 ^ 24 → HasValue (round binary32 false n 1) false n 1
over_one n h =
    round_exact binary32 false n 1 n 149 (lit< tt) h (below_top n 149 h (lit≤ tt)) (sym (mul-one (n * 2 ^ 149)))

over_sixty_four : (n : ℕ) → n < 2 ^ 24 → HasValue (round binary32 false n 64) false n 64
over_sixty_four n h =
    round_exact binary32 false n 64 n 143 (lit< tt) h (below_top n 143 h (lit≤ tt)) (sym (mul_assoc n (2 ^ 143) 64))

-- the quotient of a whole number by 64.0 is rounded once
quotient : (x : Float) (n : ℕ) → HasValue x false n 1 → div binary32 x (fin false 1 (pos 6)) ≡ round binary32 false n 64
unfolding div
quotient nan n v = absurd v
quotient (inf s) n v = absurd v
quotient (fin s m e) n v =
    rw v.0
    (round_same binary32 false (m * up e * 1) (64 * down e) n 64 (mul-pos (lit< tt) (down_pos e)) (lit< tt)
    (ap (λ (z : ℕ). z * 64) v.1 ∙ mul_assoc n (down e) 64 ∙ ap (λ (z : ℕ). n * z) (mul_comm (down e) 64)))

-- n and n / 64
record Kept (n : ℕ) : Type 0 where
  in_whole : HasValue (whole n) false n 1
  in_parts : HasValue (sixty_fourths n) false n 64

kept_below : (n : ℕ) → n < 2 ^ 24 → Kept n
unfolding whole sixty_fourths size of_int
kept_below n h =
    record { in_whole = over_one n h; in_parts = rw (quotient (whole n) n (over_one n h)) (over_sixty_four n h) }

kept_most : Kept 16777216
unfolding whole sixty_fourths size round of_int div
kept_most = record { in_whole = (refl, refl); in_parts = (refl, refl) }

kept_refused : Kept 16777218
unfolding whole sixty_fourths size round of_int div
kept_refused = record { in_whole = (refl, refl); in_parts = (refl, refl) }

kept : (n : ℕ) → n ≤ 16777216 → Kept n
kept n h = go (ltb n 16777216) refl
  where
    go : (b : Bool) → ltb n 16777216 ≡ b → Kept n
    go true e = kept_below n (ltb-true n 16777216 e)
    go false e =
        let q : 16777216 ≡ n = omega (arith, ltb-false n 16777216 e) in
        subst Kept q kept_most

by_seven : duration_refusal (sixty_fourths 16777218) ≡ 7
unfolding whole sixty_fourths size round of_int of_bits div lt
by_seven = refl

exact_above : (n : ℕ) → 16777216 < n → Exact n
exact_above n h = record {
  duration = rw (ticks_above n h) kept_refused.in_parts;
  speed = rw (capped_above n h) kept_most.in_whole;
  ratio = rw (capped_above n h) kept_most.in_parts;
  refused = λ k. rw (ticks_above n h) by_seven;
}

exact_within : (n : ℕ) → n ≤ 16777216 → Exact n
exact_within n h = record {
  duration = rw (ticks_within n h) (kept n h).in_parts;
  speed = rw (capped_within n h) (kept n h).in_whole;
  ratio = rw (capped_within n h) (kept n h).in_parts;
  refused = λ k. absurd (omega arith);
}

pub exact : (n : ℕ) → Exact n
exact n = go (ltb 16777216 n) refl
  where
    go : (b : Bool) → ltb 16777216 n ≡ b → Exact n
    go true e = exact_above n (ltb-true 16777216 n e)
    go false e = exact_within n (ltb-false 16777216 n e)
