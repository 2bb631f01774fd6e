-- The tests at the door, as the code makes them: finite, above zero, a duration. Assumes nothing.
use mathlib.Core.Path.{◌≡◌, refl, sym, ap, ◌∙◌, subst}
use Prim.Native.Nat.{ℕ, ◌*◌, ◌≤◌, ◌<◌, zero-le}
use native.Mathlib.Nat.{lt_of_le_of_lt, lt_irrefl, zero-lt-suc, mul-pos}
use native.Mathlib.Omega.{arith}
use mathlib.Core.Bool.{Bool, true, false, not, cond}
use lib.Dec.{T, ltb, nltb→le, ltb→lt, lt→ltb, not_T}
use lib.Ieee.{Float, nan, inf, fin, up, down, le, lt, is_nan, of_bits}
use lib.Ieee.Fits.{up_pos}
use lib.Ieee.Bits.{is_true, is_false}
use lib.Ieee.Positive.{positive, first_pos}
use lib.Ieee.Scale.{finite}
use Rattle.ranges.specs.Interval.{In}
use Rattle.ranges.specs.Limits.{nought, duration_min, duration_max, duration_refusal}
use Rattle.ranges.proofs.Compare.{nlt→le, le→nlt}
use Rattle.ranges.proofs.Durations.{duration_finite}
use Rattle.ranges.proofs.Signed.{finite_number}

-- ---- 0 < x and x < ∞, as the code tests it
pub positive_is : (x : Float) → T (lt nought x) → lt x (inf false) ≡ positive x
unfolding lt
positive_is nan h = absurd h
positive_is (inf true) h = absurd h
positive_is (inf false) h = refl
positive_is (fin true m e) h = absurd h
positive_is (fin false m e) h = sym (is_true (ltb 0 m) (lt→ltb 0 m (first_pos m (up e) (first_pos (m * up e) 1 (lt_of_le_of_lt zero-le (ltb→lt (0 * down e) (m * up e * 1) h))))))

pub not_positive : (x : Float) → T (not (lt nought x)) → false ≡ positive x
unfolding lt
not_positive nan h = refl
not_positive (inf true) h = refl
not_positive (inf false) h = refl
not_positive (fin true m e) h = refl
not_positive (fin false m e) h = sym (is_false (ltb 0 m) (not_T (ltb 0 m) (λ t. clash (m * up e) (down e) (mul-pos (ltb→lt 0 m t) (up_pos e)) (nltb→le (0 * down e) (m * up e * 1) h))))
  where
    clash : (a d : ℕ) → 0 < a → a * 1 ≤ 0 * d → ⊥
    clash a d p q = omega arith

-- ---- the refusal of a duration, by what the tests gave
pub refusal_is : (x : Float) (a b c : Bool) → finite x ≡ a → lt x duration_min ≡ b → lt duration_max x ≡ c → cond (not a) 5 (cond b 6 (cond c 7 0)) ≡ duration_refusal x
refusal_is x a b c p q r =
    sym (ap (λ (z : Bool). cond (not z) 5 (cond (lt x duration_min) 6 (cond (lt duration_max x) 7 0))) p
    ∙ ap (λ (z : Bool). cond (not a) 5 (cond z 6 (cond (lt duration_max x) 7 0))) q
    ∙ ap (λ (z : Bool). cond (not a) 5 (cond b 6 (cond z 7 0))) r)

-- what is not refused is a duration
pub unrefused_in : (x : Float) → duration_refusal x ≡ 0 → In duration_min duration_max x
unfolding is_nan of_bits
unrefused_in x e = go (finite x) (lt x duration_min) (lt duration_max x) (finite_number x) (λ n. nlt→le x duration_min n tt) (λ n. nlt→le duration_max x tt n) e
  where
    go : (a b c : Bool) → (T a → T (not (is_nan x))) → (T (not (is_nan x)) → T (not b) → T (le duration_min x)) → (T (not (is_nan x)) → T (not c) → T (le x duration_max)) → ◌≡◌ {A = ℕ} (cond (not a) 5 (cond b 6 (cond c 7 0))) 0 → In duration_min duration_max x
    go true false false n l h e = (l (n tt) tt, h (n tt) tt)
    go true false true n l h e = absurd (lt_irrefl 0 (subst (λ (z : ℕ). 0 < z) e (zero-lt-suc 6)))
    go true true c n l h e = absurd (lt_irrefl 0 (subst (λ (z : ℕ). 0 < z) e (zero-lt-suc 5)))
    go false b c n l h e = absurd (lt_irrefl 0 (subst (λ (z : ℕ). 0 < z) e (zero-lt-suc 4)))

-- and a duration is not refused
pub in_unrefused : (x : Float) → In duration_min duration_max x → duration_refusal x ≡ 0
in_unrefused x i =
    sym (refusal_is x true false false (is_true (finite x) (duration_finite x i)) (is_false (lt x duration_min) (le→nlt duration_min x i.0)) (is_false (lt duration_max x) (le→nlt x duration_max i.1)))
