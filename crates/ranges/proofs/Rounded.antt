-- Rounding is monotone over signed fractions: `Rounded f z p n c` says that z is (p - n) / c rounded to the format f. Each operation on finite values is one. Assumes nothing.
use mathlib.Core.Path.{◌≡◌, refl, sym, ap, ◌∙◌, subst}
use Prim.Native.Nat.{ℕ, zero, suc, ◌+◌, ◌-◌, ◌*◌, ◌^◌, ◌≤◌, ◌<◌}
use native.Mathlib.Nat.{zero-mul, mul-pos, lt_irrefl, eq_of_mul-eq-mul_right}
use native.Mathlib.Omega.{arith}
use mathlib.Core.Bool.{Bool, true, false, not, beq, cond, true≢false, false≢true}
use lib.IntN.{ℤ}
use lib.Dec.{T, ltb, eqb, ltb→lt, nltb→le, eqb-suc-zero}
use lib.Pow.{pow_pos}
use lib.Ieee.{Float, nan, inf, fin, Format, prec, emax, low, unlike, up, down, odd, units, round, neg, sum, add, sub, mul, div, le, is_nan}
use lib.Ieee.Fits.{up_pos, down_pos, round_is}
use lib.Ieee.Exact.{HasValue, round_exact}
use lib.Ieee.Order.{round_mono}
use lib.Ieee.Scale.{finite}
use lib.Ieee.Positive.{den, positive, positive-finite}
use Rattle.ranges.proofs.Signed.{ps, ng, from_signs, signed→le, le_neg, neg_neg, neg_finite, neg_ps, neg_ng, neg_den, nonneg, nonneg_finite, nonneg_ng}

-- ---- `round`'s sign, and its negation
abbrev Sign : Bool → Float → Type 0
Sign s nan = ⊥
Sign s (inf t) = t ≡ s
Sign s (fin t m e) = t ≡ s

odd_sign : (d : ℕ) (s : Bool) (q k l : ℕ) → Sign s (odd d s q k l)
unfolding odd
odd_sign d s zero k l = refl
odd_sign d s (suc q) k l = refl

neg_odd : (d q k l : ℕ) → neg (odd d false q k l) ≡ odd d true q k l
unfolding neg odd
neg_odd d zero k l = refl
neg_odd d (suc q) k l = refl

units_sign : (f : Format) (s : Bool) (q k : ℕ) → Sign s (units f s q k)
unfolding units
units_sign f s q k = go (ltb (q * 2 ^ k) (2 ^ (low f + suc (emax f))))
  where
    go : (b : Bool) → Sign s (cond b (odd (suc (prec f)) s q k (low f)) (inf s))
    go true = odd_sign (suc (prec f)) s q k (low f)
    go false = refl

neg_units : (f : Format) (q k : ℕ) → neg (units f false q k) ≡ units f true q k
unfolding units neg
neg_units f q k = go (ltb (q * 2 ^ k) (2 ^ (low f + suc (emax f))))
  where
    go : (b : Bool) → neg (cond b (odd (suc (prec f)) false q k (low f)) (inf false)) ≡ cond b (odd (suc (prec f)) true q k (low f)) (inf true)
    go true = neg_odd (suc (prec f)) q k (low f)
    go false = refl

round_sign : (f : Format) (s : Bool) (a c : ℕ) → Sign s (round f s a c)
round_sign f s a c = subst (Sign s) (sym (round_is f s a c)) (units_sign f s _ _)

pub neg_round : (f : Format) (a c : ℕ) → neg (round f false a c) ≡ round f true a c
neg_round f a c = ap neg (round_is f false a c) ∙ neg_units f _ _ ∙ sym (round_is f true a c)

-- what is not above zero is at most what is not below zero
split_signs : (x y : Float) → Sign true x → Sign false y → T (le x y)
unfolding le
split_signs nan y p q = absurd p
split_signs (inf s) nan p q = absurd q
split_signs (inf true) (inf false) p q = tt
split_signs (inf true) (inf true) p q = absurd (true≢false q)
split_signs (inf false) (inf t) p q = absurd (false≢true p)
split_signs (inf true) (fin t n d) p q = tt
split_signs (inf false) (fin t n d) p q = absurd (false≢true p)
split_signs (fin s m e) nan p q = absurd q
split_signs (fin s m e) (inf true) p q = absurd (true≢false q)
split_signs (fin s m e) (inf false) p q = tt
split_signs (fin true m e) (fin false n d) p q = from_signs (m * up e * down d) (n * up d * down e)
split_signs (fin false m e) (fin t n d) p q = absurd (false≢true p)
split_signs (fin true m e) (fin true n d) p q = absurd (true≢false q)

-- ---- a zero rounds to a zero
round_zero : (f : Format) (s : Bool) (c : ℕ) → 0 < c → HasValue (round f s 0 c) s 0 c
round_zero f s c C = round_exact f s 0 c 0 0 C (pow_pos (prec f)) (pow_pos (low f + suc (emax f))) (omega arith)

no_factor : (m c : ℕ) → 0 < c → m * c ≡ 0 → m ≡ 0
no_factor m c C h = eq_of_mul-eq-mul_right c C m 0 (h ∙ sym (zero-mul c))

at_zero : (x y : Float) (c d : ℕ) → 0 < c → 0 < d → HasValue x false 0 c → HasValue y true 0 d → T (le x y)
at_zero nan y c d C D p q = absurd p
at_zero (inf s) y c d C D p q = absurd p
at_zero (fin s m e) nan c d C D p q = absurd q
at_zero (fin s m e) (inf t) c d C D p q = absurd q
at_zero (fin true m e) (fin t n g) c d C D p q = absurd (true≢false p.0)
at_zero (fin false m e) (fin false n g) c d C D p q = absurd (false≢true q.0)
at_zero (fin false m e) (fin true n g) c d C D p q =
    let a = ap (λ (z : ℕ). z * down g) (no_factor (m * up e) c C (p.1 ∙ zero-mul (down e))) in
    let b = ap (λ (z : ℕ). z * down e) (no_factor (n * up g) d D (q.1 ∙ zero-mul (down g))) in
    signed→le (fin false m e) (fin true n g) tt tt (omega arith)

-- ---- a rounded signed fraction: z is (p - n) / c rounded
abbrev pub Diff : Bool → ℕ → ℕ → ℕ → Type 0
Diff false m p n = p ≡ n + m
Diff true m p n = n ≡ p + m

abbrev pub Rounded : Format → Float → ℕ → ℕ → ℕ → Type 0
Rounded f z p n c = (s : Bool) × (m : ℕ) × (z ≡ round f s m c) × Diff s m p n × (0 < c)

round_le : (f : Format) (s : Bool) (m c p n : ℕ) (t : Bool) (m' c' p' n' : ℕ) → Diff s m p n → Diff t m' p' n' → 0 < c → 0 < c' → p * c' + n' * c ≤ p' * c + n * c' → T (le (round f s m c) (round f t m' c'))
round_le f false m c p n false m' c' p' n' x y C C' h =
    let a = ap (λ (z : ℕ). z * c') x in
    let b = ap (λ (z : ℕ). z * c) y in
    round_mono f m c m' c' C C' (omega arith)
round_le f true m c p n true m' c' p' n' x y C C' h =
    let a = ap (λ (z : ℕ). z * c') x in
    let b = ap (λ (z : ℕ). z * c) y in
    subst (λ (z : Float). T (le z (round f true m' c'))) (neg_round f m c)
    (subst (λ (z : Float). T (le (neg (round f false m c)) z)) (neg_round f m' c')
    (le_neg (round f false m' c') (round f false m c) (round_mono f m' c' m c C' C (omega arith))))
round_le f true m c p n false m' c' p' n' x y C C' h = split_signs (round f true m c) (round f false m' c') (round_sign f true m c) (round_sign f false m' c')
round_le f false m c p n true m' c' p' n' x y C C' h =
    let a = ap (λ (z : ℕ). z * c') x in
    let b = ap (λ (z : ℕ). z * c) y in
    let u : m ≡ 0 = no_factor m c' C' (omega arith) in
    let v : m' ≡ 0 = no_factor m' c C (omega arith) in
    subst (λ (z : ℕ). T (le (round f false z c) (round f true m' c'))) (sym u)
    (subst (λ (z : ℕ). T (le (round f false 0 c) (round f true z c'))) (sym v)
    (at_zero (round f false 0 c) (round f true 0 c') c c' C C' (round_zero f false c C) (round_zero f true c' C')))

pub rounded_mono : (f : Format) (z z' : Float) (p n c p' n' c' : ℕ) → Rounded f z p n c → Rounded f z' p' n' c' → p * c' + n' * c ≤ p' * c + n * c' → T (le z z')
rounded_mono f z z' p n c p' n' c' r r' h =
    subst (λ (y : Float). T (le y z')) (sym r.2)
    (subst (λ (y : Float). T (le (round f r.0 r.1 c) y)) (sym r'.2)
    (round_le f r.0 r.1 c p n r'.0 r'.1 c' p' n' r.3 r'.3 r.4 r'.4 h))

-- ---- the operations on finite values, as rounded signed fractions
-- a sum of unlike signs
unlike_sum : (f : Format) (t u : Bool) (a b c : ℕ) → 0 < c → (T t → a < b) → (T (not t) → b ≤ a) → (T u → b < a) → (T (not u) → a ≤ b)
    → Rounded f (cond t (round f false (b - a) c) (round f u (a - b) c)) b a c
unlike_sum f true u a b c C h k i j = let l : a < b = h tt in (false, b - a, refl, omega arith, C)
unlike_sum f false true a b c C h k i j = let l : b ≤ a = k tt in (true, a - b, refl, omega arith, C)
unlike_sum f false false a b c C h k i j =
    let l : b ≤ a = k tt in
    let o : a ≤ b = j tt in
    (false, a - b, refl, omega arith, C)

minus_sum : (f : Format) (t : Bool) (a b c : ℕ) → 0 < c → (T t → a < b) → (T (not t) → b ≤ a) → Rounded f (cond t (round f true (b - a) c) (round f false (a - b) c)) a b c
minus_sum f true a b c C h k = let l : a < b = h tt in (true, b - a, refl, omega arith, C)
minus_sum f false a b c C h k = let l : b ≤ a = k tt in (false, a - b, refl, omega arith, C)

recast : (f : Format) (z : Float) (p n c p' n' c' : ℕ) → p ≡ p' → n ≡ n' → c ≡ c' → Rounded f z p n c → Rounded f z p' n' c'
recast f z p n c p' n' c' a b d r =
    subst (λ (x : ℕ). Rounded f z x n' c') a (subst (λ (x : ℕ). Rounded f z p x c') b (subst (λ (x : ℕ). Rounded f z p n x) d r))

pub add_rounded : (f : Format) (x y : Float) → T (finite x) → T (finite y) → Rounded f (add f x y) (ps x * den y + ps y * den x) (ng x * den y + ng y * den x) (den x * den y)
unfolding add sum
add_rounded f nan y p q = absurd p
add_rounded f (inf s) y p q = absurd p
add_rounded f (fin s m e) nan p q = absurd q
add_rounded f (fin s m e) (inf t) p q = absurd q
add_rounded f (fin false m e) (fin false n d) p q = (false, m * up e * down d + n * up d * down e, refl, omega arith, mul-pos (down_pos e) (down_pos d))
add_rounded f (fin true m e) (fin true n d) p q = (true, m * up e * down d + n * up d * down e, refl, omega arith, mul-pos (down_pos e) (down_pos d))
add_rounded f (fin true m e) (fin false n d) p q =
    let a = m * up e * down d in
    let b = n * up d * down e in
    let c = down e * down d in
    recast f (cond (ltb a b) (round f false (b - a) c) (round f (ltb b a) (a - b) c)) b a c _ _ c (omega arith) (omega arith) refl
    (unlike_sum f (ltb a b) (ltb b a) a b c (mul-pos (down_pos e) (down_pos d)) (ltb→lt a b) (nltb→le a b) (ltb→lt b a) (nltb→le b a))
add_rounded f (fin false m e) (fin true n d) p q =
    let a = m * up e * down d in
    let b = n * up d * down e in
    let c = down e * down d in
    recast f (cond (ltb a b) (round f true (b - a) c) (round f false (a - b) c)) a b c _ _ c (omega arith) (omega arith) refl
    (minus_sum f (ltb a b) a b c (mul-pos (down_pos e) (down_pos d)) (ltb→lt a b) (nltb→le a b))

pub mul_rounded : (f : Format) (x y : Float) → T (finite x) → T (finite y) → Rounded f (mul f x y) (ps x * ps y + ng x * ng y) (ps x * ng y + ng x * ps y) (den x * den y)
unfolding mul
mul_rounded f nan y p q = absurd p
mul_rounded f (inf s) y p q = absurd p
mul_rounded f (fin s m e) nan p q = absurd q
mul_rounded f (fin s m e) (inf t) p q = absurd q
mul_rounded f (fin false m e) (fin false n d) p q = (false, m * up e * (n * up d), refl, omega arith, mul-pos (down_pos e) (down_pos d))
mul_rounded f (fin true m e) (fin true n d) p q = (false, m * up e * (n * up d), refl, omega arith, mul-pos (down_pos e) (down_pos d))
mul_rounded f (fin true m e) (fin false n d) p q = (true, m * up e * (n * up d), refl, omega arith, mul-pos (down_pos e) (down_pos d))
mul_rounded f (fin false m e) (fin true n d) p q = (true, m * up e * (n * up d), refl, omega arith, mul-pos (down_pos e) (down_pos d))

-- by a positive divisor
div_open : (f : Format) (s : Bool) (m : ℕ) (e : ℤ) (n : ℕ) (d : ℤ) → 0 < n → div f (fin s m e) (fin false n d) ≡ round f (not (beq s false)) (m * up e * down d) (n * up d * down e)
unfolding div
div_open f s m e zero d h = absurd (lt_irrefl 0 h)
div_open f s m e (suc n) d h = ap (λ (b : Bool). cond b (cond (eqb m 0) nan (inf (not (beq s false)))) (round f (not (beq s false)) (m * up e * down d) (suc n * up d * down e))) (eqb-suc-zero n)

pub div_rounded : (f : Format) (x y : Float) → T (finite x) → T (positive y) → Rounded f (div f x y) (ps x * den y) (ng x * den y) (ps y * den x)
div_rounded f nan y p q = absurd p
div_rounded f (inf s) y p q = absurd p
div_rounded f (fin s m e) nan p q = absurd q
div_rounded f (fin s m e) (inf t) p q = absurd q
div_rounded f (fin s m e) (fin true n d) p q = absurd q
div_rounded f (fin false m e) (fin false n d) p q =
    let N = ltb→lt 0 n q in
    (false, m * up e * down d, div_open f false m e n d N, omega arith, mul-pos (mul-pos N (up_pos d)) (down_pos e))
div_rounded f (fin true m e) (fin false n d) p q =
    let N = ltb→lt 0 n q in
    (true, m * up e * down d, div_open f true m e n d N, omega arith, mul-pos (mul-pos N (up_pos d)) (down_pos e))

pub sub_is : (f : Format) (x y : Float) → sub f x y ≡ add f x (neg y)
unfolding sub
sub_is f x y = refl

pub sub-rounded : (f : Format) (x y : Float) → T (finite x) → T (finite y) → Rounded f (sub f x y) (ps x * den y + ng y * den x) (ng x * den y + ps y * den x) (den x * den y)
sub-rounded f x y p q =
    subst (λ (z : Float). Rounded f z (ps x * den y + ng y * den x) (ng x * den y + ps y * den x) (den x * den y)) (sym (sub_is f x y))
    (rw (neg_ps, neg_ng, neg_den) at (add_rounded f x (neg y) p (neg_finite y q)))

-- a factor that is not below zero
pub mul_plus : (f : Format) (x y : Float) → T (nonneg x) → T (finite y) → Rounded f (mul f x y) (ps x * ps y) (ps x * ng y) (den x * den y)
mul_plus f x y p q =
    let z = nonneg_ng x p in
    let a = ap (λ (k : ℕ). k * ng y) z in
    let b = ap (λ (k : ℕ). k * ps y) z in
    recast f (mul f x y) _ _ _ (ps x * ps y) (ps x * ng y) _ (omega arith) (omega arith) refl (mul_rounded f x y (nonneg_finite x p) q)

-- ---- the negation of a rounded fraction
flip : (f : Format) (z : Float) (s : Bool) (p n c m : ℕ) → z ≡ round f s m c → Diff s m p n → 0 < c → Rounded f (neg z) n p c
flip f z false p n c m e d C = (true, m, ap neg e ∙ neg_round f m c, d, C)
flip f z true p n c m e d C = (false, m, ap neg (e ∙ sym (neg_round f m c)) ∙ neg_neg (round f false m c), d, C)

pub rounded_neg : (f : Format) (z : Float) (p n c : ℕ) → Rounded f z p n c → Rounded f (neg z) n p c
rounded_neg f z p n c r = flip f z r.0 p n c r.1 r.2 r.3 r.4

-- ---- a rounded fraction is a number
sign_number : (s : Bool) (z : Float) → Sign s z → T (not (is_nan z))
unfolding is_nan
sign_number s nan h = absurd h
sign_number s (inf t) h = tt
sign_number s (fin t m e) h = tt

pub rounded_number : (f : Format) (z : Float) (p n c : ℕ) → Rounded f z p n c → T (not (is_nan z))
rounded_number f z p n c r = sign_number r.0 z (subst (Sign r.0) (sym r.2) (round_sign f r.0 r.1 c))

pub sub_number : (f : Format) (x y : Float) → T (finite x) → T (finite y) → T (not (is_nan (sub f x y)))
sub_number f x y p q = rounded_number f (sub f x y) _ _ _ (sub-rounded f x y p q)

pub div_number : (f : Format) (x y : Float) → T (finite x) → T (positive y) → T (not (is_nan (div f x y)))
div_number f x y p q = rounded_number f (div f x y) _ _ _ (div_rounded f x y p q)

-- a factor above zero, also of an infinity
plain : (b s : Bool) → b ≡ false → T (not (is_nan (cond b nan (inf (unlike false s)))))
unfolding is_nan
plain true s e = absurd (true≢false e)
plain false s e = tt

pub scaled_number : (f : Format) (k x : Float) → T (positive k) → T (not (is_nan x)) → T (not (is_nan (mul f k x)))
scaled_number f k nan p q = absurd (unfold is_nan in q)
scaled_number f k (inf s) p q = by_infinity k p
  where
    by_infinity : (k : Float) → T (positive k) → T (not (is_nan (mul f k (inf s))))
    by_infinity nan p = absurd p
    by_infinity (inf t) p = absurd p
    by_infinity (fin true m e) p = absurd p
    by_infinity (fin false zero e) p = absurd p
    by_infinity (fin false (suc m) e) p = unfold mul in plain (eqb (suc m) 0) s (eqb-suc-zero m)
scaled_number f k (fin s m e) p q = rounded_number f (mul f k (fin s m e)) _ _ _ (mul_rounded f k (fin s m e) (positive-finite k p) tt)
