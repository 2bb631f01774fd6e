-- What a comparison in the code says: `<` that passed or failed, `<=` that passed or failed, and `&&`. Assumes nothing.
use mathlib.Core.Path.{◌≡◌, sym, ap, ◌∙◌, subst}
use mathlib.Core.Logic.{◌⊎◌, inl, inr}
use Prim.Native.Nat.{ℕ, ◌<◌, ◌+◌, ◌*◌, ◌≤◌}
use native.Mathlib.Omega.{arith}
use mathlib.Core.Bool.{Bool, true, false, not, ◌&&◌, ◌||◌}
use lib.Dec.{T, T_not, not_T, ltb→lt, eqb, nltb→le}
use lib.Ieee.{Float, nan, inf, fin, up, down, le, lt, eq, is_nan}
use lib.Ieee.Fits.{and_i, and_l, and_r, eq→eqb}
use Rattle.ranges.specs.Interval.{In, within}
use Rattle.ranges.proofs.Signed.{le→signed, from_le, from_ge, from_signs, or_l}

pub lt→le : (x y : Float) → T (lt x y) → T (le x y)
unfolding le
lt→le x y h = or_l (lt x y) (eq x y) h

-- `x < y` failed
pub nlt→le : (x y : Float) → T (not (is_nan x)) → T (not (is_nan y)) → T (not (lt x y)) → T (le y x)
unfolding le lt is_nan
nlt→le nan y p q h = absurd p
nlt→le (inf s) nan p q h = absurd q
nlt→le (inf true) (inf true) p q h = tt
nlt→le (inf true) (inf false) p q h = absurd h
nlt→le (inf false) (inf true) p q h = tt
nlt→le (inf false) (inf false) p q h = tt
nlt→le (inf true) (fin t n d) p q h = absurd h
nlt→le (inf false) (fin t n d) p q h = tt
nlt→le (fin s m e) nan p q h = absurd q
nlt→le (fin s m e) (inf true) p q h = tt
nlt→le (fin s m e) (inf false) p q h = absurd h
nlt→le (fin false m e) (fin false n d) p q h = from_le (n * up d * down e) (m * up e * down d) true tt (nltb→le (m * up e * down d) (n * up d * down e) h)
nlt→le (fin true m e) (fin true n d) p q h = from_ge (n * up d * down e) (m * up e * down d) true tt (nltb→le (n * up d * down e) (m * up e * down d) h)
nlt→le (fin false m e) (fin true n d) p q h = from_signs (n * up d * down e) (m * up e * down d)
nlt→le (fin true m e) (fin false n d) p q h =
    let a = m * up e * down d in
    let b = n * up d * down e in
    let z : a + b ≤ 0 = nltb→le 0 (a + b) h in
    and_i (eqb b a) (eqb b 0) (eq→eqb {a = b} {b = a} (omega arith)) (eq→eqb {a = b} {b = 0} (omega arith))

nor : (a b : Bool) → T (not (a || b)) → T (not a)
nor true b h = h
nor false b h = tt

-- `x <= y` failed
pub nle→le : (x y : Float) → T (not (is_nan x)) → T (not (is_nan y)) → T (not (le x y)) → T (le y x)
unfolding le
nle→le x y p q h = nlt→le x y p q (nor (lt x y) (eq x y) h)

-- ---- a test's outcome, as the proofs of code have it
pub passed : {b : Bool} → b ≡ true → T b
passed e = subst T (sym e) tt

pub failed : {b : Bool} → b ≡ false → T (not b)
failed e = subst (λ (b : Bool). T (not b)) (sym e) tt

-- ---- `a && b` in the code
pub and_taken : (a b : Bool) → a ≡ true → b ≡ (a && b)
and_taken a b e = ap (λ (z : Bool). z && b) (sym e)

pub and_left : (a b : Bool) → a ≡ false → a ≡ (a && b)
and_left a b e = e ∙ ap (λ (z : Bool). z && b) (sym e)

-- ---- either way
pub either : (b : Bool) → T b ⊎ T (not b)
either true = inl tt
either false = inr tt

-- any two numbers are in order one way or the other
pub ordered : (x y : Float) → T (not (is_nan x)) → T (not (is_nan y)) → T (le x y) ⊎ T (le y x)
ordered x y p q = elim (either (lt x y)) [ inl h ↦ inl (lt→le x y h) | inr h ↦ inr (nlt→le x y p q h) ]

clash : (a b : ℕ) → a < b → b ≤ a → ⊥
clash a b h k = omega arith

-- ---- only numbers are in order
pub le_numbers : (x y : Float) → T (le x y) → T (not (is_nan x)) × T (not (is_nan y))
unfolding le is_nan
le_numbers nan y h = absurd h
le_numbers (inf s) nan h = absurd h
le_numbers (inf s) (inf t) h = (tt, tt)
le_numbers (inf s) (fin t n d) h = (tt, tt)
le_numbers (fin s m e) nan h = absurd h
le_numbers (fin s m e) (inf t) h = (tt, tt)
le_numbers (fin s m e) (fin t n d) h = (tt, tt)

-- `x < y` rules `y <= x` out
pub lt→nle : (x y : Float) → T (lt x y) → T (le y x) → ⊥
lt→nle nan y h k = absurd (unfold lt in h)
lt→nle (inf s) nan h k = absurd (unfold lt in h)
lt→nle (inf true) (inf true) h k = absurd (unfold lt in h)
lt→nle (inf true) (inf false) h k = absurd (unfold le in k)
lt→nle (inf false) (inf t) h k = absurd (unfold lt in h)
lt→nle (inf true) (fin t n d) h k = absurd (unfold le in k)
lt→nle (inf false) (fin t n d) h k = absurd (unfold lt in h)
lt→nle (fin s m e) nan h k = absurd (unfold lt in h)
lt→nle (fin s m e) (inf true) h k = absurd (unfold lt in h)
lt→nle (fin s m e) (inf false) h k = absurd (unfold le in k)
lt→nle (fin false m e) (fin false n d) h k = clash _ _ (ltb→lt (m * up e * down d) (n * up d * down e) (unfold lt in h)) (omega (arith, le→signed (fin false n d) (fin false m e) tt tt k))
lt→nle (fin true m e) (fin true n d) h k = clash _ _ (ltb→lt (n * up d * down e) (m * up e * down d) (unfold lt in h)) (omega (arith, le→signed (fin true n d) (fin true m e) tt tt k))
lt→nle (fin true m e) (fin false n d) h k = clash _ _ (ltb→lt 0 (m * up e * down d + n * up d * down e) (unfold lt in h)) (omega (arith, le→signed (fin false n d) (fin true m e) tt tt k))
lt→nle (fin false m e) (fin true n d) h k = absurd (unfold lt in h)

-- `x <= y` failed, between numbers
pub nle→lt : (x y : Float) → T (not (is_nan x)) → T (not (is_nan y)) → T (not (le x y)) → T (lt y x)
nle→lt x y p q h = elim (either (lt y x)) [ inl t ↦ t | inr n ↦ absurd (T_not (le x y) h (nlt→le y x q p n)) ]

-- `x <= y` holds: `y < x` fails
pub le→nlt : (x y : Float) → T (le x y) → T (not (lt y x))
le→nlt x y h = not_T (lt y x) (λ t. lt→nle y x t h)

-- ---- the test of a range
pub within_in : (lo hi x : Float) → T (within lo hi x) → In lo hi x
within_in lo hi x t = (and_l (le lo x) (le x hi) t, and_r (le lo x) (le x hi) t)

pub in_within : (lo hi x : Float) → In lo hi x → T (within lo hi x)
in_within lo hi x i = and_i (le lo x) (le x hi) i.0 i.1

pub in_number : (lo hi x : Float) → In lo hi x → T (not (is_nan x))
in_number lo hi x i = (le_numbers lo x i.0).1
