-- What the library says of a float, in the words of this crate. Assumes nothing.
use Rattle.std.proofs.Common.{◌≡◌, ℕ, zero, suc, ◌*◌, ◌<◌, Bool, true, false, cond, not, ◌&&◌, ℤ, sym, refl, ap, ◌∙◌, zero-lt-suc, mul-pos, arith, le-ltb, lt-ltb, eq-eqb, ne_eqb, true≢false}
use mathlib.Core.Bool.{false≢true}
use Rattle.std.specs.Float.{float_is_finite, round_to_format}
use lib.Ieee.{Float, nan, inf, fin, Format, binary32, binary64, up, down, ones, hid, of_bits, lt, le, eq}
use lib.Ieee.Fits.{up_pos}
use lib.Ieee.Positive.{positive}
use Rattle.numbers.specs.Answers.{value, refused}
use Rattle.numbers.specs.Log.{ln_said, ln_of}
use Rattle.numbers.specs.Root.{rootless, sqrt_of, sqrt_said}
use Rattle.numbers.specs.Values.{narrow}
use Rattle.numbers.proofs.Plain.{origin, zero_is}

pub narrow_law : (v : Float) → round_to_format binary32 v ≡ narrow v
unfolding round_to_format narrow
narrow_law nan = refl
narrow_law (inf s) = refl
narrow_law (fin s m e) = refl

-- ---- the tests of the code
more : (m : ℕ) (e : ℤ) → 0 * down e < suc m * up e * 1
more m e = go (suc m * up e) (down e) (mul-pos (zero-lt-suc m) (up_pos e))
  where
    go : (x d : ℕ) → 0 < x → 0 * d < x * 1
    go x d h = omega arith

positive_at : (v : Float) → (lt origin v && float_is_finite v) ≡ positive v
unfolding lt float_is_finite
positive_at nan = refl
positive_at (inf true) = refl
positive_at (inf false) = refl
positive_at (fin true m e) = refl
positive_at (fin false zero e) = ap (λ (b : Bool). b && true) (le-ltb (0 * down e) (0 * up e * 1) (omega arith))
positive_at (fin false (suc m) e) =
    ap (λ (b : Bool). b && true) (lt-ltb (0 * down e) (suc m * up e * 1) (more m e))
    ∙ sym (lt-ltb 0 (suc m) (zero-lt-suc m))

pub positive_law : (f : Format) (v : Float) → (lt (of_bits f 0) v && float_is_finite v) ≡ positive v
positive_law f v = ap (λ (x : Float). lt x v && float_is_finite v) (zero_is f) ∙ positive_at v

differs : (x y : ℕ) → x < y → x ≡ y → ⊥
differs x y h e = omega arith

has_root_at : (v : Float) → (le origin v && lt v (inf false)) ≡ not (rootless v)
unfolding le lt eq
has_root_at nan = refl
has_root_at (inf true) = refl
has_root_at (inf false) = refl
has_root_at (fin true zero e) =
    rw (eq-eqb (0 * down e) (0 * up e * 1) (omega arith), eq-eqb (0 * down e) 0 (omega arith))
has_root_at (fin false zero e) =
    rw (le-ltb (0 * down e) (0 * up e * 1) (omega arith), eq-eqb (0 * down e) (0 * up e * 1) (omega arith))
has_root_at (fin true (suc m) e) =
    rw (ne_eqb (0 * down e) (suc m * up e * 1) (differs (0 * down e) (suc m * up e * 1) (more m e)))
has_root_at (fin false (suc m) e) = rw (lt-ltb (0 * down e) (suc m * up e * 1) (more m e))

infinity_is : (f : Format) → of_bits f (ones f * hid f) ≡ inf false
unfolding of_bits
infinity_is binary32 = refl
infinity_is binary64 = refl

pub has_root_law : (f : Format) (v : Float)
    → (le (of_bits f 0) v && lt v (of_bits f (ones f * hid f))) ≡ not (rootless v)
has_root_law f v = rw (zero_is, infinity_is) (has_root_at v)

-- ---- what a call says
pub said_root : (f : Format) (v r : Float) → not (rootless v) ≡ true → r ≡ sqrt_of f v → value r ≡ sqrt_said f v
unfolding sqrt_said
said_root f v r a b = go (rootless v) a
  where
    go : (t : Bool) → not t ≡ true → value r ≡ cond t (refused 11) (value (sqrt_of f v))
    go true e = absurd (false≢true e)
    go false e = ap value b

pub no_said_root : (f : Format) (v : Float) → not (rootless v) ≡ false → refused 11 ≡ sqrt_said f v
unfolding sqrt_said
no_said_root f v a = go (rootless v) a
  where
    go : (t : Bool) → not t ≡ false → refused 11 ≡ cond t (refused 11) (value (sqrt_of f v))
    go true e = refl
    go false e = absurd (true≢false e)

pub said_ln : (v r : Float) → positive v ≡ true → r ≡ ln_of v → value r ≡ ln_said v
unfolding ln_said
said_ln v r a b = rw (a, b)

pub no_said_ln : (v : Float) → positive v ≡ false → refused 10 ≡ ln_said v
unfolding ln_said
no_said_ln v a = rw a
