-- Two values of a format that are the same signed number are the same value; a value of the format is its own rounding. Assumes nothing.
use mathlib.Core.Path.{◌≡◌, refl, sym, ap, ◌∙◌, subst}
use Prim.Native.Nat.{ℕ, zero, suc, ◌+◌, ◌-◌, ◌*◌, ◌/◌, ◌%◌, ◌^◌, ◌≤◌, ◌<◌}
use native.Mathlib.Nat.{lt_of_not-le, not-le_of_lt, le_of_suc-le-suc, zero-mul, mul-one, mul_comm, mul_assoc, mul_left_comm, mul_right_comm, mul-lt-mul_of_pos_right, lt_of_mul-lt-mul_right, mul-pos, zero-lt-suc}
use native.Mathlib.Omega.{arith}
use mathlib.Core.Bool.{Bool, true, false, ◌&&◌, cond}
use lib.IntN.{ℤ, pos, negsuc}
use lib.Dec.{T, ltb, leb, eqb, ltb→lt, leb→le}
use lib.Pow.{pow_pos, pow-add, pow-lt}
use lib.Ieee.{Float, nan, inf, fin, Format, prec, emax, low, up, down, size, round, fits, top, hid, to_bits, of_bits}
use lib.Ieee.Fits.{down_pos, and_l, and_r, round-fits}
use lib.Ieee.Exact.{HasValue, round_exact}
use lib.Ieee.Nearest.{div_same}
use lib.Ieee.Bits.{of_bits-to_bits}
use lib.Ieee.Scale.{finite}
use lib.Ieee.Positive.{den}
use Rattle.ranges.proofs.Signed.{ps, ng}
use Rattle.ranges.proofs.Rounded.{Rounded}

abbrev pub pack : Format → Bool → ℕ → ℕ
pack f s n = cond s (top f) 0 + (size n - prec f) * hid f + n / 2 ^ (size n - prec f)

to_bits_is : (f : Format) (s : Bool) (m : ℕ) (e : ℤ) → to_bits f (fin s m e) ≡ pack f s (m * up e * 2 ^ low f / down e)
unfolding to_bits
to_bits_is f s m e = refl

pub to_bits_value : (f : Format) (x : Float) (s : Bool) (a c : ℕ) → 0 < c → HasValue x s a c → to_bits f x ≡ pack f s (a * 2 ^ low f / c)
to_bits_value f nan s a c C h = absurd h
to_bits_value f (inf t) s a c C h = absurd h
to_bits_value f (fin t m e) s a c C h =
    let l = 2 ^ low f in
    to_bits_is f t m e
    ∙ ap (λ (b : Bool). pack f b (m * up e * l / down e)) h.0
    ∙ ap (pack f s) (div_same (m * up e * l) (down e) (a * l) c (down_pos e) C (mul_right_comm (m * up e) l c ∙ ap (λ (z : ℕ). z * l) h.1 ∙ mul_right_comm a (down e) l))

pub value_unique : (f : Format) (x y : Float) (s : Bool) (a c : ℕ) → 0 < c → T (fits f x) → T (fits f y) → HasValue x s a c → HasValue y s a c → x ≡ y
value_unique f x y s a c C p q h k =
    sym (of_bits-to_bits f x p) ∙ ap (of_bits f) (to_bits_value f x s a c C h ∙ sym (to_bits_value f y s a c C k)) ∙ of_bits-to_bits f y q

-- ---- a value of the format is its own rounding
pow_le_back : (a b : ℕ) → 2 ^ a ≤ 2 ^ b → a ≤ b
pow_le_back a b h = le_of_suc-le-suc (lt_of_not-le (λ (g : suc b ≤ a). not-le_of_lt (pow-lt g) h))

-- a fraction that is q * 2 ^ j of the smallest values, below 2 ^ (emax + 1)
pub exact : (f : Format) (s : Bool) (a c q j : ℕ) → 0 < c → q < 2 ^ prec f → a < 2 ^ suc (emax f) * c → a * 2 ^ low f ≡ q * 2 ^ j * c → HasValue (round f s a c) s a c
exact f s a c q j C h k e =
    let l = low f in
    let t = suc (emax f) in
    let g : 2 ^ t * c * 2 ^ l ≡ 2 ^ (l + t) * c = simp (mul_assoc, mul_comm, mul_left_comm, pow-add) in
    round_exact f s a c q j C h
    (lt_of_mul-lt-mul_right c (subst (λ (z : ℕ). z < 2 ^ (l + t) * c) e (subst (λ (z : ℕ). a * 2 ^ l < z) g (mul-lt-mul_of_pos_right k (pow_pos l)))))
    e

gap : (k l : ℕ) → suc k ≤ l → l - suc k + suc k ≡ l
gap k l h = omega arith

own_value : (f : Format) (s : Bool) (m : ℕ) (e : ℤ) → m < 2 ^ prec f → down e ≤ 2 ^ low f → m * up e < 2 ^ suc (emax f) * down e → HasValue (round f s (m * up e) (down e)) s (m * up e) (down e)
own_value f s m (pos k) a b c = exact f s (m * 2 ^ k) 1 m (k + low f) (zero-lt-suc 0) a c (simp (mul_assoc, mul-one, pow-add))
own_value f s m (negsuc k) a b c =
    let l = low f in
    exact f s (m * 1) (2 ^ suc k) m (l - suc k) (pow_pos (suc k)) a c
    (ap (λ (z : ℕ). z * 2 ^ l) (mul-one m)
    ∙ ap (λ (z : ℕ). m * 2 ^ z) (sym (gap k l (pow_le_back (suc k) l b)))
    ∙ ap (λ (z : ℕ). m * z) (pow-add 2 (l - suc k) (suc k))
    ∙ sym (mul_assoc m (2 ^ (l - suc k)) (2 ^ suc k)))

zero_value : (f : Format) (s : Bool) (e : ℤ) → HasValue (round f s (0 * up e) (down e)) s (0 * up e) (down e)
zero_value f s e = exact f s (0 * up e) (down e) 0 0 (down_pos e) (pow_pos (prec f)) (subst (λ (z : ℕ). z < 2 ^ suc (emax f) * down e) (sym (zero-mul (up e))) (mul-pos (pow_pos (suc (emax f))) (down_pos e))) (omega arith)

pub fits_parts : (f : Format) (s : Bool) (m : ℕ) (e : ℤ) → T (fits f (fin s (suc m) e)) → (suc m < 2 ^ prec f) × (down e ≤ 2 ^ low f) × (suc m * up e < 2 ^ suc (emax f) * down e)
unfolding fits
fits_parts f s m e h =
    let a = eqb (suc m % 2) 1 in
    let b = ltb (suc m) (2 ^ prec f) in
    let c = leb (down e) (2 ^ low f) in
    let d = ltb (suc m * up e) (2 ^ suc (emax f) * down e) in (
      ltb→lt (suc m) (2 ^ prec f) (and_r a b (and_l (a && b) c (and_l (a && b && c) d h))),
      leb→le (down e) (2 ^ low f) (and_r (a && b) c (and_l (a && b && c) d h)),
      ltb→lt (suc m * up e) (2 ^ suc (emax f) * down e) (and_r (a && b && c) d h),
    )

pub own_rounding : (f : Format) (s : Bool) (m : ℕ) (e : ℤ) → T (fits f (fin s m e)) → fin s m e ≡ round f s (m * up e) (down e)
own_rounding f s m e h =
    value_unique f (fin s m e) (round f s (m * up e) (down e)) s (m * up e) (down e) (down_pos e) h (round-fits f s (m * up e) (down e)) (refl, refl) (value m h)
  where
    value : (k : ℕ) → T (fits f (fin s k e)) → HasValue (round f s (k * up e) (down e)) s (k * up e) (down e)
    value zero h = zero_value f s e
    value (suc k) h = let w = fits_parts f s k e h in own_value f s (suc k) e w.0 w.1 w.2

-- a value of the format as a rounded signed fraction
pub own_rounded : (f : Format) (x : Float) → T (finite x) → T (fits f x) → Rounded f x (ps x) (ng x) (den x)
own_rounded f nan p h = absurd p
own_rounded f (inf s) p h = absurd p
own_rounded f (fin false m e) p h = (false, m * up e, own_rounding f false m e h, omega arith, down_pos e)
own_rounded f (fin true m e) p h = (true, m * up e, own_rounding f true m e h, omega arith, down_pos e)

-- a value of the format is m * 2 ^ j of its smallest values
pub in_units : (f : Format) (m : ℕ) (e : ℤ) → down e ≤ 2 ^ low f → (j : ℕ) × (m * up e * 2 ^ low f ≡ m * 2 ^ j * down e)
in_units f m (pos k) b = (k + low f, simp (mul_assoc, mul-one, pow-add))
in_units f m (negsuc k) b =
    let l = low f in (
      l - suc k,
      ap (λ (z : ℕ). z * 2 ^ l) (mul-one m)
          ∙ ap (λ (z : ℕ). m * 2 ^ z) (sym (gap k l (pow_le_back (suc k) l b)))
          ∙ ap (λ (z : ℕ). m * z) (pow-add 2 (l - suc k) (suc k))
          ∙ sym (mul_assoc m (2 ^ (l - suc k)) (2 ^ suc k)),
    )
