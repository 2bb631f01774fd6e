-- A mark or a gap scores from -3 to 0, and a score stays from -30 to 0. Assumes nothing.
use mathlib.Core.Path.{◌≡◌, refl, sym, ap, ◌∙◌, subst}
use mathlib.Core.Bool.{Bool, true, false, cond, true≢false, false≢true}
use Prim.Native.Nat.{ℕ, zero, suc, ◌*◌, ◌+◌, ◌^◌}
use lib.Dec.{T, eqb, ltb}
use lib.Ieee.{
  Float,
  nan,
  inf,
  fin,
  Format,
  binary32,
  prec,
  emax,
  low,
  unlike,
  up,
  down,
  odd,
  units,
  round,
  sub,
  mul,
  div,
  lt,
  le,
  is_nan,
  of_bits,
}
use lib.Ieee.Fits.{round_is}
use lib.Ieee.Bits.{is_false}
use Rattle.order.specs.Order.{larger}
use Rattle.ranges.specs.Interval.{In}
use Rattle.ranges.specs.Limits.{nought, score_min, floor}
use Rattle.ranges.proofs.Compare.{passed, lt→le, in_number}
use Rattle.ranges.proofs.Interval.{in_widen}
use Rattle.ranges.proofs.Score.{score_in}
use Rattle.ranges.proofs.Signed.{from_signs}
use Rattle.tracker.proofs.Keeping.{by_cond, on_false}
use Rattle.tracker.specs.Model.{Tracker}
use Rattle.ranges.specs.Settings.{Settings}
use Rattle.bank_model.specs.Constants.{minus_half}
use Rattle.bank_model.specs.Scores.{fit, mark_fit, gap_fit, decayed, score_mark, score_gap}

-- ---- the sign of a product; a NaN has any
abbrev Sign : Bool → Float → Type 0
Sign s nan = Unit {0}
Sign s (inf t) = t ≡ s
Sign s (fin t m e) = t ≡ s

odd_sign : (d : ℕ) (s : Bool) (q k l : ℕ) → Sign s (odd d s q k l)
unfolding odd
odd_sign d s zero k l = refl
odd_sign d s (suc q) k l = refl

units_sign : (f : Format) (s : Bool) (q k : ℕ) → Sign s (units f s q k)
unfolding units
units_sign f s q k =
    by_cond (Sign s) (ltb (q * 2 ^ k) (2 ^ (low f + suc (emax f)))) (odd (suc (prec f)) s q k (low f)) (inf s)
    (λ e. odd_sign (suc (prec f)) s q k (low f)) (λ e. refl)

round_sign : (f : Format) (s : Bool) (a c : ℕ) → Sign s (round f s a c)
round_sign f s a c = subst (Sign s) (sym (round_is f s a c)) (units_sign f s _ _)

infinite_sign : (b s : Bool) → Sign s (cond b nan (inf s))
infinite_sign true s = tt
infinite_sign false s = refl

both_signs : (s t u v : Bool) → s ≡ u → t ≡ v → unlike s t ≡ unlike u v
both_signs s t u v e f = ap (λ (z : Bool). unlike z t) e ∙ ap (unlike u) f

mul_sign : (f : Format) (u v : Bool) (x y : Float) → Sign u x → Sign v y → Sign (unlike u v) (mul f x y)
unfolding mul
mul_sign f u v nan y p q = tt
mul_sign f u v (inf s) nan p q = tt
mul_sign f u v (inf s) (inf t) p q = both_signs s t u v p q
mul_sign f u v (inf s) (fin t n d) p q =
    subst (λ (z : Bool). Sign z (cond (eqb n 0) nan (inf (unlike s t)))) (both_signs s t u v p q)
    (infinite_sign (eqb n 0) (unlike s t))
mul_sign f u v (fin s m e) nan p q = tt
mul_sign f u v (fin s m e) (inf t) p q =
    subst (λ (z : Bool). Sign z (cond (eqb m 0) nan (inf (unlike s t)))) (both_signs s t u v p q)
    (infinite_sign (eqb m 0) (unlike s t))
mul_sign f u v (fin s m e) (fin t n d) p q =
    subst (λ (z : Bool). Sign z (round f (unlike s t) (m * up e * (n * up d)) (down e * down d)))
    (both_signs s t u v p q) (round_sign f (unlike s t) _ _)

-- k * z * z for a k with a minus
square_sign : (f : Format) (k z : Float) → Sign true k → Sign true (mul f (mul f k z) z)
square_sign f k nan p = mul_sign f true false (mul f k nan) nan (mul_sign f true false k nan p tt) tt
square_sign f k (inf true) p =
    mul_sign f false true (mul f k (inf true)) (inf true) (mul_sign f true true k (inf true) p refl) refl
square_sign f k (inf false) p =
    mul_sign f true false (mul f k (inf false)) (inf false) (mul_sign f true false k (inf false) p refl) refl
square_sign f k (fin true m e) p =
    mul_sign f false true (mul f k (fin true m e)) (fin true m e) (mul_sign f true true k (fin true m e) p refl) refl
square_sign f k (fin false m e) p =
    mul_sign f true false (mul f k (fin false m e)) (fin false m e) (mul_sign f true false k (fin false m e) p refl)
    refl

minus_half_law : Sign true minus_half
unfolding of_bits
minus_half_law = refl

fit_sign : (sigma x c : Float) → Sign true (fit sigma x c)
unfolding fit
fit_sign sigma x c = square_sign binary32 minus_half (div binary32 (sub binary32 x c) sigma) minus_half_law

-- ---- the best of what is from -3 to 0 and what has a minus
above_nan : (a : Float) → lt a nan ≡ false
unfolding lt
above_nan nan = refl
above_nan (inf s) = refl
above_nan (fin s m e) = refl

under : (a y : Float) → Sign true y → lt a y ≡ true → T (le y nought)
unfolding le
under a nan p t = absurd (true≢false (sym t ∙ above_nan a))
under a (inf true) p t = tt
under a (inf false) p t = absurd (false≢true p)
under a (fin true m e) p t = from_signs (m * up e * 1) (0 * up (lib.IntN.pos 0) * down e)
under a (fin false m e) p t = absurd (false≢true p)

larger_in : (a y : Float) → In floor nought a → Sign true y → In floor nought (larger a y)
larger_in a y i p =
    on_false (In floor nought) (is_nan a) y (cond (lt a y) y a) (is_false (is_nan a) (in_number floor nought a i))
    (by_cond (In floor nought) (lt a y) y a
    (λ t. in_widen a nought floor nought y i.0 (self nought) (lt→le a y (passed t), under a y p t)) (λ t. i))
  where
    self : (x : Float) → T (le nought nought)
    self x = unfold le in tt

floor_in : In floor nought floor
unfolding le of_bits
floor_in = (tt, tt)

pub mark_in : (x lo hi : Float) → In floor nought (mark_fit x lo hi)
unfolding mark_fit
mark_in x lo hi = larger_in _ _ (larger_in _ _ floor_in (fit_sign _ x lo)) (fit_sign _ x hi)

pub gap_in : (x u : Float) → In floor nought (gap_fit x u)
unfolding gap_fit
gap_in x u = larger_in _ _ (larger_in _ _ (larger_in _ _ floor_in (fit_sign _ x u)) (fit_sign _ x _)) (fit_sign _ x _)

-- ---- a score stays from -30 to 0
pub decayed_in : (s l : Float) → In score_min nought s → In floor nought l → In score_min nought (decayed s l)
unfolding decayed
decayed_in s l i j = score_in s l i j

pub zero_in : In score_min nought nought
unfolding le of_bits
zero_in = (tt, tt)

pub mark_score_in : (s : Float) (t : Tracker) (d : Float) → In score_min nought s →
    In score_min nought (score_mark s t d)
mark_score_in s t d i = decayed_in s _ i (mark_in _ _ _)

pub gap_score_in : (k : Settings) (s : Float) (t : Tracker) (d : Float) → In score_min nought s →
    In score_min nought (score_gap k s t d)
gap_score_in k s t d i = decayed_in s _ i (gap_in _ _)
