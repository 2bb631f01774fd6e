-- A gap below twelve of the primary's units is no pause, whatever the challengers' units are. Assumes nothing.
use Rattle.std.proofs.Common.{◌≡◌, Bool, true, false, cond, not, T, List, [], ◌∷◌, map, take, refl, subst, true≢false}
use lib.Ieee.{Float, binary32, mul, le, lt, is_nan, of_bits}
use lib.Ieee.Scale.{finite}
use Rattle.order.specs.Order.{larger}
use Rattle.ranges.specs.Settings.{standard}
use Rattle.ranges.specs.Interval.{In}
use Rattle.ranges.proofs.Compare.{lt→le, in_number, passed}
use Rattle.ranges.proofs.Interval.{in_finite}
use Rattle.ranges.proofs.Signed.{nonneg, le_self, le_trans_float}
use Rattle.ranges.proofs.Monotone.{mul_mono_right}
use Rattle.tracker.specs.declared.SpeedTracker.{SpeedTracker}
use Rattle.tracker.specs.Model as Tracked
use Rattle.tracker.specs.Sound.{sound}
use Rattle.tracker.specs.Steps.{dit_estimate}
use Rattle.tracker.proofs.Keeping.{by_cond}
use Rattle.bank_model.specs.Constants.{pause_dits}
use Rattle.bank_model.specs.Steps.{greatest_unit, pausing, pausing_at}
use Rattle.bank_model.proofs.Ready.{estimate_dit}
use Rattle.rival.specs.declared.TimingHypothesis.{TimingHypothesis}
use Rattle.rival.specs.View.{view_hyp}
use Rattle.rival.specs.Parts.{Fit}
use Rattle.bank.specs.declared.TimingBank.{TimingBank}
use Rattle.bank.specs.View.{view}
use Rattle.std.specs.List.{AllByRecursion}
use Rattle.bank.specs.Sturdy.{Sturdy}

abbrev DitIn : Float → Type 0
DitIn x = In standard.dit_min standard.dit_max x

dit_finite : (x : Float) → DitIn x → T (finite x)
unfolding of_bits
dit_finite x i = in_finite standard.dit_min standard.dit_max x tt tt i

-- x is a dit, and not below u
abbrev Over : Float → Float → Type 0
Over u x = T (le u x) × DitIn x

over_larger : (u v : Float) → DitIn u → DitIn v → Over u (larger u v)
over_larger u v i j =
    by_cond (Over u) (is_nan u) v (cond (lt u v) v u)
    (λ e. absurd (number u i e))
    (λ e. by_cond (Over u) (lt u v) v u (λ l. (lt→le u v (passed l), j)) (λ l. (le_self u (dit_finite u i), i)))
  where
    number : (u : Float) → DitIn u → is_nan u ≡ true → ⊥
    number u i e = subst (λ (x : Bool). T (not x)) e (in_number standard.dit_min standard.dit_max u i)

greatest_over : (l : List TimingHypothesis) (u : Float) → DitIn u → AllByRecursion Fit l →
    Over u (greatest_unit standard u (map view_hyp l))
unfolding greatest_unit
greatest_over [] u i a = (le_self u (dit_finite u i), i)
greatest_over (h ∷ l) u i a =
    let o = over_larger u (dit_estimate standard (view_hyp h).tracker) i (estimate_dit h.tracker a.0.tracker a.0.ready)
    in
    let r = greatest_over l (larger u (dit_estimate standard (view_hyp h).tracker)) o.1 a.1 in
    (le_trans_float _ _ _ o.0 r.0, r.1)

twelve : T (nonneg pause_dits)
unfolding of_bits
twelve = tt

not_both : (y : Bool) → y ≡ false → T y → ⊥
not_both true e t = true≢false e
not_both false e t = t

stays_false : (y z : Bool) → z ≡ false → (T y → T z) → y ≡ false
stays_false true z e f = absurd (not_both z e (f tt))
stays_false false z e f = refl

pub no_pause : (b : TimingBank) (p : SpeedTracker) (d : Float) → Sturdy b → T (sound standard p) → p.pair.ready ≡ true →
    le (mul binary32 pause_dits (dit_estimate standard (Tracked.view p))) d ≡ false →
    pausing standard (view b) (Tracked.view p) d ≡ false
unfolding pausing_at
no_pause b p d y s r e =
    let u = dit_estimate standard (Tracked.view p) in
    let i = estimate_dit p s r in
    let o = greatest_over (take b.challengers_len b.challengers) u i y.crew.each in
    stays_false _ _ e
    (λ h. le_trans_float _ _ _
    (mul_mono_right binary32 pause_dits u _ twelve (dit_finite u i) (dit_finite _ o.1) o.0) h)
