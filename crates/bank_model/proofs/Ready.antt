-- A ready tracker stays ready, whatever it hears; and logarithms of centroids and of dit estimates have an argument
-- above zero. Assumes nothing.
use mathlib.Core.Path.{◌≡◌, refl, sym, ap, ◌∙◌, subst}
use mathlib.Core.Bool.{Bool, true, false, not, cond}
use mathlib.Core.List.{List}
use mathlib.Core.Option.{Option, none, some}
use Prim.Native.Nat.{ℕ, zero, ◌*◌, ◌<◌}
use lib.Dec.{T}
use lib.Ieee.{Float, fin, up, down, binary32, mul, lt, eq, is_nan, of_bits}
use lib.Ieee.Bits.{is_true}
use lib.Ieee.Fits.{down_pos, and_l, and_r}
use lib.IntN.{ℤ}
use native.Mathlib.Omega.{arith}
use borrow.Author.Tests.{lt-ltb}
use lib.Ieee.Positive.{positive, positive-finite, between}
use Rattle.order.specs.Order.{larger, negative}
use Rattle.numbers.proofs.Plain.{zero_is, zero_by}
use Rattle.ranges.specs.Settings.{Settings, standard}
use Rattle.ranges.specs.Limits.{nought, dah_min, dah_max}
use Rattle.ranges.specs.Interval.{In}
use Rattle.ranges.specs.Mean.{mean_of}
use Rattle.ranges.proofs.Standard.{dit_positive, estimate_in, standard_good, standard_held}
use Rattle.ranges.specs.Average.{average}
use Rattle.marks.specs.Constants.{two}
use Rattle.pair.specs.Model.{Pair, with_centroids}
use Rattle.tracker.specs.Model.{Tracker, view, with_pair}
use Rattle.marks.specs.Sort.{parts}
use Rattle.pair.specs.Lock.{
  bimodal,
  as_dahs,
  as_dits,
  unimodal,
  locked,
  initialized,
  constrained,
  anchors_dit,
  anchors_dah,
  boundary,
  learnt,
}
use Rattle.tracker.specs.Steps.{
  bound,
  fragment,
  checked,
  fresh,
  from_marks,
  three_to_one,
  on_mark,
  settled,
  estimate,
  dit_estimate,
  element_gap,
  on_gap,
}
use Rattle.ring.specs.Ring.{uniform, drifts}
use Rattle.pair.specs.Readings.{other_pair, has_other}
use Rattle.tracker.specs.declared.SpeedTracker.{SpeedTracker}
use Rattle.tracker.specs.Sound.{positive_or, sound}
use Rattle.pair.specs.Sound.{plus_zero}
use Rattle.tracker.proofs.Soundness.{sound_fine}
use Rattle.pair.proofs.Soundness.{ready_in, unready_zero}
use Rattle.tracker.proofs.Keeping.{by_cond, on_true, gaps_pair}
use Rattle.bank_model.specs.Constants.{milli}

abbrev Up : Pair → Type 0
Up p = p.ready ≡ true

locked_ready : (k : Settings) (s : List Float) → Up (locked k s)
unfolding locked
locked_ready k s =
    by_cond Up (parts s) (bimodal s) (unimodal k (mean_of s)) (λ e. refl)
    (λ e. by_cond Up (lt k.dit_max (mean_of s)) (as_dahs (mean_of s)) (as_dits (mean_of s)) (λ e. refl) (λ e. refl))

constrained_ready : (k : Settings) (h : Option Float) (p : Pair) → Up p → Up (constrained k h p)
unfolding constrained
constrained_ready k h p u = u

learnt_ready : (k : Settings) (p : Pair) (v : Float) → Up p → Up (learnt k p v)
unfolding learnt
learnt_ready k p v u =
    by_cond Up (anchors_dit p v) _ _ (λ e. u)
    (λ e. by_cond Up (anchors_dah p v) _ _ (λ e. u)
    (λ e. by_cond Up (lt v (boundary p)) (with_centroids p (average binary32 k.weight p.lo v) p.hi)
    (with_centroids p p.lo (average binary32 k.weight p.hi v)) (λ e. u) (λ e. u)))

checked_ready : (k : Settings) (t : Tracker) → Up t.pair → Up (checked k t).pair
unfolding checked
checked_ready k t u =
    by_cond (λ (m : Tracker). Up m.pair) (uniform t.ring) _ _
    (λ e. by_cond (λ (m : Tracker). Up m.pair) (drifts t.ring) _ _ (λ e. constrained_ready k _ _ (locked_ready k _))
    (λ e. by_cond (λ (m : Tracker). Up m.pair) (fragment t) _ _ (λ e. constrained_ready k _ _ (locked_ready k _))
    (λ e. u)))
    (λ e. u)

pub mark_ready : (k : Settings) (t : Tracker) (d : Float) → t.pair.ready ≡ true → (on_mark k t d).pair.ready ≡ true
unfolding on_mark
mark_ready k t d u =
    on_true (λ (m : Tracker). Up m.pair) t.pair.ready _ _ u
    (checked_ready k _ (constrained_ready k _ _ (on_true Up t.pair.ready _ _ u (learnt_ready k t.pair d u))))

pub settled_ready : (t : Tracker) → t.pair.ready ≡ true → (settled t).pair.ready ≡ true
unfolding settled
settled_ready t u = u

pub gap_ready : (k : Settings) (t : Tracker) (g : Float) → t.pair.ready ≡ true → (element_gap k t g).pair.ready ≡ true
unfolding on_gap
gap_ready k t g u =
    by_cond (λ (m : Tracker). Up m.pair) (lt g (mul binary32 two (dit_estimate k t))) (on_gap k t g) t (λ e. u) (λ e. u)

-- an element gap moves no centroid
pub gap_pair : (k : Settings) (t : Tracker) (g : Float) → (element_gap k t g).pair ≡ t.pair
unfolding on_gap
gap_pair k t g =
    by_cond (λ (m : Tracker). m.pair
    ≡ t.pair) (lt g (mul binary32 two (dit_estimate k t))) (on_gap k t g) t (λ e. refl) (λ e. refl)

-- ---- arguments of logarithms
milli_positive : T (positive milli)
unfolding of_bits
milli_positive = tt

pub larger_positive : (v : Float) → T (positive v) → T (positive (larger v milli))
larger_positive v p =
    by_cond (λ (x : Float). T (positive x)) (is_nan v) _ _ (λ e. milli_positive)
    (λ e. by_cond (λ (x : Float). T (positive x)) (lt v milli) _ _ (λ e. milli_positive) (λ e. p))

dah_positive : (d : Float) → In dah_min dah_max d → T (positive d)
unfolding of_bits
dah_positive d i = between dah_min d dah_max tt tt i.0 i.1

abbrev DitIn : Float → Type 0
DitIn x = In standard.dit_min standard.dit_max x

gap_finite : (lo : Float) (o : Option Float) → DitIn lo → T (positive_or o) → DitIn (estimate standard lo o)
gap_finite lo none i p = i
gap_finite lo (some g) i p = estimate_in lo g i (positive-finite g p)

-- a ready tracker's dit estimate is a dit
pub estimate_dit : (t : SpeedTracker) → T (sound standard t) → t.pair.ready ≡ true →
    DitIn (dit_estimate standard (view t))
estimate_dit t s u = let f = sound_fine standard t s in
    gap_finite t.pair.lo (view t).egap (ready_in standard (view t).pair u f.pair).0 f.egap

module _ (t : SpeedTracker) (s : T (sound standard t)) (u : t.pair.ready ≡ true) where
  pub estimate_positive : T (positive (larger (dit_estimate standard (view t)) milli))
  estimate_positive = larger_positive _ (dit_positive _ (estimate_dit t s u))

  pub dit_above : T (positive t.pair.lo)
  dit_above = dit_positive _ (ready_in standard (view t).pair u (sound_fine standard t s).pair).0

  pub dah_above : T (positive t.pair.hi)
  dah_above = dah_positive _ (ready_in standard (view t).pair u (sound_fine standard t s).pair).1

  pub dit_log : T (positive (larger t.pair.lo milli))
  dit_log = larger_positive _ dit_above

  pub dah_log : T (positive (larger t.pair.hi milli))
  dah_log = larger_positive _ dah_above

-- ---- trackers that a bank makes
pub from_ready : (l g : List Float) → (from_marks standard l g).pair.ready ≡ true
unfolding from_marks
from_ready l g =
    ap (λ (p : Pair). p.ready)
    (gaps_pair standard standard_good standard_held (bound standard (with_pair fresh (initialized standard l))) g)
    ∙ constrained_ready standard _ _ (locked_ready standard _)

other_up : (p : Pair) → Up (other_pair p)
other_up p = by_cond Up p.placeholder_is_lo _ _ (λ e. refl) (λ e. refl)

abbrev some_is : {A : Type 0} (d : A) → Option A → A
some_is d none = d
some_is d (some x) = x

turned_by : (b : Bool) (x y : Tracker) → x.pair.ready ≡ true → cond b (some x) none ≡ some y → y.pair.ready ≡ true
turned_by true x y r e = subst (λ (z : Tracker). z.pair.ready ≡ true) (ap (some_is x) e) r
turned_by false x y r e = cc

pub turned_ready : (k : Settings) (m t : Tracker) → three_to_one k m ≡ some t → t.pair.ready ≡ true
unfolding three_to_one
turned_ready k m t e = turned_by (has_other k m.pair) _ t (constrained_ready k _ _ (other_up m.pair)) e

-- ---- the centroids of an unready tracker are +0
less : (u d : ℕ) → 0 < d → 0 * u * 8589934592 < 8589935 * 1 * d
less u d h = omega arith

zero_below : (e : ℤ) → lt (fin false 0 e) milli ≡ true
unfolding lt of_bits
zero_below e = lt-ltb (0 * up e * 8589934592) (8589935 * 1 * down e) (less (up e) (down e) (down_pos e))

plain_zero_log : (s : Bool) (e : ℤ) → T (not (negative (fin s zero e))) → T (positive (larger (fin s zero e) milli))
unfolding is_nan
plain_zero_log true e h = absurd h
plain_zero_log false e h =
    subst (λ (b : Bool). T (positive (cond b milli (fin false zero e)))) (sym (zero_below e)) milli_positive

zero_log : (v : Float) → T (plus_zero v) → T (positive (larger v milli))
zero_log v p =
    let z = zero_by binary32 v (ap (eq v) (zero_is binary32)
    ∙ is_true (eq v nought) (and_l (eq v nought) (not (negative v)) p)) in
    subst (λ (x : Float). T (positive (larger x milli))) (sym z.2)
    (plain_zero_log z.0 z.1
    (subst (λ (x : Float). T (not (negative x))) z.2 (and_r (eq v nought) (not (negative v)) p)))

module _ (t : SpeedTracker) (s : T (sound standard t)) where
  either_way : (b : Bool) → t.pair.ready ≡ b → T (positive (larger t.pair.lo milli))
      × T (positive (larger t.pair.hi milli))
  either_way true u = (dit_log t s u, dah_log t s u)
  either_way false u = let z = unready_zero standard (view t).pair u (sound_fine standard t s).pair in
      (zero_log t.pair.lo z.0, zero_log t.pair.hi z.1)

  pub centroid_logs : T (positive (larger t.pair.lo milli)) × T (positive (larger t.pair.hi milli))
  centroid_logs = either_way t.pair.ready refl
