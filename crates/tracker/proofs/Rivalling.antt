-- Gaps that lie in a band: the loop that keeps them, and their range. Assumes nothing.
use Rattle.std.proofs.Common.{
  ◌≡◌,
  ℕ,
  suc,
  ◌+◌,
  ◌<◌,
  ◌≤◌,
  Bool,
  true,
  false,
  cond,
  T,
  List,
  length,
  get_or,
  drop,
  sym,
  refl,
  ap,
  ◌∙◌,
  add-one,
  arith,
  drop_of_length-le,
  drop-cons,
}
use lib.Ieee.{Float, nan}
use Rattle.ranges.specs.Settings.{Settings, standard}
use Rattle.ranges.specs.Limits.{duration_min, duration_max}
use Rattle.ranges.specs.Interval.{AllIn}
use Rattle.pair.specs.Model.{Pair}
use Rattle.tracker.specs.Model.{Tracker, with_pair, view}
use Rattle.pair.specs.Readings.{gaps_say_dahs, turned, other_pair, has_other}
use Rattle.tracker.specs.Steps.{timed, bound, resolved, fresh, element_gap, element_gaps, from_marks, three_to_one}
use mathlib.Core.Option.{none, some}
use Rattle.ranges.proofs.Standard.{standard_good, standard_held}
use Rattle.tracker.specs.declared.SpeedTracker.{SpeedTracker}
use Rattle.tracker.specs.Parts.{Counted}
use Rattle.pair.specs.Lock.{initialized}
use Rattle.tracker.specs.Sound.{sound}
use Rattle.tracker.proofs.Keeping.{gaps_pair, locked_up, rest_of, fresh_sane, timed_fine}
use Rattle.tracker.proofs.Soundness.{sound_by, sound_fine, proper_of}

module _ (k : Settings) (m : Tracker) (gaps : List Float) where
  pub resolves : (p : Pair) (u r : Tracker) → gaps_say_dahs k m.pair gaps ≡ true → p ≡ turned m.pair
      → u ≡ bound k (with_pair m p) → r ≡ timed k u → r ≡ resolved k m gaps
  unfolding resolved
  resolves p u r e P U R =
      R ∙ ap (timed k) (U ∙ ap (λ (z : Pair). bound k (with_pair m z)) P)
      ∙ sym (ap (λ (b : Bool). cond b (timed k (bound k (with_pair m (turned m.pair)))) m) e)

  pub resolves_not : gaps_say_dahs k m.pair gaps ≡ false → m ≡ resolved k m gaps
  unfolding resolved
  resolves_not e = sym (ap (λ (b : Bool). cond b (timed k (bound k (with_pair m (turned m.pair)))) m) e)

-- ---- element gaps: the first i are heard
pub record Hearing (k : Settings) (m : Tracker) (l : List Float) (u : Tracker) (i : ℕ) : Type 0 where
  pub upto : i ≤ length l
  pub is : element_gaps k m l ≡ element_gaps k u (drop i l)

pub hear_begins : (k : Settings) (l : List Float) (m : Tracker) → Hearing k m l m 0
hear_begins k l m = record { upto = omega arith; is = refl }

heard : (k : Settings) (m : Tracker) (l : List Float) (i : ℕ) → i < length l
    → element_gaps k m (drop i l) ≡ element_gaps k (element_gap k m (get_or l i nan)) (drop (suc i) l)
unfolding element_gaps
heard k m l i h = rw (drop-cons l i nan h)

pub hear_turns : (k : Settings) (m : Tracker) (l : List Float) (u u' : Tracker) (i : ℕ) → i < length l
    → Hearing k m l u i → u' ≡ element_gap k u (get_or l i nan) → Hearing k m l u' (i + 1)
hear_turns k m l u u' i h v e =
    record {
      upto = omega arith;
      is =
          v.is ∙ heard k u l i h ∙ ap (λ (z : Tracker). element_gaps k z (drop (suc i) l)) (sym e) ∙ rw add-one;
    }

pub hear_ends : (k : Settings) (m : Tracker) (l : List Float) (u : Tracker) (i : ℕ) → length l ≤ i
    → Hearing k m l u i → u ≡ element_gaps k m l
unfolding element_gaps
hear_ends k m l u i h v = sym (v.is ∙ rw (drop_of_length-le l {i = i} h))

-- ---- a tracker from marks
pub from_is : (k : Settings) (l g : List Float) (a b r : Tracker) → a ≡ bound k (with_pair fresh (initialized k l))
    → b ≡ element_gaps k a g → r ≡ timed k b → r ≡ from_marks k l g
unfolding from_marks
from_is k l g a b r A E R = R ∙ ap (timed k) (E ∙ ap (λ (z : Tracker). element_gaps k z g) A)

-- ---- a three-to-one reading
module _ (k : Settings) (m : Tracker) where
  abbrev reading : Tracker
  reading = timed k (bound k (with_pair fresh (other_pair m.pair)))

  pub reads_other : (p : Pair) (f u r : Tracker) → f ≡ fresh → p ≡ other_pair m.pair → u ≡ bound k (with_pair f p)
      → r ≡ timed k u → r ≡ reading
  reads_other p f u r F P U R =
      R ∙ ap (timed k)
      (U ∙ ap (λ (z : Tracker). bound k (with_pair z p)) F ∙ ap (λ (z : Pair). bound k (with_pair fresh z)) P)

  pub other_is : (r : Tracker) → has_other k m.pair ≡ true → r ≡ reading → some r ≡ three_to_one k m
  unfolding three_to_one
  other_is r e q = ap (λ (z : Tracker). some z) q ∙ sym (ap (λ (b : Bool). cond b (some reading) none) e)

  pub other_not : has_other k m.pair ≡ false → none ≡ three_to_one k m
  unfolding three_to_one
  other_not e = sym (ap (λ (b : Bool). cond b (some reading) none) e)

-- a lock from marks, after its gaps, is ready
pub heard_ready : (l g : List Float) (a b : Tracker) → AllIn duration_min duration_max l → 1 ≤ length l → length l ≤ 12
    → a ≡ bound standard (with_pair fresh (initialized standard l)) → b ≡ element_gaps standard a g
    → b.pair.ready ≡ true
heard_ready l g a b m h w A E =
    ap (λ (z : Tracker). z.pair.ready) E
    ∙ ap (λ (p : Pair). p.ready) (gaps_pair standard standard_good standard_held a g)
    ∙ ap (λ (z : Tracker). z.pair.ready) A
    ∙
    (locked_up standard standard_good standard_held fresh l
    (rest_of standard standard_good standard_held fresh
    (fresh_sane standard standard_good standard_held)) m h w).ready

-- the speed average begun anew, of a sound tracker that is ready
pub timed_sound : (u r : SpeedTracker) → T (sound standard u) → (view u).pair.ready ≡ true
    → (view r ≡ timed standard (view u)) × Counted r → T (sound standard r)
timed_sound u r s e q =
    sound_by standard r (timed standard (view u)) q
    (proper_of standard (timed standard (view u))
    (timed_fine standard standard_good standard_held (view u) (sound_fine standard u s) e))
