-- One challenger after a mark, a gap or a new lead, and why one leaves, as the code finds it. Assumes nothing.
use mathlib.Core.Path.{◌≡◌, refl, sym, ap, ◌∙◌, subst}
use mathlib.Core.Bool.{Bool, true, false, not, cond, true≢false}
use mathlib.Core.Option.{Option, none, some}
use Prim.Native.Nat.{ℕ, ◌≤◌}
use lib.Dec.{T, leb, ltb}
use lib.Ieee.{Float, binary32, sub, lt}
use native.Mathlib.Decide.{dec_le}
use native.Mathlib.Nat.{lt_of_not-le}
use borrow.Author.Tests.{lt-leb, le-leb, lt-ltb, le-ltb}
use Rattle.numbers.specs.Log.{ln_of}
use Rattle.ranges.specs.Settings.{Settings, standard}
use Rattle.ranges.specs.Limits.{nought, score_min}
use Rattle.ranges.specs.Interval.{In}
use Rattle.tracker.specs.declared.SpeedTracker.{SpeedTracker}
use Rattle.pair.specs.Model.{Pair}
use Rattle.tracker.specs.Model.{Tracker}
use Rattle.tracker.specs.Model as Tracked
use Rattle.tracker.specs.Steps as Tracking
use Rattle.tracker.specs.Sound.{sound}
use Rattle.bank_model.specs.declared.Origin.{Origin}
use Rattle.bank_model.specs.declared.Cause.{Cause}
use Rattle.bank_model.specs.declared.logs.LogPair.{LogPair}
use Rattle.bank_model.specs.declared.Cause.TheVariants.{Twin, Outscored, Aged}
use Rattle.bank_model.specs.Model.{Hyp, with_tracker, up1, ticked, retained}
use Rattle.bank_model.specs.Scores.{log_of, ln_dit, ln_dah, mark_fit, gap_fit, decayed, score_mark, score_gap, twins}
use Rattle.bank_model.specs.Steps.{marked, gapped, cause_at}
use Rattle.bank_model.proofs.Scoring.{mark_score_in, gap_score_in}
use Rattle.bank_model.proofs.Ready.{mark_ready, settled_ready, gap_pair}
use Rattle.rival.specs.declared.TimingHypothesis.{TimingHypothesis}
use Rattle.rival.specs.View.{view_hyp}
use Rattle.rival.specs.Parts.{Fit, is_none, logs_held}

abbrev Score : Float → Type 0
Score s = In score_min nought s

-- ---- scores
pub mark_scored : (h : TimingHypothesis) (s l x d : Float) (k : LogPair) → Fit h → s ≡ decayed h.score l → l
    ≡ mark_fit x k.lo k.hi → k ≡ logs_held h → x ≡ ln_of d → s ≡ score_mark h.score (view_hyp h).tracker d
mark_scored h s l x d k f a b j e = a
    ∙ ap (decayed h.score) (b ∙ ap (λ (q : LogPair). mark_fit x q.lo q.hi) j
    ∙ ap (λ (z : Float). mark_fit z h.ln_lo h.ln_hi) e ∙ ap (λ (z : Float). mark_fit (ln_of d) z h.ln_hi) f.ln_lo
    ∙ ap (mark_fit (ln_of d) (ln_dit (view_hyp h).tracker)) f.ln_hi)

pub gap_scored : (k : Settings) (m : Tracker) (sc s l x u v d : Float) → s ≡ decayed sc l → l ≡ gap_fit x v → v
    ≡ log_of u → u ≡ Tracking.dit_estimate k m → x ≡ ln_of d → s ≡ score_gap k sc m d
gap_scored k m sc s l x u v d a b c e f = a
    ∙ ap (decayed sc) (b ∙ ap (λ (z : Float). gap_fit z v) f ∙ ap (gap_fit (ln_of d)) (c ∙ ap log_of e))

-- ---- a mark
pub silent_is : (k : Settings) (h : Hyp) (d s : Float) (a : ℕ) (o : Origin) (live : Bool) → s
    ≡ score_mark h.score h.tracker d → a ≡ up1 h.age → o ≡ ticked h.origin → live ≡ false
    → record {
      tracker = h.tracker;
      score = s;
      gap_score = h.gap_score;
      lead = h.lead;
      age = a;
      origin = o;
      reported =
          h.reported;
      serial = h.serial;
    } ≡ marked k d live h
unfolding marked
silent_is k h d s a o live es ea eo el = rw (es, ea, eo, el)

pub live_is : (k : Settings) (h r : Hyp) (d s : Float) (a : ℕ) (o : Origin) (live : Bool) → s
    ≡ score_mark h.score h.tracker d → a ≡ up1 h.age → o ≡ ticked h.origin → live ≡ true
    → r ≡ record {
      tracker = Tracking.settled (Tracking.on_mark k h.tracker d);
      score = s;
      gap_score = h.gap_score;
      lead = h.lead;
      age = a;
      origin = o;
      reported = h.reported;
      serial = h.serial;
    } → r ≡ marked k d live h
unfolding marked
live_is k h r d s a o live es ea eo el er = rw (er, es, ea, eo, el)

-- a challenger that differs from a fit one in neither tracker, logarithms nor scores is fit
pub refit : (h g : TimingHypothesis) → Fit h → g.tracker ≡ h.tracker → g.ln_lo ≡ h.ln_lo → g.ln_hi ≡ h.ln_hi → g.score
    ≡ h.score → g.gap_score ≡ h.gap_score → Fit g
refit h g f et el eh es eg = record {
  tracker = subst (λ (t : SpeedTracker). T (sound standard t)) (sym et) f.tracker;
  ready = ap (λ (t : SpeedTracker). t.pair.ready) et ∙ f.ready;
  ln_lo = el ∙ f.ln_lo ∙ ap (λ (t : SpeedTracker). ln_dit (Tracked.view t)) (sym et);
  ln_hi = eh ∙ f.ln_hi ∙ ap (λ (t : SpeedTracker). ln_dah (Tracked.view t)) (sym et);
  score = subst Score (sym es) f.score;
  score_gap = subst Score (sym eg) f.score_gap;
}

pub marked_fit : (h g : TimingHypothesis) (d : Float) → Fit h → g.tracker ≡ h.tracker → g.ln_lo ≡ h.ln_lo → g.ln_hi
    ≡ h.ln_hi → g.gap_score ≡ h.gap_score → g.score ≡ score_mark h.score (view_hyp h).tracker d → Fit g
marked_fit h g d f et el eh eg es = record {
  tracker = subst (λ (t : SpeedTracker). T (sound standard t)) (sym et) f.tracker;
  ready = ap (λ (t : SpeedTracker). t.pair.ready) et ∙ f.ready;
  ln_lo = el ∙ f.ln_lo ∙ ap (λ (t : SpeedTracker). ln_dit (Tracked.view t)) (sym et);
  ln_hi = eh ∙ f.ln_hi ∙ ap (λ (t : SpeedTracker). ln_dah (Tracked.view t)) (sym et);
  score = subst Score (sym es) (mark_score_in h.score (view_hyp h).tracker d f.score);
  score_gap = subst Score (sym eg) f.score_gap;
}

-- the tracker after a mark is ready
pub learnt_ready : (t v u : SpeedTracker) (d : Float) → t.pair.ready ≡ true → Tracked.view v
    ≡ Tracking.on_mark standard (Tracked.view t) d → Tracked.view u ≡ Tracking.settled (Tracked.view v) → u.pair.ready
    ≡ true
learnt_ready t v u d r ev eu =
    ap (λ (m : Tracker). m.pair.ready) (eu ∙ ap Tracking.settled ev)
    ∙ settled_ready (Tracking.on_mark standard (Tracked.view t) d) (mark_ready standard (Tracked.view t) d r)

pub learnt_is : (h : Hyp) (v u m : Tracker) → v ≡ m → u ≡ Tracking.settled v → with_tracker h u
    ≡ with_tracker h (Tracking.settled m)
learnt_is h v u m ev eu = ap (with_tracker h) (eu ∙ ap Tracking.settled ev)

-- ---- a gap
pub gapped_is : (k : Settings) (h : Hyp) (u : Tracker) (d s g : Float) → s ≡ score_gap k h.score h.tracker d → g
    ≡ score_gap k h.gap_score h.tracker d → u ≡ Tracking.element_gap k h.tracker d
    → record {
      tracker = u;
      score = s;
      gap_score = g;
      lead = h.lead;
      age = h.age;
      origin = h.origin;
      reported =
          h.reported;
      serial = h.serial;
    } ≡ gapped k d h
unfolding gapped
gapped_is k h u d s g es eg eu = rw (es, eg, eu)

pub gapped_fit : (h r : TimingHypothesis) (d : Float) → Fit h →
    (Tracked.view r.tracker ≡ Tracking.element_gap standard (view_hyp h).tracker d) × T (sound standard r.tracker) →
    r.ln_lo ≡ h.ln_lo → r.ln_hi ≡ h.ln_hi
    → r.score ≡ score_gap standard h.score (view_hyp h).tracker d → r.gap_score
    ≡ score_gap standard h.gap_score (view_hyp h).tracker d → Fit r
gapped_fit h r d f e el eh es eg =
    let m = (view_hyp h).tracker in
    let ep : (Tracked.view r.tracker).pair ≡ m.pair = ap (λ (z : Tracker). z.pair) e.0 ∙ gap_pair standard m d in
    record {
      tracker = e.1;
      ready = ap (λ (p : Pair). p.ready) ep ∙ f.ready;
      ln_lo = el ∙ f.ln_lo ∙ ap (λ (p : Pair). log_of p.lo) (sym ep);
      ln_hi = eh ∙ f.ln_hi ∙ ap (λ (p : Pair). log_of p.hi) (sym ep);
      score = subst Score (sym es) (gap_score_in standard h.score m d f.score);
      score_gap = subst Score (sym eg) (gap_score_in standard h.gap_score m d f.score_gap);
    }

-- ---- why one leaves
module _ (h : TimingHypothesis) (lo hi score : Float) (f : Fit h) where
  abbrev twin : Bool
  twin = twins (ln_dit (view_hyp h).tracker) (ln_dah (view_hyp h).tracker) lo hi

  abbrev far : Bool
  far = lt (sub binary32 score h.score) standard.prune

  abbrev reason : Bool → Bool → Bool → Bool → Option Cause
  reason tw re fr ag = cond tw (some Twin) (cond re none (cond (not fr) (some Outscored) (cond ag (some Aged) none)))

  pub reasoned : (tw re fr ag : Bool) → twin ≡ tw → retained h.origin ≡ re → far ≡ fr → leb 64 h.age_marks ≡ ag →
      reason tw re fr ag ≡ cause_at standard score lo hi (view_hyp h)
  unfolding cause_at
  reasoned tw re fr ag a b c d =
      sym (ap (λ (z : Bool). reason z (retained h.origin) far (leb 64 h.age_marks)) a
      ∙ ap (λ (z : Bool). reason tw z far (leb 64 h.age_marks)) b
      ∙ ap (λ (z : Bool). reason tw re z (leb 64 h.age_marks)) c ∙ ap (reason tw re fr) d)

  -- what the code tests of twins, by the logarithms that are held
  pub twin_is : (k : LogPair) (r b : Bool) → k ≡ logs_held h → r ≡ twins k.lo k.hi lo hi → r ≡ b → twin ≡ b
  twin_is k r b j e t =
      sym (e ∙ ap (λ (q : LogPair). twins q.lo q.hi lo hi) j ∙ ap (λ (z : Float). twins z h.ln_hi lo hi) f.ln_lo
      ∙ ap (λ (z : Float). twins (ln_dit (view_hyp h).tracker) z lo hi) f.ln_hi) ∙ t

  module _ (tw re fr ag : Bool) (a : twin ≡ tw) (b : retained h.origin ≡ re) (c : far ≡ fr) (d : leb 64 h.age_marks
      ≡ ag) where
    pub keeps : (r : Bool) → r ≡ is_none (reason tw re fr ag) → r ≡ is_none (cause_at standard score lo hi (view_hyp h))
    keeps r e = e ∙ ap is_none (reasoned tw re fr ag a b c d)

  -- one that is no twin and leaves, is not retained; and where it is not far behind, it is old
  stays_none : (re fr ag : Bool) → is_none (reason false re fr ag) ≡ false → re ≡ false
  stays_none true fr ag e = absurd (true≢false e)
  stays_none false fr ag e = refl

  near_aged : (ag : Bool) → is_none (reason false false true ag) ≡ false → ag ≡ true
  near_aged true e = refl
  near_aged false e = absurd (true≢false e)

  module _ (leaves : is_none (cause_at standard score lo hi (view_hyp h)) ≡ false) where
    pub why_twin : twin ≡ true → some Twin ≡ cause_at standard score lo hi (view_hyp h)
    why_twin a = reasoned true (retained h.origin) far (leb 64 h.age_marks) a refl refl refl

    loose : twin ≡ false → retained h.origin ≡ false
    loose a = stays_none (retained h.origin) far (leb 64 h.age_marks)
        (ap is_none (reasoned false (retained h.origin) far (leb 64 h.age_marks) a refl refl refl) ∙ leaves)

    pub why_aged : twin ≡ false → far ≡ true → some Aged ≡ cause_at standard score lo hi (view_hyp h)
    why_aged a c =
        let old = near_aged (leb 64 h.age_marks)
        (ap is_none (reasoned false false true (leb 64 h.age_marks) a (loose a) c refl) ∙ leaves) in
        reasoned false false true true a (loose a) c old

    pub why_outscored : twin ≡ false → far ≡ false → some Outscored ≡ cause_at standard score lo hi (view_hyp h)
    why_outscored a c = reasoned false false false (leb 64 h.age_marks) a (loose a) c refl

-- ---- tests
-- below 64, or not
young_by : (n : ℕ) (b : Bool) → leb 64 n ≡ b → not b ≡ is_none (cond b (some Aged) none)
young_by n true e = refl
young_by n false e = refl

pub young : (n : ℕ) → ltb n 64 ≡ is_none (cond (leb 64 n) (some Aged) none)
young n = less (dec_le 64 n) ∙ young_by n (leb 64 n) refl
  where
    less : Dec (64 ≤ n) → ltb n 64 ≡ not (leb 64 n)
    less (yes h) = le-ltb n 64 h ∙ sym (ap not (le-leb 64 n h))
    less (no h) = lt-ltb n 64 (lt_of_not-le h) ∙ sym (ap not (lt-leb 64 n (lt_of_not-le h)))
