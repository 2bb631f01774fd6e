-- A gap and a mark, for the whole bank. Assumes nothing.
use Rattle.std.proofs.Common.{◌≡◌, ℕ, ◌≤◌, Bool, true, false, cond, ◌&&◌, leb, length, sym, ap, ◌∙◌, subst, arith}
use Rattle.std.specs.Prelude as Given
use lib.Ieee.{Float}
use Rattle.ranges.specs.Settings.{standard}
use Rattle.ranges.specs.Limits.{nought, score_min, duration_min, duration_max}
use Rattle.ranges.specs.Interval.{In}
use Rattle.ranges.proofs.Standard.{standard_good}
use Rattle.tracker.specs.Model.{Tracker}
use Rattle.tracker.specs.Steps.{dit_estimate}
use Rattle.numbers.specs.Log.{ln_of}
use Rattle.bank_model.specs.declared.logs.LogPair.{LogPair}
use Rattle.bank_model.specs.declared.logs.Measured.{Measured}
use Rattle.bank_model.specs.Departures.{most_left}
use Rattle.bank_model.specs.Model.{Bank, Told, stay, and_then}
use Rattle.bank_model.specs.Scores.{log_of, ln_dit, ln_dah, mark_fit, gap_fit, decayed, score_mark, score_gap}
use Rattle.bank_model.specs.Steps.{
  pausing,
  held_gap_out,
  heard_gap,
  on_gap,
  scored,
  streaked,
  streak_at,
  high,
  marked_told,
  pruned_at,
  heard_mark,
  on_mark,
}
use Rattle.bank_model.proofs.Scoring.{mark_score_in, gap_score_in}
use Rattle.bank_model.proofs.Departing.{few_heard}
use Rattle.rival.proofs.Each.{gap_scored}
use Rattle.bank.specs.declared.TimingBank.{TimingBank}
use Rattle.bank.specs.View.{view}
use Rattle.bank.specs.Sturdy.{Sturdy}
use Rattle.bank.proofs.Leaving.{sift_many, crew_few_sturdy}

-- a bank with other scores, held gap and counts
abbrev pub heard_bank : TimingBank → Float → Float → Given.Option Float → ℕ → ℕ → TimingBank
heard_bank b s g gap m n = record {
  width = b.width;
  switching = b.switching;
  primary_score = s;
  primary_gap_score = g;
  challengers = b.challengers;
  challengers_len = b.challengers_len;
  streak = b.streak;
  streak_len = b.streak_len;
  streak_gaps = b.streak_gaps;
  streak_gaps_len = b.streak_gaps_len;
  streak_side = b.streak_side;
  last_gap = gap;
  marks_seen = m;
  gaps_seen = n;
  pending = b.pending;
  log = b.log;
  log_len = b.log_len;
  started = b.started;
}

pub heard_sturdy : (b : TimingBank) → Sturdy b → (s g : Float) (gap : Given.Option Float) (m n : ℕ) →
    In score_min nought s → In score_min nought g → Given.IfSome gap (In duration_min duration_max) →
    Sturdy (heard_bank b s g gap m n)
heard_sturdy b t s g gap m n is ig il = record {
  wide_enough = t.wide_enough;
  wide = t.wide;
  below = t.below;
  crew = t.crew;
  score = is;
  score_gap = ig;
  streaks = t.streaks;
  last_gap = il;
  log = t.log;
  pending = t.pending;
}

-- the primary's score of a mark
pub primary_mark : (p : Tracker) (sc s f d : Float) (l : LogPair) (m : Measured) → In score_min nought sc → s
    ≡ decayed sc f → f ≡ mark_fit m.ln l.lo l.hi → m.dur.ms ≡ d → (l.lo ≡ ln_dit p) × (l.hi ≡ ln_dah p) →
    (s ≡ score_mark sc p d) × In score_min nought s
primary_mark p sc s f d l m i a c em el =
    let e : s ≡ score_mark sc p d =
    a ∙ ap (decayed sc) (c ∙ ap (λ (z : Float). mark_fit z l.lo l.hi) (m.ln_is ∙ ap ln_of em)
    ∙ ap (λ (z : Float). mark_fit (ln_of d) z l.hi) el.0 ∙ ap (mark_fit (ln_of d) (ln_dit p)) el.1) in
    (e, subst (In score_min nought) (sym e) (mark_score_in sc p d i))

-- the primary's scores of a gap
pub primary_gap : (p : Tracker) (sc s f u v d : Float) (m : Measured) → In score_min nought sc → s ≡ decayed sc f → f
    ≡ gap_fit m.ln v → v ≡ log_of u → u ≡ dit_estimate standard p → m.dur.ms ≡ d → (s ≡ score_gap standard sc p d)
    × In score_min nought s
primary_gap p sc s f u v d m i a c ev eu em =
    let e : s ≡ score_gap standard sc p d =
    gap_scored standard p sc s f m.ln u v d a c ev eu (m.ln_is ∙ ap ln_of em) in
    (e, subst (In score_min nought) (sym e) (gap_score_in standard sc p d i))

-- ---- what a bank hears
module _ (b : Bank) (p : Tracker) (d : Float) where
  abbrev by_gap : Bool → Bool → Bank
  by_gap h z = cond h (cond z (held_gap_out b) (heard_gap standard b p d)) b

  pub gap_by : (h z : Bool) → (leb 2 b.width && p.pair.ready) ≡ h → pausing standard b p d ≡ z → by_gap h z
      ≡ on_gap standard b p d
  unfolding on_gap
  gap_by h z eh ez = sym (ap (λ (x : Bool). by_gap x (pausing standard b p d)) eh ∙ ap (by_gap h) ez)

  abbrev mark_by : Bool → Bool → Told
  mark_by live h = cond h (heard_mark standard b p d live) (stay b)

  pub mark_heard_by : (live h : Bool) → (leb 2 b.width && p.pair.ready) ≡ h → mark_by live h
      ≡ on_mark standard b p d live
  unfolding on_mark
  mark_heard_by live h e = ap (mark_by live) (sym e)

-- a mark that is scored, and not live; or live, and its streak
module _ (b c : TimingBank) (p : Tracker) (l : LogPair) (d : Float) (live : Bool) (ec : view c
    ≡ scored standard (view b) p d live) (el : (l.lo ≡ ln_dit p) × (l.hi ≡ ln_dah p)) where
  abbrev by : Bool → Bank → Told
  by z m = cond z (streaked standard m p d (view b).evidence.last_gap) (stay m)

  pub silent_told : live ≡ false → stay (view c) ≡ marked_told standard (view b) p d live
  silent_told e = ap stay ec ∙ ap (λ (z : Bool). by z (scored standard (view b) p d live)) (sym e)

  pub live_told : (side : Bool) → live ≡ true → side ≡ high p d →
      streak_at standard (view c) l.lo l.hi side d (view b).evidence.last_gap ≡ marked_told standard (view b) p d live
  live_told side e es =
      let gap = (view b).evidence.last_gap in
      ap (λ (m : Bank). streak_at standard m l.lo l.hi side d gap) ec
      ∙ ap (λ (z : Float). streak_at standard (scored standard (view b) p d live) z l.hi side d gap) el.0
      ∙ ap (λ (z : Float). streak_at standard (scored standard (view b) p d live) (ln_dit p) z side d gap) el.1
      ∙ ap (λ (z : Bool). streak_at standard (scored standard (view b) p d live) (ln_dit p) (ln_dah p) z d gap) es
      ∙ ap (λ (z : Bool). by z (scored standard (view b) p d live)) (sym e)

-- those that leave at a mark find their places
pub few_marked : (b : TimingBank) → Sturdy b → (p : Tracker) (l : LogPair) (d : Float) (live : Bool) (t : Told)
    → (l.lo ≡ ln_dit p) × (l.hi ≡ ln_dah p) → t ≡ marked_told standard (view b) p d live →
    length (and_then t (pruned_at standard l.lo l.hi)).left ≤ most_left
few_marked b s p l d live t el et =
    let n = few_heard standard standard_good (view b) s.score p d live in
    let k = crew_few_sturdy b s in
    let m = sift_many b s in
    subst (λ (x : Told). length x.left ≤ most_left) (sym (both_told (view b) p l d live t el et)) (omega arith)
  where
    both_told : (b : Bank) (p : Tracker) (l : LogPair) (d : Float) (live : Bool) (t : Told) → (l.lo ≡ ln_dit p)
        × (l.hi ≡ ln_dah p) → t ≡ marked_told standard b p d live
        → and_then t (pruned_at standard l.lo l.hi)
        ≡ and_then (marked_told standard b p d live) (pruned_at standard (ln_dit p) (ln_dah p))
    both_told b p l d live t el et =
        ap (λ (x : Told). and_then x (pruned_at standard l.lo l.hi)) et
        ∙ ap (λ (z : Float). and_then (marked_told standard b p d live) (pruned_at standard z l.hi)) el.0
        ∙ ap (λ (z : Float). and_then (marked_told standard b p d live) (pruned_at standard (ln_dit p) z)) el.1
