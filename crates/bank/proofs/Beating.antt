-- A live mark that makes no candidate, and a gap that is no pause. Assumes nothing.
use Rattle.std.proofs.Common.{
  ◌≡◌,
  ℕ,
  ◌+◌,
  ◌<◌,
  ◌≤◌,
  Bool,
  true,
  false,
  cond,
  ltb,
  List,
  [],
  ◌∷◌,
  ◌++◌,
  map,
  length,
  take,
  sym,
  refl,
  ap,
  ◌∙◌,
  arith,
  length-append,
  lt-ltb,
}
use Rattle.std.specs.Prelude.{None, Some}
use mathlib.Core.Option.{Option, none, some}
use lib.Ieee.{Float}
use Rattle.ranges.specs.Settings.{standard}
use Rattle.ranges.specs.Limits.{nought, score_min, duration_min, duration_max}
use Rattle.ranges.specs.Interval.{In}
use Rattle.tracker.specs.Model.{Tracker}
use Rattle.bank_model.specs.declared.logs.LogPair.{LogPair}
use Rattle.bank_model.specs.Model.{Evidence, Bank, Told, stay, and_then, with_challengers, with_evidence, with_last_gap}
use Rattle.bank_model.specs.Scores.{ln_dit, ln_dah, score_mark, score_gap}
use Rattle.bank_model.specs.Steps.{
  marked,
  gapped,
  heard_gap,
  goes_on,
  streak_on,
  short,
  streak_at,
  spawned_if_at,
  emptied,
  candidate_at,
  scored,
  high,
  marked_told,
  pruned_at,
  leading,
  heard_mark,
}
use Rattle.bank_model.specs.declared.Origin.TheVariants.{Streak}
use Rattle.bank.specs.declared.TimingBank.{TimingBank}
use Rattle.bank.specs.declared.run.Run.{Run}
use Rattle.bank.specs.View.{view}
use Rattle.bank.specs.Sturdy.{Sturdy}
use Rattle.bank.specs.Beats.{struck, Runs, beaten}
use Rattle.bank.proofs.Stock.{Mapping, map_ends}
use Rattle.bank.proofs.Streaking.{stroke, stroke_sturdy, size}
use Rattle.bank.proofs.Hearing.{heard_bank, heard_sturdy}

-- ---- the streak stays short
short_by : (v : Evidence) (d : Float) (y : Bool) → length v.streak < 3 →
    ltb (length (cond y (v.streak ++ (d ∷ [])) (d ∷ []))) 4 ≡ true
short_by v d true h =
    let k = length-append v.streak (d ∷ []) in
    lt-ltb (length (v.streak ++ (d ∷ []))) 4 (omega arith)
short_by v d false h = refl

stays_short : (v : Evidence) (side : Bool) (d : Float) (gap : Option Float) → length v.streak < 3 →
    short (streak_on v side d gap) ≡ true
stays_short v side d gap h = short_by v d (goes_on v side) h

pub few_marks : (b : TimingBank) → Sturdy b → b.streak_len < 3 → length (view b).evidence.streak < 3
few_marks b s h = let e = size b s in omega arith

-- ---- the mark, for the primary and the streak
module _ (b : TimingBank) (y : Sturdy b) (p : Tracker) (side : Bool) (d s : Float) (r : Run)
    (k : Runs (view b).evidence side d (view b).evidence.last_gap r) (e : (s ≡ score_mark b.primary_score p d)
    × In score_min nought s) where
  abbrev out : TimingBank
  out = heard_bank (stroke b r.marks r.marks_len r.gaps r.gaps_len (Some side)) s b.primary_gap_score None
      (b.marks_seen + 1) b.gaps_seen

  abbrev with_parts : Float → List Float → List Float → Bank
  with_parts z marks gaps = record {
    width = b.width;
    switching = b.switching;
    score = z;
    gap_score = b.primary_gap_score;
    challengers = (view b).challengers;
    evidence = record { streak = marks; gaps = gaps; side = some side; last_gap = none };
    marks = b.marks_seen + 1;
    gaps = b.gaps_seen;
    pending = (view b).pending;
    log = (view b).log;
    started = b.started;
  }

  pub beaten_is : view out ≡ beaten (view b) p side d
  beaten_is =
      ap (λ (z : Float). with_parts z (take r.marks_len r.marks) (take r.gaps_len r.gaps)) e.0
      ∙ ap (λ (l : List Float). with_parts (score_mark b.primary_score p d) l (take r.gaps_len r.gaps)) k.marks
      ∙ ap (with_parts (score_mark b.primary_score p d) (struck (view b).evidence side d).streak) k.gaps

  pub beaten_sturdy : Sturdy out
  beaten_sturdy =
      heard_sturdy _ (stroke_sturdy b y r.marks r.marks_len r.gaps r.gaps_len (Some side) r.sound) s b.primary_gap_score
      None (b.marks_seen + 1) b.gaps_seen e.1 y.score_gap tt

-- ---- all of it: c has the mark for the primary and the streak
module _ (b c : Bank) (p : Tracker) (l : LogPair) (d : Float) (side : Bool) (ec : c
    ≡ beaten b p side d) (el : (l.lo ≡ ln_dit p) × (l.hi ≡ ln_dah p)) (es : side
    ≡ high p d) (h : length b.evidence.streak < 3) where
  abbrev now : Bank
  now = scored standard b p d true

  abbrev v : Evidence
  v = struck b.evidence side d

  abbrev end : Bool → Told
  end z = cond z (stay (with_evidence now v))
      (spawned_if_at (with_evidence now (emptied v)) l.lo l.hi Streak (candidate_at standard l.lo l.hi v))

  abbrev at : Float → Float → Bool → Told
  at x y z = streak_at standard now x y z d b.evidence.last_gap

  streak_told : stay (with_evidence now v) ≡ at l.lo l.hi side
  unfolding streak_at
  streak_told = ap end (sym (stays_short now.evidence side d b.evidence.last_gap h))

  met_told : stay (with_challengers c (map (marked standard d true) c.challengers)) ≡ marked_told standard b p d true
  met_told =
      ap (λ (m : Bank). stay (with_challengers m (map (marked standard d true) m.challengers))) ec ∙ streak_told
      ∙ ap (λ (z : Float). at z l.hi side) el.0 ∙ ap (λ (z : Float). at (ln_dit p) z side) el.1
      ∙ ap (at (ln_dit p) (ln_dah p)) es

  beat_told : leading standard
      (and_then (stay (with_challengers c (map (marked standard d true) c.challengers))) (pruned_at standard l.lo l.hi))
      ≡ heard_mark standard b p d true
  beat_told =
      ap (leading standard)
      (ap (λ (m : Told). and_then m (pruned_at standard l.lo l.hi)) met_told
      ∙ ap (λ (z : Float). and_then (marked_told standard b p d true) (pruned_at standard z l.hi)) el.0
      ∙ ap (λ (z : Float). and_then (marked_told standard b p d true) (pruned_at standard (ln_dit p) z)) el.1)

  -- x is the mark
  pub beat_heard : (x : Float) → x ≡ d →
      leading standard
      (and_then (stay (with_challengers c (map (marked standard x true) c.challengers))) (pruned_at standard l.lo l.hi))
      ≡ heard_mark standard b p d true
  beat_heard x e =
      ap (λ (z : Float). leading standard
      (and_then (stay (with_challengers c (map (marked standard z true) c.challengers)))
      (pruned_at standard l.lo l.hi))) e ∙ beat_told

-- ---- a gap that is no pause: c has it for each challenger
module _ (b : TimingBank) (y : Sturdy b) (p : Tracker) (d s g : Float) (es : (s
    ≡ score_gap standard b.primary_score p d)
    × In score_min nought s) (eg : (g ≡ score_gap standard b.primary_gap_score p d) × In score_min nought g) where
  abbrev before : TimingBank
  before = heard_bank b s g (Some d) b.marks_seen (b.gaps_seen + 1)

  pub before_sturdy : In duration_min duration_max d → Sturdy before
  before_sturdy i = heard_sturdy b y s g (Some d) b.marks_seen (b.gaps_seen + 1) es.1 eg.1 i

  abbrev with_scores : Float → Float → Bank
  with_scores x z = record {
    width = b.width;
    switching = b.switching;
    score = x;
    gap_score = z;
    challengers = map (gapped standard d) (view b).challengers;
    evidence = with_last_gap (view b).evidence (some d);
    marks = b.marks_seen;
    gaps = b.gaps_seen + 1;
    pending = (view b).pending;
    log = (view b).log;
    started = b.started;
  }

  pub space_is : (c : TimingBank) (x : Float) (i : ℕ) → x ≡ d → b.challengers_len ≤ i →
      Mapping (gapped standard x) before c i → view c ≡ heard_gap standard (view b) p d
  space_is c x i e h k =
      map_ends (gapped standard x) before c i h k
      ∙ ap (λ (z : Float). with_challengers (view before) (map (gapped standard z) (view b).challengers)) e
      ∙ ap (λ (z : Float). with_scores z g) es.0 ∙ ap (with_scores (score_gap standard b.primary_score p d)) eg.0
