-- A bank goes into its plain form and comes back: all that is part of its state. Assumes nothing.
use mathlib.Core.Path.{◌≡◌, refl, ap, sym, ◌∙◌, subst}
use mathlib.Core.Bool.{Bool, true, ◌&&◌}
use mathlib.Core.List.{List, [], ◌∷◌, map}
use Prim.Native.Nat.{ℕ, zero, suc}
use lib.Dec.{T, leb}
use lib.ListN.{take}
use lib.Ieee.{Float}
use Rattle.ranges.specs.Settings.{Settings, standard}
use Rattle.ranges.specs.Limits.{nought, duration_min, duration_max}
use Rattle.ranges.specs.Interval.{AllIn}
use Rattle.std.specs.List.{AllByRecursion, list_all}
use Rattle.std.specs.Prelude.{Option as Given, Some, None, is_some}
use Rattle.marks.specs.Lists.{all}
use Rattle.bank_model.specs.declared.Origin.{Origin}
use Rattle.bank_model.specs.declared.Origin.TheVariants.{Bootstrap, Streak, FormerPrimary}
use Rattle.bank_model.specs.declared.SwitchRecord.{SwitchRecord}
use Rattle.bank_model.specs.Scores.{ln_dit, ln_dah}
use Rattle.tracker.specs.declared.SpeedTracker.{SpeedTracker}
use Rattle.rival.specs.declared.TimingHypothesis.{TimingHypothesis}
use Rattle.rival.specs.Parts.{Fit}
use Rattle.rival.specs.Sound.{same, scores_sound, hyp_sound}
use Rattle.rival.specs.View.{view_hyp}
use Rattle.bank.specs.declared.TimingBank.{TimingBank}
use Rattle.bank.specs.Sturdy.{Sturdy}
use Rattle.bank.specs.Sound.{gap_sound, sound}
use Rattle.bank.specs.View.{view_all, view}
use Rattle.plain_tracker.specs.Plain.{as_flag, as_number, carried, first_of, zeros, has, optional, or_nought}
use Rattle.plain_tracker.proofs.Back.{flag_back, flag_named, trimmed_tracker, tracker_back, tracker_plain, tracker_view, tracker_sound, tracker_named}
use Rattle.plain_tracker.proofs.Carrying.{carried_back, carried_by, carried_long, carried_same, take_carried, take_kept, map_by, all_by}
use Rattle.plain.specs.Plain.{origin_code, retained, origin_of, plain_hyp, hyp_of, no_hyp, blank_hyp, is_hyp, plain_record, record_of, no_record, blank_record, is_record, or_zero, side_number, plain_bank, bank_of, is_side, is_crew, is_log, is_bank}

origin_back : (o : Origin) → origin_of (origin_code o) (retained o) ≡ o
origin_back Bootstrap = refl
origin_back Streak = refl
origin_back (FormerPrimary n) = refl

code_named : (o : Origin) → leb (origin_code o) 2 ≡ true
code_named Bootstrap = refl
code_named Streak = refl
code_named (FormerPrimary n) = refl

-- ---- a challenger whose tracker's places beyond a count, and numbers marked absent, are empty

abbrev pub with_tracker : TimingHypothesis → SpeedTracker → TimingHypothesis
with_tracker h t = record {
  tracker = t;
  score = h.score;
  gap_score = h.gap_score;
  lead_marks = h.lead_marks;
  age_marks = h.age_marks;
  origin = h.origin;
  reported = h.reported;
  ln_lo = h.ln_lo;
  ln_hi = h.ln_hi;
  serial = h.serial;
}

abbrev pub trimmed_hyp : TimingHypothesis → TimingHypothesis
trimmed_hyp h = with_tracker h (trimmed_tracker h.tracker)

pub hyp_back : (h : TimingHypothesis) → hyp_of (plain_hyp h) ≡ trimmed_hyp h
hyp_back h = λ i. record {
  tracker = tracker_back h.tracker i;
  score = h.score;
  gap_score = h.gap_score;
  lead_marks = h.lead_marks;
  age_marks = h.age_marks;
  origin = origin_back h.origin i;
  reported = flag_back h.reported i;
  ln_lo = h.ln_lo;
  ln_hi = h.ln_hi;
  serial = h.serial;
}

-- it has the same plain form, means the same, and is as sound
pub hyp_plain : (h : TimingHypothesis) → plain_hyp (trimmed_hyp h) ≡ plain_hyp h
hyp_plain h = λ i. record {
  tracker = tracker_plain h.tracker i;
  score = h.score;
  gap_score = h.gap_score;
  lead_marks = h.lead_marks;
  age_marks = h.age_marks;
  origin = origin_code h.origin;
  pad_origin = zeros 3;
  retain_marks = retained h.origin;
  reported = as_number h.reported;
  pad_reported = zeros 3;
  ln_lo = h.ln_lo;
  ln_hi = h.ln_hi;
  pad_ln_hi = zeros 4;
  serial = h.serial;
}

pub hyp_view : (h : TimingHypothesis) → view_hyp (trimmed_hyp h) ≡ view_hyp h
hyp_view h = λ i. record {
  tracker = tracker_view h.tracker i;
  score = h.score;
  gap_score = h.gap_score;
  lead = h.lead_marks;
  age = h.age_marks;
  origin = h.origin;
  reported = h.reported;
  serial = h.serial;
}

pub hyp_sound_law : (k : Settings) (h : TimingHypothesis) → hyp_sound k (trimmed_hyp h) ≡ hyp_sound k h
hyp_sound_law k h = λ i. tracker_sound k h.tracker i && (h.tracker.pair.ready && ((same h.ln_lo (ln_dit (tracker_view h.tracker i)) && same h.ln_hi (ln_dah (tracker_view h.tracker i))) && scores_sound h))

hyp_fit : (h : TimingHypothesis) → Fit h → Fit (trimmed_hyp h)
hyp_fit h f = record {
  tracker = subst T (sym (tracker_sound standard h.tracker)) f.tracker;
  ready = f.ready;
  ln_lo = f.ln_lo ∙ ap ln_dit (sym (tracker_view h.tracker));
  ln_hi = f.ln_hi ∙ ap ln_dah (sym (tracker_view h.tracker));
  score = f.score;
  score_gap = f.score_gap;
}

all_fit : (l : List TimingHypothesis) → AllByRecursion Fit l → AllByRecursion Fit (map trimmed_hyp l)
all_fit [] a = a
all_fit (h ∷ l) a = (hyp_fit h a.0, all_fit l a.1)

record_back : (s : SwitchRecord) → record_of (plain_record s) ≡ s
record_back s = λ i. record { mark_index = s.mark_index; from_dit_ms = s.from_dit_ms; to_dit_ms = s.to_dit_ms; applied = flag_back s.applied i }

-- ---- what may be absent

side_back : (x : Given Bool) → optional (has x) (as_flag (side_number x)) ≡ x
side_back None = refl
side_back (Some side) = ap Some (flag_back side)

gap_back : (x : Given Float) → optional (has x) (or_nought x) ≡ x
gap_back None = refl
gap_back (Some x) = refl

pub gap_sound_law : (x : Given Float) → gap_sound (optional (has x) (or_nought x)) ≡ gap_sound x
gap_sound_law None = refl
gap_sound_law (Some x) = refl

place_back : (x : Given ℕ) → optional (has x) (or_zero x) ≡ x
place_back None = refl
place_back (Some n) = refl

-- ---- a bank whose places beyond a count are empty

abbrev pub trimmed : TimingBank → TimingBank
trimmed b = record {
  width = b.width;
  switching = b.switching;
  primary_score = b.primary_score;
  primary_gap_score = b.primary_gap_score;
  challengers = carried trimmed_hyp no_hyp b.challengers_len b.challengers;
  challengers_len = b.challengers_len;
  streak = first_of b.streak_len b.streak;
  streak_len = b.streak_len;
  streak_gaps = first_of b.streak_gaps_len b.streak_gaps;
  streak_gaps_len = b.streak_gaps_len;
  streak_side = b.streak_side;
  last_gap = b.last_gap;
  marks_seen = b.marks_seen;
  gaps_seen = b.gaps_seen;
  pending = b.pending;
  log = carried (λ s. s) no_record b.log_len b.log;
  log_len = b.log_len;
  started = b.started;
}

pub bank_back : (b : TimingBank) → bank_of (plain_bank b) ≡ trimmed b
bank_back b = λ i. record {
  width = b.width;
  switching = flag_back b.switching i;
  primary_score = b.primary_score;
  primary_gap_score = b.primary_gap_score;
  challengers = carried_back plain_hyp hyp_of trimmed_hyp blank_hyp no_hyp hyp_back b.challengers_len b.challengers i;
  challengers_len = b.challengers_len;
  streak = first_of b.streak_len b.streak;
  streak_len = b.streak_len;
  streak_gaps = first_of b.streak_gaps_len b.streak_gaps;
  streak_gaps_len = b.streak_gaps_len;
  streak_side = side_back b.streak_side i;
  last_gap = gap_back b.last_gap i;
  marks_seen = b.marks_seen;
  gaps_seen = b.gaps_seen;
  pending = place_back b.pending i;
  log = carried_back plain_record record_of (λ s. s) blank_record no_record record_back b.log_len b.log i;
  log_len = b.log_len;
  started = b.started;
}

-- which has the same plain form, means the same, and is as sound
pub trimmed_plain : (b : TimingBank) → plain_bank (trimmed b) ≡ plain_bank b
trimmed_plain b =
    rw (
      carried_by plain_hyp trimmed_hyp blank_hyp no_hyp hyp_plain b.challengers_len b.challengers,
      carried_same (λ x. x) nought nought b.streak_len b.streak,
      carried_same (λ x. x) nought nought b.streak_gaps_len b.streak_gaps,
      carried_same plain_record blank_record no_record b.log_len b.log,
    )

-- the challengers within the count
pub crew_kept : (n : ℕ) (l : List TimingHypothesis) → take n (carried trimmed_hyp no_hyp n l) ≡ map trimmed_hyp (take n l)
crew_kept n l = take_carried trimmed_hyp no_hyp l n

crew_view : (n : ℕ) (l : List TimingHypothesis) → view_all n (carried trimmed_hyp no_hyp n l) ≡ view_all n l
crew_view n l = ap (map view_hyp) (crew_kept n l) ∙ map_by view_hyp trimmed_hyp hyp_view (take n l)

crew_sound : (k : Settings) (n : ℕ) (l : List TimingHypothesis) → all (hyp_sound k) (take n (carried trimmed_hyp no_hyp n l)) ≡ all (hyp_sound k) (take n l)
crew_sound k n l = ap (all (hyp_sound k)) (crew_kept n l) ∙ all_by (hyp_sound k) trimmed_hyp (hyp_sound_law k) (take n l)

pub trimmed_view : (b : TimingBank) → view (trimmed b) ≡ view b
trimmed_view b =
    rw (
      crew_view b.challengers_len b.challengers,
      take_kept nought b.streak_len b.streak,
      take_kept nought b.streak_gaps_len b.streak_gaps,
      take_kept no_record b.log_len b.log,
    )

pub trimmed_sound : (k : Settings) (n : ℕ) (b : TimingBank) → sound k n (trimmed b) ≡ sound k n b
unfolding sound
trimmed_sound k n b =
    rw (
      crew_sound k b.challengers_len b.challengers,
      take_kept nought b.streak_len b.streak,
      take_kept nought b.streak_gaps_len b.streak_gaps,
      take_kept no_record b.log_len b.log,
    )

trimmed_sturdy : (b : TimingBank) → Sturdy b → Sturdy (trimmed b)
trimmed_sturdy b s = record {
  wide_enough = s.wide_enough;
  wide = s.wide;
  below = s.below;
  crew = record {
    few = s.crew.few;
    long = carried_long trimmed_hyp no_hyp b.challengers b.challengers_len ∙ s.crew.long;
    each = subst (AllByRecursion Fit) (sym (crew_kept b.challengers_len b.challengers)) (all_fit (take b.challengers_len b.challengers) s.crew.each);
  };
  score = s.score;
  score_gap = s.score_gap;
  streaks = record {
    few = s.streaks.few;
    paired = s.streaks.paired;
    long = carried_long (λ x. x) nought b.streak b.streak_len ∙ s.streaks.long;
    gaps_long = carried_long (λ x. x) nought b.streak_gaps b.streak_gaps_len ∙ s.streaks.gaps_long;
    marks = subst (AllIn duration_min duration_max) (sym (take_kept nought b.streak_len b.streak)) s.streaks.marks;
    between = subst (AllIn duration_min duration_max) (sym (take_kept nought b.streak_gaps_len b.streak_gaps)) s.streaks.between;
  };
  last_gap = s.last_gap;
  log = record {
    few = s.log.few;
    long = carried_long (λ x. x) no_record b.log b.log_len ∙ s.log.long;
    each = subst (AllByRecursion _) (sym (take_kept no_record b.log_len b.log)) s.log.each;
  };
  pending = s.pending;
}

-- ---- the plain form of a bank

pub bank_view : (b : TimingBank) → view (bank_of (plain_bank b)) ≡ view b
bank_view b = ap view (bank_back b) ∙ trimmed_view b

pub bank_sound : (k : Settings) (n : ℕ) (b : TimingBank) → sound k n (bank_of (plain_bank b)) ≡ sound k n b
bank_sound k n b = ap (sound k n) (bank_back b) ∙ trimmed_sound k n b

pub bank_sturdy : (b : TimingBank) → Sturdy b → Sturdy (bank_of (plain_bank b))
bank_sturdy b h = subst Sturdy (sym (bank_back b)) (trimmed_sturdy b h)

-- no number stands in it that its bank has not
pub bank_neat : (b : TimingBank) → plain_bank (bank_of (plain_bank b)) ≡ plain_bank b
bank_neat b = ap plain_bank (bank_back b) ∙ trimmed_plain b

-- and it is known for a bank's
hyp_named : (h : TimingHypothesis) → is_hyp (plain_hyp h) ≡ true
hyp_named h = rw (code_named h.origin, flag_named h.reported, tracker_named h.tracker)

crew_named : (n : ℕ) (l : List TimingHypothesis) → list_all is_hyp (map plain_hyp (take n l)) ≡ true
crew_named zero l = refl
crew_named (suc n) [] = refl
crew_named (suc n) (h ∷ l) = rw (hyp_named h, crew_named n l)

log_named : (n : ℕ) (l : List SwitchRecord) → list_all is_record (map plain_record (take n l)) ≡ true
log_named zero l = refl
log_named (suc n) [] = refl
log_named (suc n) (s ∷ l) = rw (flag_named s.applied, log_named n l)

side_named : (x : Given Bool) → is_side (has x) (side_number x) ≡ true
side_named None = refl
side_named (Some side) = flag_named side

pub bank_named : (b : TimingBank) → is_bank (plain_bank b) ≡ true
unfolding is_crew is_log
bank_named b =
    rw (
      flag_named b.switching,
      side_named b.streak_side,
      flag_named (is_some b.last_gap),
      flag_named (is_some b.pending),
      take_carried plain_hyp blank_hyp b.challengers b.challengers_len,
      crew_named b.challengers_len b.challengers,
      take_carried plain_record blank_record b.log b.log_len,
      log_named b.log_len b.log,
    )
