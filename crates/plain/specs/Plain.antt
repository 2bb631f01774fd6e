-- What the plain form of a bank means: numbers for where a hypothesis came from and why it left, and for flags; what lies beyond a count, or is marked absent, is left empty. Definitions only.
use Rattle.std.specs.Prelude.{◌≡◌, Bool, true, false, Option, Result, Ok, Err, cond, ◌&&◌, ℕ, eqb, leb, take}
use Rattle.refusals.specs.declared.Refusal.{Refusal}
use Rattle.refusals.specs.declared.Refusal.TheVariants.{UnsoundState}
use Rattle.ranges.specs.Limits.{nought}
use Rattle.std.specs.List.{list_all}
use Rattle.std.specs.Option.{unwrap_or}
use Rattle.tracker.specs.Parts.{blank}
use Rattle.bank_model.specs.declared.Origin.{Origin}
use Rattle.bank_model.specs.declared.Origin.TheVariants.{Bootstrap, Streak, FormerPrimary}
use Rattle.bank_model.specs.declared.Cause.{Cause}
use Rattle.bank_model.specs.declared.Cause.TheVariants.{Twin, Outscored, Aged, Replaced, Cleared}
use Rattle.bank_model.specs.declared.Departure.{Departure}
use Rattle.bank_model.specs.declared.SwitchRecord.{SwitchRecord}
use Rattle.rival.specs.declared.TimingHypothesis.{TimingHypothesis}
use Rattle.bank.specs.declared.TimingBank.{TimingBank}
use Rattle.plain_tracker.specs.Plain.{as_flag, as_number, is_flag, carried, first_of, zeros, has, optional, or_nought, plain_tracker, tracker_of, is_tracker}
use Rattle.plain.specs.declared.PlainRecord.{PlainRecord}
use Rattle.plain.specs.declared.PlainHypothesis.{PlainHypothesis}
use Rattle.plain.specs.declared.PlainBank.{PlainBank}
use Rattle.plain.specs.declared.PlainDeparture.{PlainDeparture}

-- "whether it came from the bootstrap, a streak or a former primary": 0, 1, 2
abbrev pub origin_code : Origin → ℕ
origin_code Bootstrap = 0
origin_code Streak = 1
origin_code (FormerPrimary n) = 2

-- "(with marks of protection left)"; 0 where there are none
abbrev pub retained : Origin → ℕ
retained Bootstrap = 0
retained Streak = 0
retained (FormerPrimary n) = n

-- the origin of a number; of one above 2, which no bank has, the first
abbrev pub origin_of : ℕ → ℕ → Origin
origin_of n marks = cond (eqb n 1) Streak (cond (eqb n 2) (FormerPrimary marks) Bootstrap)

-- "twin or else outscored (12 or more behind) or else aged (64 marks) at `prune`, replaced at `spawn`, cleared at clear or seed": 0 to 4
abbrev pub cause_code : Cause → ℕ
cause_code Twin = 0
cause_code Outscored = 1
cause_code Aged = 2
cause_code Replaced = 3
cause_code Cleared = 4

-- ---- a challenger

abbrev pub plain_hyp : TimingHypothesis → PlainHypothesis
plain_hyp h = record {
  tracker = plain_tracker h.tracker;
  score = h.score;
  gap_score = h.gap_score;
  lead_marks = h.lead_marks;
  age_marks = h.age_marks;
  origin = origin_code h.origin;
  pad_origin = zeros 3;
  retain_marks = retained h.origin;
  reported = as_number h.reported;
  pad_reported = zeros 3;
  ln_lo = h.ln_lo;
  ln_hi = h.ln_hi;
  pad_ln_hi = zeros 4;
  serial = h.serial;
}

abbrev pub hyp_of : PlainHypothesis → TimingHypothesis
hyp_of p = record {
  tracker = tracker_of p.tracker;
  score = p.score;
  gap_score = p.gap_score;
  lead_marks = p.lead_marks;
  age_marks = p.age_marks;
  origin = origin_of p.origin p.retain_marks;
  reported = as_flag p.reported;
  ln_lo = p.ln_lo;
  ln_hi = p.ln_hi;
  serial = p.serial;
}

-- a number that an origin has, and flags
abbrev pub is_hyp : PlainHypothesis → Bool
is_hyp p = leb p.origin 2 && (is_flag p.reported && is_tracker p.tracker)

-- places that hold none
abbrev pub no_hyp : TimingHypothesis
no_hyp = record {
  tracker = blank;
  score = nought;
  gap_score = nought;
  lead_marks = 0;
  age_marks = 0;
  origin = Bootstrap;
  reported = false;
  ln_lo = nought;
  ln_hi = nought;
  serial = 0;
}

abbrev pub blank_hyp : PlainHypothesis
blank_hyp = plain_hyp no_hyp

-- ---- a switch record

abbrev pub plain_record : SwitchRecord → PlainRecord
plain_record s = record {
  mark_index = s.mark_index;
  from_dit_ms = s.from_dit_ms;
  to_dit_ms = s.to_dit_ms;
  applied = as_number s.applied;
  pad_applied = zeros 7;
}

abbrev pub record_of : PlainRecord → SwitchRecord
record_of p = record { mark_index = p.mark_index; from_dit_ms = p.from_dit_ms; to_dit_ms = p.to_dit_ms; applied = as_flag p.applied }

abbrev pub is_record : PlainRecord → Bool
is_record p = is_flag p.applied

abbrev pub no_record : SwitchRecord
no_record = record { mark_index = 0; from_dit_ms = nought; to_dit_ms = nought; applied = false }

abbrev pub blank_record : PlainRecord
blank_record = plain_record no_record

-- ---- the bank: "Places beyond a count and numbers marked absent are no part of a state", so they are left empty

-- a place where there is one, else 0
abbrev pub or_zero : Option ℕ → ℕ
or_zero n = unwrap_or n 0

-- the number of a side where there is one, else 0
abbrev pub side_number : Option Bool → ℕ
side_number side = as_number (unwrap_or side false)

abbrev pub plain_bank : TimingBank → PlainBank
plain_bank b = record {
  width = b.width;
  switching = as_number b.switching;
  pad_switching = zeros 3;
  primary_score = b.primary_score;
  primary_gap_score = b.primary_gap_score;
  pad_primary_gap_score = zeros 4;
  challengers = carried plain_hyp blank_hyp b.challengers_len b.challengers;
  challengers_len = b.challengers_len;
  streak = first_of b.streak_len b.streak;
  streak_len = b.streak_len;
  streak_gaps = first_of b.streak_gaps_len b.streak_gaps;
  streak_gaps_len = b.streak_gaps_len;
  has_side = has b.streak_side;
  streak_side = side_number b.streak_side;
  has_last_gap = has b.last_gap;
  pad_has_last_gap = zeros 1;
  last_gap = or_nought b.last_gap;
  marks_seen = b.marks_seen;
  gaps_seen = b.gaps_seen;
  has_pending = has b.pending;
  pad_has_pending = zeros 7;
  pending = or_zero b.pending;
  log = carried plain_record blank_record b.log_len b.log;
  log_len = b.log_len;
  started = b.started;
}

abbrev pub bank_of : PlainBank → TimingBank
bank_of p = record {
  width = p.width;
  switching = as_flag p.switching;
  primary_score = p.primary_score;
  primary_gap_score = p.primary_gap_score;
  challengers = carried hyp_of no_hyp p.challengers_len p.challengers;
  challengers_len = p.challengers_len;
  streak = p.streak;
  streak_len = p.streak_len;
  streak_gaps = p.streak_gaps;
  streak_gaps_len = p.streak_gaps_len;
  streak_side = optional p.has_side (as_flag p.streak_side);
  last_gap = optional p.has_last_gap p.last_gap;
  marks_seen = p.marks_seen;
  gaps_seen = p.gaps_seen;
  pending = optional p.has_pending p.pending;
  log = carried record_of no_record p.log_len p.log;
  log_len = p.log_len;
  started = p.started;
}

-- ---- whether a plain form is that of a bank

-- a flag, and where it says yes another one
abbrev pub is_side : ℕ → ℕ → Bool
is_side has side = cond (eqb has 1) (is_flag side) (eqb has 0)

abbrev pub are_flags : PlainBank → Bool
are_flags p = (is_flag p.switching && is_side p.has_side p.streak_side) && (is_flag p.has_last_gap && is_flag p.has_pending)

unfoldable pub is_crew : PlainBank → Bool
is_crew p = list_all is_hyp (take p.challengers_len p.challengers)

unfoldable pub is_log : PlainBank → Bool
is_log p = list_all is_record (take p.log_len p.log)

abbrev pub is_bank : PlainBank → Bool
is_bank p = are_flags p && (is_crew p && is_log p)

-- a form that is read: what it means, where it is one; else refusal 1
abbrev pub Reads : {A : Type 0} → Bool → A → Result A Refusal → Type 0
Reads is x (Ok y) = (is ≡ true) × (y ≡ x)
Reads is x (Err r) = (is ≡ false) × (r ≡ UnsoundState)

-- ---- those that left

abbrev pub plain_departure : Departure → PlainDeparture
plain_departure d = record { serial = d.serial; cause = cause_code d.cause; pad_cause = zeros 7 }

abbrev pub no_departure : PlainDeparture
no_departure = record { serial = 0; cause = 0; pad_cause = zeros 7 }
