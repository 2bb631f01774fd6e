-- A form with what is no part of a state emptied, and every other number as it stands. Definitions only.
use Rattle.std.specs.Prelude.{◌≡◌, true, cond, eqb}
use Rattle.ranges.specs.Limits.{nought}
use Rattle.plain_tracker.specs.declared.PlainPair.{PlainPair}
use Rattle.plain_tracker.specs.declared.PlainEntry.{PlainEntry}
use Rattle.plain_tracker.specs.declared.PlainTracker.{PlainTracker}
use Rattle.plain_tracker.specs.Plain.{as_flag, carried, first_of, zeros, blank_entry}
use Rattle.plain.specs.declared.PlainHypothesis.{PlainHypothesis}
use Rattle.plain.specs.declared.PlainRecord.{PlainRecord}
use Rattle.plain.specs.declared.PlainBank.{PlainBank}
use Rattle.plain.specs.Plain.{blank_hyp, blank_record}
use Rattle.plain_station.specs.declared.PlainStation.{PlainStation}
use Rattle.plain_station.specs.Plain.{plain_station, station_of, is_station}

abbrev pub tidied_pair : PlainPair → PlainPair
tidied_pair p = record {
  lo = p.lo;
  hi = p.hi;
  init = first_of p.init_len p.init;
  init_len = p.init_len;
  ready = p.ready;
  confirmed = p.confirmed;
  placeholder_is_lo = p.placeholder_is_lo;
  pad_placeholder_is_lo = zeros 5;
  lo_n = p.lo_n;
}

abbrev pub tidied_entry : PlainEntry → PlainEntry
tidied_entry p = record {
  dur_ms = p.dur_ms;
  assigned_dit = p.assigned_dit;
  pad_assigned_dit = zeros 3;
  pre_lo = p.pre_lo;
  pre_hi = p.pre_hi;
}

abbrev pub tidied_tracker : PlainTracker → PlainTracker
tidied_tracker p = record {
  pair = tidied_pair p.pair;
  ring = carried tidied_entry blank_entry p.ring_len p.ring;
  ring_len = p.ring_len;
  has_wpm = p.has_wpm;
  pad_has_wpm = zeros 3;
  wpm_ema = cond (as_flag p.has_wpm) p.wpm_ema nought;
  recent = first_of p.recent_len p.recent;
  pad_recent = zeros 4;
  recent_len = p.recent_len;
  has_egap = p.has_egap;
  pad_has_egap = zeros 3;
  mu_egap_ms = cond (as_flag p.has_egap) p.mu_egap_ms nought;
  has_hint = p.has_hint;
  pad_has_hint = zeros 3;
  ratio_hint = cond (as_flag p.has_hint) p.ratio_hint nought;
  regime = p.regime;
  badlock_recovered = p.badlock_recovered;
  lo_uncorroborated = p.lo_uncorroborated;
  pad_lo_uncorroborated = zeros 2;
}

-- only a former primary, 2, has marks of protection left
abbrev pub tidied_hyp : PlainHypothesis → PlainHypothesis
tidied_hyp p = record {
  tracker = tidied_tracker p.tracker;
  score = p.score;
  gap_score = p.gap_score;
  lead_marks = p.lead_marks;
  age_marks = p.age_marks;
  origin = p.origin;
  pad_origin = zeros 3;
  retain_marks = cond (eqb p.origin 2) p.retain_marks 0;
  reported = p.reported;
  pad_reported = zeros 3;
  ln_lo = p.ln_lo;
  ln_hi = p.ln_hi;
  pad_ln_hi = zeros 4;
  serial = p.serial;
}

abbrev pub tidied_record : PlainRecord → PlainRecord
tidied_record p = record {
  mark_index = p.mark_index;
  from_dit_ms = p.from_dit_ms;
  to_dit_ms = p.to_dit_ms;
  applied = p.applied;
  pad_applied = zeros 7;
}

abbrev pub tidied_bank : PlainBank → PlainBank
tidied_bank p = record {
  width = p.width;
  switching = p.switching;
  pad_switching = zeros 3;
  primary_score = p.primary_score;
  primary_gap_score = p.primary_gap_score;
  pad_primary_gap_score = zeros 4;
  challengers = carried tidied_hyp blank_hyp p.challengers_len p.challengers;
  challengers_len = p.challengers_len;
  streak = first_of p.streak_len p.streak;
  streak_len = p.streak_len;
  streak_gaps = first_of p.streak_gaps_len p.streak_gaps;
  streak_gaps_len = p.streak_gaps_len;
  has_side = p.has_side;
  streak_side = cond (as_flag p.has_side) p.streak_side 0;
  has_last_gap = p.has_last_gap;
  pad_has_last_gap = zeros 1;
  last_gap = cond (as_flag p.has_last_gap) p.last_gap nought;
  marks_seen = p.marks_seen;
  gaps_seen = p.gaps_seen;
  has_pending = p.has_pending;
  pad_has_pending = zeros 7;
  pending = cond (as_flag p.has_pending) p.pending 0;
  log = carried tidied_record blank_record p.log_len p.log;
  log_len = p.log_len;
  started = p.started;
}

abbrev pub tidied : PlainStation → PlainStation
tidied p = record {
  primary = tidied_tracker p.primary;
  serial = p.serial;
  bank = tidied_bank p.bank;
  twins = p.twins;
  outscored = p.outscored;
  aged = p.aged;
  replaced = p.replaced;
  cleared = p.cleared;
  accepted = p.accepted;
}

-- a form that is a station's, read and written again, is as it was but for that: no flag, origin or number is taken for another
abbrev pub Returned : Type 0
Returned = (p : PlainStation) → is_station p ≡ true → plain_station (station_of p) ≡ tidied p
