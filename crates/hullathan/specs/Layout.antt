-- Structs whose numbers are their places: for comparing a host's declarations with the library's. Definitions only.
use Rattle.std.specs.Prelude.{List, [], ◌∷◌, ℕ, zero, suc, ◌+◌, Float}
use Rattle.std.specs.Float.{binary32}
use Rattle.std.specs.Float.Ieee.{of_bits}
use Rattle.sender.specs.declared.ClassStats.{ClassStats}
use Rattle.sender.specs.declared.SenderTiming.{SenderTiming}
use Rattle.plain_sender.specs.declared.SenderReading.{SenderReading}
use Rattle.plain_tracker.specs.declared.PlainPair.{PlainPair}
use Rattle.plain_tracker.specs.declared.PlainEntry.{PlainEntry}
use Rattle.plain_tracker.specs.declared.PlainTracker.{PlainTracker}
use Rattle.plain.specs.declared.PlainRecord.{PlainRecord}
use Rattle.plain.specs.declared.PlainHypothesis.{PlainHypothesis}
use Rattle.plain.specs.declared.PlainBank.{PlainBank}
use Rattle.plain.specs.declared.PlainDeparture.{PlainDeparture}
use Rattle.plain_station.specs.declared.PlainStation.{PlainStation}
use Rattle.hullathan.specs.declared.PlainEvent.{PlainEvent}
use Rattle.hullathan.specs.declared.PlainAnswer.{PlainAnswer}
use Rattle.hullathan.specs.declared.PlainBatch.{PlainBatch}
use Rattle.hullathan.specs.declared.PlainRival.{PlainRival}
use Rattle.hullathan.specs.declared.PlainReading.{PlainReading}

-- the f32 with these bits
abbrev pub float : ℕ → Float
float n = of_bits binary32 n

-- n of the first, and then the last
unfoldable pub ending : {A : Type 0} → ℕ → A → A → List A
ending zero x z = z ∷ []
ending (suc n) x z = x ∷ ending n x z

-- k bytes of a pad at a place, the last with 100 more
unfoldable pub bytes : ℕ → ℕ → List ℕ
bytes zero n = []
bytes (suc zero) n = (100 + n) ∷ []
bytes (suc (suc k)) n = n ∷ bytes (suc k) n

abbrev pub pair : PlainPair
pair = record {
  lo = float 1;
  hi = float 2;
  init = ending 11 (float 3) (float 103);
  init_len = 4;
  ready = 5;
  confirmed = 6;
  placeholder_is_lo = 7;
  pad_placeholder_is_lo = bytes 5 8;
  lo_n = 9;
}

abbrev pub entry : ℕ → PlainEntry
entry m = record {
  dur_ms = float (1 + m);
  assigned_dit = 2 + m;
  pad_assigned_dit = bytes 3 (3 + m);
  pre_lo = float (4 + m);
  pre_hi = float (5 + m);
}

abbrev pub tracker : PlainTracker
tracker = record {
  pair = pair;
  ring = ending 11 (entry 0) (entry 100);
  ring_len = 3;
  has_wpm = 4;
  pad_has_wpm = bytes 3 5;
  wpm_ema = float 6;
  recent = ending 4 (float 7) (float 107);
  pad_recent = bytes 4 8;
  recent_len = 9;
  has_egap = 10;
  pad_has_egap = bytes 3 11;
  mu_egap_ms = float 12;
  has_hint = 13;
  pad_has_hint = bytes 3 14;
  ratio_hint = float 15;
  regime = 16;
  badlock_recovered = 17;
  lo_uncorroborated = 18;
  pad_lo_uncorroborated = bytes 2 19;
}

abbrev pub hypothesis : ℕ → PlainHypothesis
hypothesis m = record {
  tracker = tracker;
  score = float (2 + m);
  gap_score = float (3 + m);
  lead_marks = 4 + m;
  age_marks = 5 + m;
  origin = 6 + m;
  pad_origin = bytes 3 (7 + m);
  retain_marks = 8 + m;
  reported = 9 + m;
  pad_reported = bytes 3 (10 + m);
  ln_lo = float (11 + m);
  ln_hi = float (12 + m);
  pad_ln_hi = bytes 4 (13 + m);
  serial = 14 + m;
}

abbrev pub record_at : ℕ → PlainRecord
record_at m = record {
  mark_index = 1 + m;
  from_dit_ms = float (2 + m);
  to_dit_ms = float (3 + m);
  applied = 4 + m;
  pad_applied = bytes 7 (5 + m);
}

abbrev pub bank : PlainBank
bank = record {
  width = 1;
  switching = 2;
  pad_switching = bytes 3 3;
  primary_score = float 4;
  primary_gap_score = float 5;
  pad_primary_gap_score = bytes 4 6;
  challengers = ending 7 (hypothesis 0) (hypothesis 100);
  challengers_len = 8;
  streak = ending 3 (float 9) (float 109);
  streak_len = 10;
  streak_gaps = ending 3 (float 11) (float 111);
  streak_gaps_len = 12;
  has_side = 13;
  streak_side = 14;
  has_last_gap = 15;
  pad_has_last_gap = bytes 1 16;
  last_gap = float 17;
  marks_seen = 18;
  gaps_seen = 19;
  has_pending = 20;
  pad_has_pending = bytes 7 21;
  pending = 22;
  log = ending 15 (record_at 0) (record_at 100);
  log_len = 24;
  started = 25;
}

abbrev pub departure : ℕ → PlainDeparture
departure m = record {
  serial = 1 + m;
  cause = 2 + m;
  pad_cause = bytes 7 (3 + m);
}

abbrev pub answer : ℕ → PlainAnswer
answer m = record {
  code = 1 + m;
  pad_code = bytes 3 (2 + m);
  dit_ms = float (3 + m);
  dah_ms = float (4 + m);
  pad_dah_ms = bytes 4 (5 + m);
  serial = 6 + m;
  challengers = 7 + m;
  left = ending 6 (departure 0) (departure 100);
  left_len = 9 + m;
}

abbrev pub event : ℕ → PlainEvent
event m = record {
  kind = 1 + m;
  live = 2 + m;
  pad_live = bytes 2 (3 + m);
  value = float (4 + m);
}

abbrev pub rival : ℕ → PlainRival
rival m = record {
  serial = 1 + m;
  dit_ms = float (2 + m);
  dah_ms = float (3 + m);
  score = float (4 + m);
  gap_score = float (5 + m);
}

abbrev pub station : PlainStation
station = record {
  primary = tracker;
  serial = 2;
  bank = bank;
  twins = 4;
  outscored = 5;
  aged = 6;
  replaced = 7;
  cleared = 8;
  accepted = 9;
}

abbrev pub batch : PlainBatch
batch = record {
  len = 1;
  events = ending 63 (event 0) (event 100);
  answers = ending 63 (answer 0) (answer 100);
}

abbrev pub reading : PlainReading
reading = record {
  code = 1;
  ready = 2;
  has_wpm = 3;
  switching = 4;
  pad_switching = bytes 4 5;
  width = 6;
  dit_ms = float 7;
  dah_ms = float 8;
  dit_estimate_ms = float 9;
  wpm = float 10;
  score = float 11;
  gap_score = float 12;
  serial = 13;
  accepted = 14;
  marks = 15;
  gaps = 16;
  started = 17;
  twins = 18;
  outscored = 19;
  aged = 20;
  replaced = 21;
  cleared = 22;
  challengers = 23;
  rivals = ending 7 (rival 0) (rival 100);
  log_len = 25;
  log = ending 15 (record_at 0) (record_at 100);
}

abbrev pub stats : ClassStats
stats = record { mean = record { 0 = float 1 }; var = float 2; n = 3 }

abbrev pub sender : SenderTiming
sender = record { dot = stats; dash = stats; element_gap = stats; char_gap = stats; word_gap = stats }

abbrev pub sender_reading : SenderReading
sender_reading = record {
  code = 1;
  has_ratio = 2;
  has_word = 3;
  pad_has_word = bytes 1 4;
  dit_ms = float 5;
  ratio = float 6;
  word_dits = float 7;
  dot = stats;
  dash = stats;
  element_gap = stats;
  char_gap = stats;
  word_gap = stats;
}
