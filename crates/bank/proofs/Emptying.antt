-- Banks with no challengers and no streak are sturdy. Assumes nothing.
use Rattle.std.proofs.Common.{◌≡◌, ℕ, ◌≤◌, Bool, true, false, cond, leb, List, [], map, length, sym, ap, ◌∙◌, arith}
use Rattle.std.specs.Prelude.{None}
use lib.Ieee.{Float, binary32, of_bits}
use Rattle.ranges.specs.Limits.{duration_min, duration_max}
use Rattle.ranges.specs.Interval.{AllIn}
use Rattle.bank_model.specs.declared.Departure.{Departure}
use Rattle.bank_model.specs.declared.SwitchRecord.{SwitchRecord}
use Rattle.bank_model.specs.Departures.{widest}
use Rattle.bank_model.specs.Model.{Bank, Told, stay}
use Rattle.bank_model.specs.Steps.{cleared_out, gone_cleared, clear}
use Rattle.bank_model.proofs.Scoring.{zero_in}
use Rattle.rival.specs.declared.TimingHypothesis.{TimingHypothesis}
use Rattle.rival.specs.Parts.{Fit}
use Rattle.bank.specs.declared.TimingBank.{TimingBank}
use Rattle.bank.specs.View.{view}
use Rattle.bank.specs.Streaks.{Streaks}
use Rattle.bank.specs.Sturdy.{Crew, Recorded, Log, Sturdy}
use Rattle.bank.proofs.Lists.{all_none}

none_in : AllIn duration_min duration_max []
unfolding AllIn
none_in = tt

-- whatever stands in the places beyond a count
pub no_crew : (l : List TimingHypothesis) → length l ≡ widest → Crew 0 l
no_crew l e = record { few = omega arith; long = e; each = all_none Fit }

pub no_streak : (marks gaps : List Float) → length marks ≡ 4 → length gaps ≡ 4 → Streaks marks 0 gaps 0
no_streak marks gaps e d =
    record { few = omega arith; paired = omega arith; long = e; gaps_long = d; marks = none_in; between = none_in }

pub no_log : (l : List SwitchRecord) → length l ≡ 16 → Log l 0
no_log l e = record { few = omega arith; long = e; each = all_none Recorded }

-- a bank with nothing in it, but for its counts, its log and what it started
abbrev pub bare : ℕ → Bool → List TimingHypothesis → List Float → List Float → ℕ → ℕ → List SwitchRecord → ℕ → ℕ →
    TimingBank
bare width switching crew marks gaps m n log log_len started = record {
  width = width;
  switching = switching;
  primary_score = of_bits binary32 0;
  primary_gap_score = of_bits binary32 0;
  challengers = crew;
  challengers_len = 0;
  streak = marks;
  streak_len = 0;
  streak_gaps = gaps;
  streak_gaps_len = 0;
  streak_side = None;
  last_gap = None;
  marks_seen = m;
  gaps_seen = n;
  pending = None;
  log = log;
  log_len = log_len;
  started = started;
}

pub bare_sturdy : (w : ℕ) (s : Bool) (crew : List TimingHypothesis) (marks gaps : List Float) (m n : ℕ)
    (log : List SwitchRecord) (k started : ℕ)
    → 1 ≤ w → w ≤ widest → Crew 0 crew → Streaks marks 0 gaps 0 → Log log k →
    Sturdy (bare w s crew marks gaps m n log k started)
unfolding of_bits
bare_sturdy w s crew marks gaps m n log k started a b c d e = record {
  wide_enough = a;
  wide = b;
  below = omega arith;
  crew = c;
  score = zero_in;
  score_gap = zero_in;
  streaks = d;
  last_gap = tt;
  log = e;
  pending = tt;
}

-- ---- a clear
abbrev by : Bank → Bool → Told
by b w = cond w (record { bank = cleared_out b; left = map gone_cleared b.challengers }) (stay b)

clear_by : (b : Bank) (w : Bool) → leb 2 b.width ≡ w → by b w ≡ clear b
unfolding clear
clear_by b w e = ap (by b) (sym e)

pub clear_off : (b : Bank) → leb 2 b.width ≡ false → stay b ≡ clear b
clear_off b e = clear_by b false e

pub clear_on : (b : TimingBank) (gone : List Departure) → leb 2 b.width ≡ true → gone
    ≡ map gone_cleared (view b).challengers
    → record {
      bank =
          view (bare b.width b.switching b.challengers b.streak b.streak_gaps b.marks_seen b.gaps_seen b.log b.log_len
          b.started);
      left = gone;
    } ≡ clear (view b)
unfolding of_bits
clear_on b gone e eg = ap (λ (l : List Departure). record { bank = cleared_out (view b); left = l }) eg
    ∙ clear_by (view b) true e
