-- A live mark that makes no candidate. Definitions only.
use Rattle.std.specs.Prelude.{◌≡◌, ◌+◌, Bool, take, Float}
use Rattle.std.proofs.Math.Option.{Option, none}
use Rattle.tracker.specs.Model.{Tracker}
use Rattle.bank_model.specs.Model.{Evidence, Bank, with_last_gap}
use Rattle.bank_model.specs.Scores.{score_mark}
use Rattle.bank_model.specs.Steps.{streak_on}
use Rattle.bank.specs.declared.run.Run.{Run}

-- the streak after the mark d, with the held gap before it
abbrev pub struck : Evidence → Bool → Float → Evidence
struck v side d = streak_on (with_last_gap v none) side d v.last_gap

-- r is the streak after the mark d, with the gap before it
pub record Runs (v : Evidence) (side : Bool) (d : Float) (gap : Option Float) (r : Run) : Type 0 where
  pub marks : take r.marks_len r.marks ≡ (streak_on v side d gap).streak
  pub gaps : take r.gaps_len r.gaps ≡ (streak_on v side d gap).gaps

-- the mark, for the primary p and the streak, and not yet for the challengers
abbrev pub beaten : Bank → Tracker → Bool → Float → Bank
beaten b p side d = record {
  width = b.width;
  switching = b.switching;
  score = score_mark b.score p d;
  gap_score = b.gap_score;
  challengers = b.challengers;
  evidence = struck b.evidence side d;
  marks = b.marks + 1;
  gaps = b.gaps;
  pending = b.pending;
  log = b.log;
  started = b.started;
}
