-- What a bank's struct means. Definitions only.
use Rattle.std.specs.Prelude.{ℕ, List, map, take, Float}
use Rattle.std.specs.Prelude as Given
use Rattle.std.specs.Prelude.{Some, None}
use Rattle.std.proofs.Math.Option.{Option, some, none}
use Rattle.ranges.specs.declared.duration.Duration.{Duration}
use Rattle.pair.specs.Model.{held}
use Rattle.bank_model.specs.Left.{those}
use Rattle.bank_model.specs.Model.{Hyp, Bank, Told}
use Rattle.rival.specs.declared.TimingHypothesis.{TimingHypothesis}
use Rattle.rival.specs.View.{view_hyp}
use Rattle.bank.specs.declared.TimingBank.{TimingBank}
use Rattle.bank.specs.declared.Changed.{Changed}

abbrev pub view_all : ℕ → List TimingHypothesis → List Hyp
view_all n l = map view_hyp (take n l)

-- "Places beyond a count and numbers marked absent are no part of a state"
abbrev pub view : TimingBank → Bank
view b = record {
  width = b.width;
  switching = b.switching;
  score = b.primary_score;
  gap_score = b.primary_gap_score;
  challengers = view_all b.challengers_len b.challengers;
  evidence = record {
    streak = take b.streak_len b.streak;
    gaps = take b.streak_gaps_len b.streak_gaps;
    side = held b.streak_side;
    last_gap = held b.last_gap;
  };
  marks = b.marks_seen;
  gaps = b.gaps_seen;
  pending = held b.pending;
  log = take b.log_len b.log;
  started = b.started;
}

-- a gap before a mark, if there is one
abbrev pub before : Given.Option Duration → Option Float
before (Some d) = some d.ms
before None = none

abbrev pub told : Changed → Told
told c = record { bank = view c.bank.bank; left = those c.gone }
