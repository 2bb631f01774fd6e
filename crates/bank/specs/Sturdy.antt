-- What a sound bank has. Definitions only.
use Rattle.std.specs.Prelude.{◌≡◌, ℕ, ◌<◌, ◌≤◌, IfSome, List, length, take}
use Rattle.std.specs.List.{AllByRecursion}
use Rattle.ranges.specs.Limits.{nought, score_min, duration_min, duration_max}
use Rattle.ranges.specs.Interval.{In}
use Rattle.bank_model.specs.declared.SwitchRecord.{SwitchRecord}
use Rattle.bank_model.specs.Departures.{widest}
use Rattle.rival.specs.declared.TimingHypothesis.{TimingHypothesis}
use Rattle.rival.specs.Parts.{Fit}
use Rattle.bank.specs.declared.TimingBank.{TimingBank}
use Rattle.bank.specs.Streaks.{Streaks}

-- the first n places of an array of challengers
pub record Crew (n : ℕ) (l : List TimingHypothesis) : Type 0 where
  pub few : n ≤ widest
  pub long : length l ≡ widest
  pub each : AllByRecursion Fit (take n l)

-- a switch that was made, or would have been
pub record Recorded (s : SwitchRecord) : Type 0 where
  pub from : In duration_min duration_max s.from_dit_ms
  pub to : In duration_min duration_max s.to_dit_ms

pub record Log (l : List SwitchRecord) (n : ℕ) : Type 0 where
  pub few : n ≤ 16
  pub long : length l ≡ 16
  pub each : AllByRecursion Recorded (take n l)

-- what a sound bank has
pub record Sturdy (b : TimingBank) : Type 0 where
  pub wide_enough : 1 ≤ b.width
  pub wide : b.width ≤ widest
  pub below : b.challengers_len < b.width
  pub crew : Crew b.challengers_len b.challengers
  pub score : In score_min nought b.primary_score
  pub score_gap : In score_min nought b.primary_gap_score
  pub streaks : Streaks b.streak b.streak_len b.streak_gaps b.streak_gaps_len
  pub last_gap : IfSome b.last_gap (In duration_min duration_max)
  pub log : Log b.log b.log_len
  pub pending : IfSome b.pending (λ i. i < b.challengers_len)
