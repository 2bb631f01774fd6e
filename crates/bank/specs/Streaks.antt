-- A streak. Definitions only.
use Rattle.std.specs.Prelude.{◌≡◌, ℕ, ◌≤◌, List, length, take, Float}
use Rattle.ranges.specs.Limits.{duration_min, duration_max}
use Rattle.ranges.specs.Interval.{AllIn}

-- the streak and its gaps
pub record Streaks (streak : List Float) (n : ℕ) (gaps : List Float) (m : ℕ) : Type 0 where
  pub few : n ≤ 4
  pub paired : m ≤ n
  pub long : length streak ≡ 4
  pub gaps_long : length gaps ≡ 4
  pub marks : AllIn duration_min duration_max (take n streak)
  pub between : AllIn duration_min duration_max (take m gaps)
