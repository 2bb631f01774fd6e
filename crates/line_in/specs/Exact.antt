-- What the numbers of a line are as f32: no rounding changes them. Definitions only; proofs/Exact.antt proves it of
-- every number.
use Rattle.std.specs.Prelude.{◌≡◌, false, ℕ, ◌<◌}
use Rattle.std.specs.Float.Ieee.Exact.{HasValue}
use Rattle.ranges.specs.Limits.{duration_refusal}
use Rattle.line_in.specs.Form.{capped, ticks, whole, sixty_fourths}

-- `HasValue x false a c` says that x is a / c
pub record Exact (n : ℕ) : Type 0 where
  pub duration : HasValue (sixty_fourths (ticks n)) false (ticks n) 64
  pub speed : HasValue (whole (capped n)) false (capped n) 1
  pub ratio : HasValue (sixty_fourths (capped n)) false (capped n) 64
  -- "counts as 16,777,218, which 7 refuses"
  pub refused : 16777216 < n → duration_refusal (sixty_fourths (ticks n)) ≡ 7
