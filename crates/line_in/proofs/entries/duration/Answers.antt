-- `line_in::entries::duration` meets its contract. Assumes nothing.
use mathlib.Core.Path.{refl}
use Rattle.line_in.specs.Form.{whole, sixty_fourths}
use Rattle.line_in.proofs.Exact.{ticks_above, ticks_within, sixty_four, refused}
use Rattle.line_in.proofs.entries.duration.Goals as goal

pub returns-then-n-gt16777216 : goal.returns-then-n-gt16777216
returns-then-n-gt16777216 c = rw (ticks_above _ c.if-n-gt16777216.true) refused

pub returns-else-n-gt16777216 : goal.returns-else-n-gt16777216
unfolding whole sixty_fourths
returns-else-n-gt16777216 c = rw (ticks_within _ c.if-n-gt16777216.false, sixty_four) refl
