-- `ranges::is_positive` meets its contract. Assumes nothing.
use mathlib.Core.Path.{◌∙◌}
use lib.Ieee.{of_bits, neg}
use Rattle.ranges.proofs.Compare.{passed, failed}
use Rattle.ranges.proofs.Door.{positive_is, not_positive}
use Rattle.ranges.proofs.is_positive.Goals as goal

pub returns-then-x : goal.returns-then-x
unfolding of_bits neg
returns-then-x c = positive_is c.args.x (passed c.if-x.true)

pub returns-else-x : goal.returns-else-x
unfolding of_bits neg
returns-else-x c = c.if-x.false ∙ not_positive c.args.x (failed c.if-x.false)
