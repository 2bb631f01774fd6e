-- `exports::of_numbers::hullathan_abs64` meets its contract. Assumes nothing.
use Rattle.std.proofs.Common.{◌∙◌}
use Rattle.order.proofs.Library.{abs_law}
use Rattle.exports.proofs.of_numbers.hullathan_abs64.Goals as goal

pub returns-clause-out_after : goal.returns-clause-out_after
returns-clause-out_after c = c.abs.ensures.value ∙ abs_law _
