-- `numbers::root::newton` meets its contract. Assumes nothing.
use Rattle.std.proofs.Common.{refl}
use Rattle.numbers.specs.Estimate.{newton_of}
use Rattle.numbers.proofs.root.newton.Goals as goal

pub returns : goal.returns
unfolding newton_of
returns c = refl
