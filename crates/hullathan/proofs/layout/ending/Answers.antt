-- `hullathan::layout::ending` meets its contract. Assumes nothing.
use Rattle.hullathan.proofs.Placing.{ending_set}
use Rattle.hullathan.proofs.layout.ending.Goals as goal

pub returns : goal.returns
returns g c = ending_set _ _ _ c.requires
