-- `hullathan::start::started` meets its contract. Assumes nothing.
use Rattle.hullathan.proofs.Starting.{begun}
use Rattle.hullathan.proofs.start.started.Goals as goal

pub returns : goal.returns
returns c = begun _ _ _ _ _ _ _ c.is_on.ensures c.coded.ensures c.from.ensures c.fresh-fresh.ensures
