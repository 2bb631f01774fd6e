-- `hullathan::call::heard` meets its contract. Assumes nothing.
use Rattle.hullathan.proofs.Calling.{turn_handed}
use Rattle.hullathan.proofs.call.heard.Goals as goal

pub returns : goal.returns
returns c = turn_handed _ _ _ _ _ c.turn.ensures c.found.ensures
