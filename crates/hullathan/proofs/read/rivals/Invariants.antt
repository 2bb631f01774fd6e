-- `hullathan::read::rivals` meets its contract. Assumes nothing.
use Rattle.hullathan.proofs.Rows.{rival_in}
use Rattle.hullathan.proofs.read.rivals.Given as goal

abbrev pub ghost-carried : goal.ghost-carried
ghost-carried a = rival_in
