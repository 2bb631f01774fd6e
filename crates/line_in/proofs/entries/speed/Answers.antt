-- `line_in::entries::speed` meets its contract. Assumes nothing.
use Rattle.line_in.specs.Form.{whole}
use Rattle.line_in.proofs.Exact.{least}
use Rattle.line_in.proofs.entries.speed.Goals as goal

pub returns : goal.returns
unfolding whole
returns c = rw (c.min.ensures, least _)
