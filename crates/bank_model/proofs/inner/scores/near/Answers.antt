use Rattle.order.proofs.Library.{abs_law}
use Rattle.bank_model.specs.Scores.{near}
use Rattle.bank_model.proofs.inner.scores.near.Goals as goal

pub returns : goal.returns
unfolding near
returns c = rw (c.abs.ensures.value, abs_law)
