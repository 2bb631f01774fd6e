use Rattle.bank_model.specs.Steps.{pausing_at}
use Rattle.bank.proofs.inner.gap.is_pause.Goals as goal

pub returns : goal.returns
unfolding pausing_at
returns c = rw c.greatest_unit.ensures
