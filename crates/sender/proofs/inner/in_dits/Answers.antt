-- `sender::inner::in_dits` meets its contract. Assumes nothing.
use Rattle.sender.proofs.Samples.{dits_in}
use Rattle.sender.proofs.inner.in_dits.Goals as goal

pub returns-clause-in_range : goal.returns-clause-in_range
returns-clause-in_range c = dits_in _ _ c.requires.duration c.requires.dit
