use Rattle.bank_model.proofs.Others.{spliced}
use Rattle.bank.proofs.inner.ready.others.Goals as goal

pub returns : goal.returns
returns c = spliced _ _ _ _ _ _ c.requires.1 c.copy_from_slice.ensures.after c.copy_from_slice-2.ensures.after
