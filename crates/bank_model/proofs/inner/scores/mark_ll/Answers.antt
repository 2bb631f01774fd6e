use Rattle.bank_model.specs.Scores.{mark_fit}
use Rattle.bank_model.proofs.inner.scores.mark_ll.Goals as goal

pub returns : goal.returns
unfolding mark_fit
returns c = rw (c.max32-2.ensures, c.fit-2.ensures, c.max32.ensures, c.fit.ensures)
