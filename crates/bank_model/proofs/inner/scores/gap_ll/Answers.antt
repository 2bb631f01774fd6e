use Rattle.bank_model.specs.Scores.{gap_fit}
use Rattle.bank_model.proofs.inner.scores.gap_ll.Goals as goal

pub returns : goal.returns
unfolding gap_fit
returns c = rw (
  c.max32.ensures,
  c.fit-3.ensures,
  c.max32-three.ensures,
  c.fit-2.ensures,
  c.max32-one.ensures,
  c.fit.ensures,
)
