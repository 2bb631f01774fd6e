use mathlib.Core.Path.{refl}
use Rattle.bank_model.specs.Scores.{fit}
use Rattle.bank_model.proofs.inner.scores.fit.Goals as goal

pub returns : goal.returns
unfolding fit
returns c = refl
