use mathlib.Core.Path.{refl}
use Rattle.bank_model.specs.Scores.{decayed}
use Rattle.bank_model.proofs.inner.scores.decayed.Goals as goal

pub returns : goal.returns
unfolding decayed
returns c = refl
