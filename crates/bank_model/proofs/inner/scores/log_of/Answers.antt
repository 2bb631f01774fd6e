use mathlib.Core.Path.{ap, ◌∙◌}
use Rattle.numbers.specs.Log.{ln_of}
use Rattle.bank_model.specs.Scores.{log_of}
use Rattle.bank_model.proofs.inner.scores.log_of.Goals as goal

pub ln_of-requires : goal.ln_of-requires
ln_of-requires c = rw c.max32.ensures c.requires

pub returns : goal.returns
unfolding log_of
returns c = c.ln_of.ensures ∙ ap ln_of c.max32.ensures
