use mathlib.Core.Path.{ap, ◌∙◌}
use Rattle.numbers.specs.Log.{ln_of}
use Rattle.bank_model.specs.Scores.{log_of}
use Rattle.bank_model.proofs.inner.scores.centroid_logs.Goals as goal

pub ln_two-k-requires : goal.ln_two-k-requires
ln_two-k-requires c = let s = c.before.before in (rw c.max32.ensures s.requires.0, rw c.max32-2.ensures s.requires.1)

pub returns : goal.returns
unfolding log_of
returns c = let e = c.ln_two-k.ensures in (e.0 ∙ ap ln_of c.max32.ensures, e.1 ∙ ap ln_of c.max32-2.ensures)
