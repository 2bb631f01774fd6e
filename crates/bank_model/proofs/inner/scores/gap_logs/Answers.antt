use mathlib.Core.Path.{refl, ap, ◌∙◌}
use Rattle.numbers.specs.Log.{ln_of}
use Rattle.ranges.proofs.Durations.{duration_positive}
use Rattle.bank_model.specs.Scores.{log_of}
use Rattle.bank_model.proofs.inner.scores.gap_logs.Goals as goal

pub ln_two-k-requires : goal.ln_two-k-requires
ln_two-k-requires c = (duration_positive c.args.d.ms c.args.d.held, rw c.max32.ensures c.requires)

pub returns : goal.returns
unfolding log_of
returns c = let e = c.ln_two-k.ensures in (refl, e.1 ∙ ap ln_of c.max32.ensures)
