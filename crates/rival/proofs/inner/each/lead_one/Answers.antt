use mathlib.Core.Path.{refl}
use Rattle.bank_model.specs.Steps.{led}
use Rattle.rival.proofs.Each.{refit}
use Rattle.rival.proofs.inner.each.lead_one.Goals as goal

pub returns-then-h-score : goal.returns-then-h-score
unfolding led
returns-then-h-score c =
    (rw (c.if-h-score.true, c.up_one-n.ensures), refit c.args.h _ c.requires refl refl refl refl refl)

pub returns : goal.returns
unfolding led
returns c = (rw c.if-h-score.false, refit c.args.h _ c.requires refl refl refl refl refl)
