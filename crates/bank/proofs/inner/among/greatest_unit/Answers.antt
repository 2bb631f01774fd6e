use Rattle.std.proofs.Common.{sym}
use Rattle.bank_model.specs.Steps.{greatest_unit}
use Rattle.bank.proofs.Lists.{fold_turns, fold_ends}
use Rattle.bank.proofs.Finds.{unit_step}
use Rattle.bank.proofs.inner.among.greatest_unit.Goals as goal

pub loop-h-preserved : goal.loop-h-preserved
loop-h-preserved c =
    fold_turns _ _ _ _ _ _ _ _ c.loop-h-test.true c.loop-h.invariant
    (λ r. unit_step _ 0 _ _ _ _ r c.dit_estimate.ensures c.max32-acc.ensures)

pub returns : goal.returns
unfolding greatest_unit
returns c = sym (fold_ends _ _ _ _ _ _ c.loop-h-test.false c.loop-h.invariant)
