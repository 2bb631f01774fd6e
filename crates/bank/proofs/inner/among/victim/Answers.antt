use Rattle.std.proofs.Common.{sym}
use Rattle.bank_model.specs.Steps.{least_from, eligible}
use Rattle.bank.proofs.Lists.{fold_turns, fold_ends}
use Rattle.bank.proofs.Finds.{least_step}
use Rattle.bank.proofs.inner.among.victim.Goals as goal

pub loop-i-preserved : goal.loop-i-preserved
loop-i-preserved c =
    fold_turns _ _ _ _ _ _ _ _ c.loop-i-test.true c.loop-i.invariant
    (λ r. least_step eligible _ _ _ _ r c.worse-acc.ensures)

pub returns : goal.returns
unfolding least_from
returns c = sym (fold_ends _ _ _ _ _ _ c.loop-i-test.false c.loop-i.invariant)
