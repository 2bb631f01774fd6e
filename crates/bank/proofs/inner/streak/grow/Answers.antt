use Rattle.bank.proofs.Streaking.{stroke_sturdy, grown}
use Rattle.bank.proofs.inner.streak.grow.Goals as goal

pub invariant_of-result : goal.invariant_of-result
invariant_of-result c = record { sturdy = stroke_sturdy _ c.args.b.sturdy _ _ _ _ _ c.run_on-r.result.sound }

pub returns : goal.returns
returns c = grown _ _ _ _ _ c.run_on-r.ensures
