use Rattle.bank.proofs.Hearing.{heard_sturdy}
use Rattle.bank.proofs.inner.gap.drop_gap.Goals as goal

pub invariant_of-result : goal.invariant_of-result
invariant_of-result c = let s = c.args.b.sturdy in record { sturdy = heard_sturdy _ s _ _ _ _ _ s.score s.score_gap tt }
