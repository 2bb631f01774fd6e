use Rattle.bank.proofs.Streaking.{emptied_sturdy}
use Rattle.bank.proofs.inner.streak.empty.Goals as goal

pub invariant_of-result : goal.invariant_of-result
invariant_of-result c = record { sturdy = emptied_sturdy _ c.args.b.sturdy }
