use Rattle.bank_model.proofs.Padding.{one_more}
use Rattle.bank_model.proofs.inner.leaving.push.Goals as goal

pub invariant_of-gone : goal.invariant_of-gone
invariant_of-gone c = record { listed = one_more _ _ c.args.gone.now.listed c.args.d c.requires }
