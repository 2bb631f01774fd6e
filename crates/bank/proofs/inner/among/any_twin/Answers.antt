use Rattle.std.proofs.Common.{◌∙◌}
use Rattle.bank.proofs.Finds.{twin_any}
use Rattle.bank.proofs.inner.among.any_twin.Goals as goal

pub returns : goal.returns
returns c = c.held_twin.ensures ∙ twin_any _ _ _ c.args.b.sturdy.crew.each
