use Rattle.bank.proofs.Answering.{begins, begins_not}
use Rattle.bank.proofs.TimingBank.new.Goals as goal

pub returns-then-width-le8 : goal.returns-then-width-le8
returns-then-width-le8 c = begins _ _ c.fresh.result c.if-width-le8.true c.fresh.ensures

pub returns : goal.returns
returns c = begins_not _ _ c.fresh-2.result c.if-width-le8.false c.fresh-2.ensures
