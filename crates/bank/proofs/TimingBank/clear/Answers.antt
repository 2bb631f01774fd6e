use Rattle.std.proofs.Common.{◌∙◌}
use Rattle.bank.proofs.Answering.{cleared}
use Rattle.bank.proofs.TimingBank.clear.Goals as goal

pub returns : goal.returns
returns c =
    let o = c.in_ok-o in
    cleared _ o.o.bank (o.ensures.1 ∙ c.in_ok-s.ensures.1) o.o.countable c.clear-c.result c.clear-c.ensures
