use Rattle.bank.proofs.Calling.{switched}
use Rattle.bank.proofs.TimingBank.take_switch.Goals as goal

pub returns-in-Ok : goal.returns-in-Ok
returns-in-Ok c =
    switched c.args.self c.in-Ok.s.bank c.in-Ok.ensures.1.0 c.args.primary c.args.serial _ c.take_switch-t.result
    c.in-Ok.ensures.0 (rw c.in-Ok.ensures.1.1.0 at c.take_switch-t.ensures)
