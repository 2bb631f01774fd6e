use Rattle.std.proofs.Common.{◌∙◌}
use Rattle.bank.proofs.Calling.{ready_passed, answered}
use Rattle.bank.proofs.TimingBank.on_ready.Goals as goal

pub returns : goal.returns
returns c =
    let s = c.in_ok-s.ensures in
    let l = c.in_ok-list.ensures in
    answered c.args.self.now _ _ c.on_ready-c.result
    (l.0 ∙ ready_passed _ c.in_ok-s.s.bank s.1.0 c.in_ok-count_on.ensures.0 c.args.primary s.0 c.args.marks.now)
    (rw (s.1.0, s.1.1, l.1) at c.on_ready-c.ensures)
