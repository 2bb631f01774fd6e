use Rattle.std.proofs.Common.{◌≡◌, Err, ◌∙◌, rules}
use Rattle.bank.proofs.Calling.{heard_passed, answered, unanswered}
use Rattle.bank.proofs.TimingBank.on_mark.Goals as goal

pub returns-in_err-d : goal.returns-in_err-d
returns-in_err-d c =
    let s = c.in_ok-s.ensures in
    let a : c.from_residual-in_err-d.result ≡ Err c.in_err-d.field-0.0 = search rules in
    unanswered c.args.self.now _ _ _ c.in_err-d.field-0.0 a
    (c.in_err-d.ensures.0
    ∙ heard_passed _ c.in_ok-s.s.bank s.1.0 c.in_ok-o.ensures.0 c.args.primary s.0 c.args.dur_ms)

pub returns : goal.returns
returns c =
    let s = c.in_ok-s.ensures in
    let d = c.in_ok-d.ensures in
    answered c.args.self.now _ _ c.on_mark-c.result
    (d.0 ∙ heard_passed _ c.in_ok-s.s.bank s.1.0 c.in_ok-o.ensures.0 c.args.primary s.0 c.args.dur_ms)
    (rw (c.in_ok-o.ensures.1, s.1.0, s.1.1, d.1) at c.on_mark-c.ensures)
