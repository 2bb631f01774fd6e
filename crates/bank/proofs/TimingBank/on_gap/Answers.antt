use Rattle.std.proofs.Common.{◌≡◌, Err, ◌∙◌, rules}
use Rattle.bank.proofs.Calling.{heard_passed, heard, unheard}
use Rattle.bank.proofs.TimingBank.on_gap.Goals as goal

pub returns-in_err-length : goal.returns-in_err-length
returns-in_err-length c =
    let s = c.in_ok-s.ensures in
    let a : c.from_residual-in_err-length.result ≡ Err c.in_err-length.field-0.0 = search rules in
    unheard c.args.self.now _ _ _ c.in_err-length.field-0.0 a
    (c.in_err-length.ensures.0
    ∙ heard_passed _ c.in_ok-s.s.bank s.1.0 c.in_ok-o.ensures.0 c.args.primary s.0 c.args.dur_ms)

pub returns : goal.returns
returns c =
    let s = c.in_ok-s.ensures in
    let d = c.in_ok-length.ensures in
    heard c.args.self.now _ _ c.on_gap.result
    (d.0 ∙ heard_passed _ c.in_ok-s.s.bank s.1.0 c.in_ok-o.ensures.0 c.args.primary s.0 c.args.dur_ms)
    (rw (c.in_ok-o.ensures.1, s.1.0, s.1.1, d.1) at c.on_gap.ensures)
