-- `plain_sender::sent` meets its contract. Assumes nothing.
use mathlib.Core.Path.{ap, subst}
use mathlib.Core.Option.{Option}
use Prim.Native.Nat.{ℕ}
use Rattle.refusals.specs.Refusal.{coded, refusal_of}
use Rattle.sender.specs.declared.TimingClass.{TimingClass}
use Rattle.sender.specs.Answers.{first_of}
use Rattle.plain_sender.specs.Plain.{Observes}
use Rattle.plain_sender.proofs.Sending.{observes_named, observes_none}
use Rattle.plain_sender.proofs.sent.Goals as goal

pub returns : goal.returns
returns c =
    let a = c.args in
    let o = c.observe in
    subst
    (λ (k : Option TimingClass). Observes k a.dur_ms.0 a.dit_ms.0 a.t.now (coded (refusal_of o.result)) o.new.self)
    c.in-Ok.ensures
    (observes_named _ _ _ _ _ o.ensures.left o.ensures.timing_value _ o.ensures.told_value)

pub returns-in_default : goal.returns-in_default
returns-in_default c =
    let a = c.args in
    subst
    (λ (k : Option TimingClass). Observes k a.dur_ms.0 a.dit_ms.0 a.t.now 140 a.t.now)
    c.in_default.ensures
    (observes_none _ _ _ 140 (ap (λ (n : ℕ). coded (first_of n 12)) c.in_ok-observe_refusal.ensures))
