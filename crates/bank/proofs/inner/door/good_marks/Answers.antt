use Rattle.std.proofs.Common.{◌≡◌, rules}
use Rattle.refusals.specs.Refusal.{number}
use Rattle.marks.proofs.Bounds.{held_durations}
use Rattle.bank.specs.Answers.{first_refusal}
use Rattle.bank.proofs.Refusing.{pass_begins, pass_turns, pass_fails, pass_ends}
use Rattle.bank.proofs.inner.door.good_marks.Goals as goal

pub loop-x-init : goal.loop-x-init
loop-x-init c = pass_begins _

pub returns-in_err-try_from : goal.returns-in_err-try_from
returns-in_err-try_from c =
    let e : number c.in_err-try_from.field-0.0 ≡ first_refusal c.args.marks.now =
    pass_fails _ _ _ _ c.loop-x-test.true c.loop-x.invariant c.in_err-try_from.ensures.0 in
    search rules

pub loop-x-preserved : goal.loop-x-preserved
loop-x-preserved c = pass_turns _ _ _ c.loop-x-test.true c.loop-x.invariant c.in_ok-try_from.ensures.0

pub returns : goal.returns
returns c = let e = pass_ends _ _ c.loop-x-test.false c.loop-x.invariant in (e.0, held_durations _ e.1)
