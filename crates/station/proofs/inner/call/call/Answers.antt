-- `station::inner::call::call` meets its contract. Assumes nothing.
use mathlib.Core.Path.{sym}
use Rattle.station.proofs.Refusing.{accepted_of, accepted_open, accepted_fair}
use Rattle.station.proofs.Answering.{answers, answers_kept}
use Rattle.station.proofs.inner.call.call.Goals as goal

pub invariant_of-step : goal.invariant_of-step
invariant_of-step c =
    let s = c.args.s.now in
    let e = c.args.e in
    record { solid = c.requires; unfull = accepted_open s e (accepted_of s e (sym c.in-Ok.ensures)) }

pub step-requires : goal.step-requires
step-requires c = let s = c.args.s.now in let e = c.args.e in accepted_fair s e (accepted_of s e (sym c.in-Ok.ensures))

pub returns-in-Ok : goal.returns-in-Ok
returns-in-Ok c = answers c.args.s.now c.args.e c.step.result (sym c.in-Ok.ensures) c.requires c.step.ensures

pub returns-in-Err : goal.returns-in-Err
returns-in-Err c = answers_kept c.args.s.now c.args.e c.refuse.result c.in-Err.why c.in-Err.ensures c.refuse.ensures c.requires
