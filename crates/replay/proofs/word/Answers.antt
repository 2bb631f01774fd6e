-- `replay::word` is the number of its 8 digits. Assumes nothing.
use Rattle.std.proofs.Common.{arith}
use Rattle.replay.proofs.Fields.{ended, field_long, next, room}
use Rattle.replay.proofs.word.Goals as goal

pub overflow_mul-n : goal.overflow_mul-n
overflow_mul-n c =
    let e = field_long c.args.line.now c.args.at c.told-line c.requires in
    omega (arith, room _ _ c.loop-b.invariant.small (omega arith))

pub overflow_add-n : goal.overflow_add-n
overflow_add-n c =
    let e = field_long c.args.line.now c.args.at c.told-line c.requires in
    omega (arith, room _ _ c.loop-b.invariant.small (omega arith))

pub loop-b-preserved : goal.loop-b-preserved
loop-b-preserved c =
    rw c.from.ensures
    (next _ _ c.told-line c.requires _ _ _ c.loop-b.invariant c.digit.ensures.bound c.loop-b-test.true
    c.digit.ensures.value)

pub returns : goal.returns
returns c = ended _ _ c.told-line c.requires _ _ c.loop-b.invariant c.loop-b.auto.b-index-end c.loop-b-test.false
