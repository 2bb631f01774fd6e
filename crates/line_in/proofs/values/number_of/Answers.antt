-- `line_in::values::number_of` meets its contract: the digits before the index are read, and make n. Assumes nothing.
use mathlib.Core.Path.{sym}
use native.Mathlib.Omega.{arith}
use Rattle.std.proofs.lemmas.Grind.{common_steps}
use Rattle.line_in.proofs.Numbers.{begin, next, room, empty, long, below, above, ended}
use Rattle.line_in.proofs.values.number_of.Goals as goal
use Rattle.line_in.proofs.values.number_of.Goals.{then-is_empty-via-then-is_empty}
use Rattle.line_in.proofs.values.number_of.Goals.{then-is_empty-via-else-is_empty+then-field-gt8}

pub returns-then-is_empty : goal.returns-then-is_empty
returns-then-is_empty c =
    elim c.then-is_empty.branch [
      | then-is_empty-via-then-is_empty w ↦ sym (empty _ (grind (arith, common_steps)))
      | then-is_empty-via-else-is_empty+then-field-gt8 w ↦ sym (long _ w.if-field-gt8.true)
    ]

pub loop-b-init : goal.loop-b-init
loop-b-init c = begin _

pub overflow_mul-n : goal.overflow_mul-n
overflow_mul-n c = omega (arith, room _ _ c.loop-b.invariant.small (omega arith))

pub overflow_add-n : goal.overflow_add-n
overflow_add-n c = omega (arith, room _ _ c.loop-b.invariant.small (omega arith))

pub returns-in_default : goal.returns-in_default
returns-in_default c = sym (below _ _ _ c.loop-b.invariant c.if-field-gt8.false c.loop-b-test.true (omega arith))

pub returns-in_default-2 : goal.returns-in_default-2
returns-in_default-2 c =
    sym (above _ _ _ c.loop-b.invariant c.if-field-gt8.false c.loop-b-test.true (omega arith) (omega arith))

pub loop-b-preserved : goal.loop-b-preserved
loop-b-preserved c = rw c.from.ensures (next _ _ _ c.loop-b.invariant c.loop-b-test.true (omega arith) (omega arith))

pub returns : goal.returns
returns c = sym (ended _ _ _ c.loop-b.invariant (grind (arith, common_steps)) c.if-field-gt8.false c.loop-b-test.false)
