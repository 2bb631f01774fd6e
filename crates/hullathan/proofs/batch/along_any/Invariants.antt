-- `hullathan::batch::along_any` meets its contract. Assumes nothing.
use Rattle.hullathan.proofs.Running.{Running}
use Rattle.hullathan.proofs.batch.along_any.Given as goal

abbrev pub invariant-loop-i : goal.invariant-loop-i
invariant-loop-i l = Running l.fn.s l.b l.c l.out l.i
