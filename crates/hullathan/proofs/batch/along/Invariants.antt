-- `hullathan::batch::along` meets its contract. Assumes nothing.
use Rattle.station.specs.Parts.{Steady}
use Rattle.hullathan.proofs.Running.{Running}
use Rattle.hullathan.proofs.batch.along.Given as goal

abbrev pub invariant-loop-i : goal.invariant-loop-i
invariant-loop-i l = Steady l.c × Running l.fn.s l.b l.c l.out l.i
