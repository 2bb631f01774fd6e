use Rattle.bank.proofs.Leaving.{Noting}
use Rattle.bank.proofs.inner.leave.all_cleared.Given as goal

abbrev pub invariant-loop-h : goal.invariant-loop-h
invariant-loop-h l = Noting l.fn.b.bank l.left l.h-index
