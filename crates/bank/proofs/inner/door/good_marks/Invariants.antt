use Rattle.bank.proofs.Refusing.{Passing}
use Rattle.bank.proofs.inner.door.good_marks.Given as goal

abbrev pub invariant-loop-x : goal.invariant-loop-x
invariant-loop-x l = Passing l.marks l.x-index
