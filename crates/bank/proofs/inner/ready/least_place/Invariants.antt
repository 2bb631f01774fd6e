use Rattle.bank_model.proofs.Others.{Seeking}
use Rattle.bank.proofs.inner.ready.least_place.Given as goal

abbrev pub invariant-loop-i : goal.invariant-loop-i
invariant-loop-i l = Seeking l.marks l.best l.low l.i
