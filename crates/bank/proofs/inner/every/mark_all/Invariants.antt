use Rattle.ranges.specs.Settings.{standard}
use Rattle.bank_model.specs.Steps.{marked}
use Rattle.bank.proofs.Stock.{Mapping}
use Rattle.bank.proofs.inner.every.mark_all.Given as goal

abbrev pub invariant-loop-i : goal.invariant-loop-i
invariant-loop-i l = Mapping (marked standard l.d.dur.ms l.live) l.initial.c l.c l.i
