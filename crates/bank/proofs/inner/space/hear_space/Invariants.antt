use Rattle.ranges.specs.Settings.{standard}
use Rattle.bank_model.specs.Steps.{gapped}
use Rattle.bank.proofs.Stock.{Mapping}
use Rattle.bank.proofs.inner.space.hear_space.Given as goal

abbrev pub invariant-loop-i : goal.invariant-loop-i
invariant-loop-i l = Mapping (gapped standard l.k.gap.dur.ms) l.initial.c l.c l.i
