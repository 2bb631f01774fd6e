use Rattle.std.proofs.Common.{take}
use Rattle.ranges.specs.Settings.{standard}
use Rattle.rival.specs.View.{view_hyp}
use Rattle.bank.proofs.Lists.{Folding}
use Rattle.bank.proofs.Finds.{unit_fold}
use Rattle.bank.proofs.inner.among.greatest_unit.Given as goal

abbrev pub invariant-loop-h : goal.invariant-loop-h
invariant-loop-h l =
    Folding (unit_fold standard) view_hyp (take l.fn.b.bank.challengers_len l.fn.b.bank.challengers) l.fn.u l.acc
    l.h-index
