use Rattle.std.specs.Prelude.{None, take}
use Rattle.bank_model.specs.Steps.{least_from, eligible}
use Rattle.rival.specs.View.{view_hyp}
use Rattle.bank.proofs.Lists.{Folding}
use Rattle.bank.proofs.inner.among.victim.Given as goal

abbrev pub invariant-loop-i : goal.invariant-loop-i
invariant-loop-i l =
    Folding (least_from eligible) view_hyp (take l.fn.b.bank.challengers_len l.fn.b.bank.challengers) None l.acc l.i
