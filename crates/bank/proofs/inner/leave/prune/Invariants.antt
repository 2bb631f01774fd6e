use Rattle.ranges.specs.Settings.{standard}
use Rattle.bank_model.specs.Left.{those}
use Rattle.bank_model.specs.Steps.{cause_at, led, qualifies}
use Rattle.bank.specs.View.{view}
use Rattle.bank.proofs.Leaving.{Sifting}
use Rattle.bank.proofs.inner.leave.prune.Given as goal

abbrev pub invariant-loop-i : goal.invariant-loop-i
invariant-loop-i l =
    Sifting (cause_at standard l.score l.p.lo l.p.hi) (led standard l.score) (qualifies l.gap_score)
    (view l.initial.c).challengers l.initial.c (those l.initial.left) l.c l.left l.best l.w l.i
