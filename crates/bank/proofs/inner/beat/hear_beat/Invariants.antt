use Rattle.std.proofs.Common.{true, [], map}
use Rattle.ranges.specs.Settings.{standard}
use Rattle.bank_model.specs.Steps.{cause_at, led, qualifies, marked}
use Rattle.bank.specs.View.{view}
use Rattle.bank.proofs.Leaving.{Sifting}
use Rattle.bank.proofs.inner.beat.hear_beat.Given as goal

abbrev pub invariant-loop-i : goal.invariant-loop-i
invariant-loop-i l =
    Sifting (cause_at standard l.score l.l.lo l.l.hi) (led standard l.score) (qualifies l.b.bank.bank.primary_gap_score)
    (map (marked standard l.m.dur.ms true) (view l.initial.c).challengers) l.initial.c [] l.c l.left l.best l.w l.i
