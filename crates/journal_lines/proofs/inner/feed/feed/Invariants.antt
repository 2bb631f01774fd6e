-- `journal_lines::inner::feed::feed` meets its contract. Assumes nothing.
use Prim.Native.Nat.{◌-◌}
use lib.ListN.{length}
use Rattle.journal_lines.proofs.Going.{Going}
use Rattle.journal_lines.proofs.inner.feed.feed.Given as goal

abbrev pub invariant-loop-used : goal.invariant-loop-used
invariant-loop-used l = Going l.initial.j l.piece l.initial.out l.j l.used l.put l.out

abbrev pub decreases-loop-used : goal.decreases-loop-used
decreases-loop-used l = length l.piece - l.used
