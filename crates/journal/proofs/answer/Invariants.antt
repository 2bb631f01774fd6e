-- So many bytes of the piece were answered, and the answers written, and no write failed.
use Rattle.std.proofs.Common.{length, ◌-◌, IsOk}
use Rattle.journal.proofs.Serving.{Serving}
use Rattle.journal.proofs.answer.Given as goal

abbrev pub invariant-loop-at : goal.invariant-loop-at
invariant-loop-at g l =
    Serving l.initial.j l.piece l.initial.out (g.W.Write.contents l.initial.to) l.j l.at l.out
    (g.W.Write.contents l.to) × IsOk l.well

abbrev pub decreases-loop-at : goal.decreases-loop-at
decreases-loop-at g l = length l.piece - l.at
