-- What stands between two reads.
use Rattle.journal.proofs.Taking.{Reading}
use Rattle.journal.proofs.run.Given as goal

abbrev pub invariant-loop : goal.invariant-loop
invariant-loop g l =
    Reading l.initial.j l.initial.buffer l.initial.out (g.I.Read.remaining l.initial.from)
    (g.W.Write.contents l.initial.to) l.buffer l.out (g.I.Read.remaining l.from) (g.W.Write.contents l.to) l.j
