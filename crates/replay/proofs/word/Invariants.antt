-- The digits before the index make n.
use Rattle.replay.proofs.Fields.{Read}
use Rattle.replay.proofs.word.Given as goal

abbrev pub invariant-loop-b : goal.invariant-loop-b
invariant-loop-b l = Read l.line l.at l.n l.b-index
