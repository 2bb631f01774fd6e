-- `line_in::values::number_of` meets its contract: the digits before the index are read, and make n. Assumes nothing.
use Rattle.line_in.proofs.Numbers.{Read}
use Rattle.line_in.proofs.values.number_of.Given as goal

abbrev pub invariant-loop-b : goal.invariant-loop-b
invariant-loop-b l = Read l.field l.n l.b-index
