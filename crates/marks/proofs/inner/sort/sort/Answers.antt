-- `marks::inner::sort::sort` meets its contract. Assumes nothing.
use Rattle.std.proofs.Common.{arith}
use Rattle.marks.proofs.Sorting.{sort_turns, sort_ends}
use Rattle.marks.proofs.inner.sort.sort.Goals as goal

pub loop-i-preserved : goal.loop-i-preserved
loop-i-preserved c = sort_turns _ _ _ _ _ (omega arith) c.loop-i.invariant c.insert.auto.s c.insert.ensures

pub returns : goal.returns
returns c = sort_ends _ _ _ (omega arith) c.loop-i.invariant
