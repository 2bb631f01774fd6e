-- `marks::inner::sort::insert` meets its contract. Assumes nothing.
use Rattle.std.proofs.Common.{arith}
use Rattle.marks.proofs.Sorting.{insert_turns, insert_ends}
use Rattle.marks.proofs.inner.sort.insert.Goals as goal

pub loop-place-preserved : goal.loop-place-preserved
loop-place-preserved c =
    insert_turns _ _ _ _ _ _ (omega arith) c.loop-place.invariant c.lesser.ensures c.greater-carried.ensures

pub returns : goal.returns
returns c = insert_ends _ _ _ _ (omega arith) c.loop-place.invariant
