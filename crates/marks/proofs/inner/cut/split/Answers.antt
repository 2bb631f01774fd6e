-- `marks::inner::cut::split` meets its contract. Assumes nothing.
use Rattle.std.proofs.Common.{arith, length-take, length-drop}
use Rattle.marks.specs.Lists.{duration}
use Rattle.marks.proofs.Bounds.{take_held}
use Rattle.marks.proofs.Cutting.{back_held, halves}
use Rattle.marks.proofs.inner.cut.split.Goals as goal

pub invariant_of-before : goal.invariant_of-before
invariant_of-before c =
    record { held = take_held duration _ _ c.args.sorted.held; few = simp length-take (omega arith) }

pub invariant_of-after : goal.invariant_of-after
invariant_of-after c =
    record { held = back_held _ _ c.args.sorted.held; few = simp (length-take, length-drop) (omega arith) }

pub returns : goal.returns
returns c = halves _ _ _ _ c.largest_ratio_split-cut.ensures.first c.mean.ensures c.mean-2.ensures
