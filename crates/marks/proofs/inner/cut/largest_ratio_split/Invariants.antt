-- `marks::inner::cut::largest_ratio_split` meets its contract. Assumes nothing.
use Rattle.std.proofs.Common.{◌≡◌, drop}
use Rattle.ranges.specs.Limits.{nought}
use Rattle.marks.specs.Sort.{ratios, first_largest}
use Rattle.marks.proofs.inner.cut.largest_ratio_split.Given as goal

abbrev pub invariant-loop-i : goal.invariant-loop-i
invariant-loop-i l = first_largest l.i l.best_i l.best_r (drop l.i (ratios l.s)) ≡ first_largest 0 0 nought (ratios l.s)
