-- `Marks::sum` meets its contract. Assumes nothing.
use Rattle.std.proofs.Common.{◌≡◌, take}
use Rattle.ranges.specs.Limits.{nought}
use Rattle.ranges.specs.Mean.{sum_from}
use Rattle.marks.proofs.list.Marks.sum.Given as goal

abbrev pub invariant-loop-x : goal.invariant-loop-x
invariant-loop-x l = l.acc ≡ sum_from nought (take l.x-index l.self.at.now)
