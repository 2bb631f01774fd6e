-- `Marks::squares` meets its contract. Assumes nothing.
use Rattle.std.proofs.Common.{◌≡◌, take}
use Rattle.ranges.specs.Limits.{nought}
use Rattle.ranges.specs.Mean.{squares_from}
use Rattle.marks.proofs.list.Marks.squares.Given as goal

abbrev pub invariant-loop-x : goal.invariant-loop-x
invariant-loop-x l = l.acc ≡ squares_from l.m nought (take l.x-index l.self.at.now)
