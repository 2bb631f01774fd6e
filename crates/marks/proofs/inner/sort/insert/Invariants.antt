-- `marks::inner::sort::insert` meets its contract. Assumes nothing.
use Rattle.std.proofs.Common.{◌≡◌, ◌++◌, take, drop}
use Rattle.marks.specs.Sort.{insert}
use Rattle.marks.proofs.inner.sort.insert.Given as goal

abbrev pub invariant-loop-place : goal.invariant-loop-place
invariant-loop-place l = take l.place-index l.s ++ insert l.carried (drop l.place-index l.s) ≡ insert l.x l.initial.s
