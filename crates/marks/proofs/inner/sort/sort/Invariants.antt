-- `marks::inner::sort::sort` meets its contract. Assumes nothing.
use Rattle.std.proofs.Common.{◌≡◌, take, drop}
use Rattle.marks.specs.Sort.{insert_all, sorted}
use Rattle.marks.proofs.inner.sort.sort.Given as goal

abbrev pub invariant-loop-i : goal.invariant-loop-i
invariant-loop-i l = insert_all (take l.i l.s) (drop l.i l.s) ≡ sorted l.initial.s
