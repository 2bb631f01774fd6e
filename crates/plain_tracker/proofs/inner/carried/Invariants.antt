-- `plain_tracker::inner::carried` meets its contract. Assumes nothing.
use Rattle.std.proofs.Common.{◌≡◌}
use Rattle.plain_tracker.specs.Plain.{carried}
use Rattle.plain_tracker.proofs.inner.carried.Given as goal

abbrev pub invariant-loop-i : goal.invariant-loop-i
invariant-loop-i g l = l.out ≡ carried g.g l.fn.blank l.i l.from
