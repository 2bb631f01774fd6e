-- `pair::inner::lock::initialize` meets its contract. Assumes nothing.
use Rattle.std.proofs.Common.{◌∙◌, ap, arith, length-take}
use Rattle.marks.specs.Sort.{sorted}
use Rattle.marks.proofs.Cutting.{sorted_held}
use Rattle.pair.proofs.Locking.{sorted_front}
use Rattle.pair.proofs.inner.lock.initialize.Goals as goal

pub invariant_of-locked : goal.invariant_of-locked
invariant_of-locked c =
    record {
      held = rw (sorted_front _ _ _ (c.sort.ensures ∙ ap sorted c.copied-s.ensures)) (sorted_held _ c.args.marks.held);
      few = simp length-take (omega arith);
    }
