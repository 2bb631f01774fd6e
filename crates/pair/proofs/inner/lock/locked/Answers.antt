-- `pair::inner::lock::locked` meets its contract. Assumes nothing.
use Rattle.std.proofs.Common.{arith}
use Rattle.marks.proofs.Bounds.{durations_in}
use Rattle.marks.proofs.Cutting.{parts_two}
use Rattle.pair.proofs.inner.lock.locked.Goals as goal

pub bimodal-requires : goal.bimodal-requires
bimodal-requires c =
    parts_two c.args.sorted.at.now (omega arith) (durations_in _ c.args.sorted.held) c.if-sorted-last.true
