-- `station::inner::accept::tally` meets its contract. Assumes nothing.
use Rattle.std.proofs.Common.{◌+◌, ◌^◌, ◌<◌, arith, sym}
use Rattle.station.proofs.Tallying.{tallied_none, counted_next, counted_small}
use Rattle.station.proofs.inner.accept.tally.Goals as goal

pub loop-d-init : goal.loop-d-init
loop-d-init c = sym (tallied_none c.args.was)

pub overflow_add-of_mut : goal.overflow_add-of_mut
overflow_add-of_mut c =
    let small : c.of_mut.result.now + 1 < 2 ^ 64 =
    counted_small c.args.was _ c.args.left.now _ c.loop-d.invariant _ _ (omega arith) c.requires.few c.requires.at_most
    c.of_mut.ensures.value in
    omega arith

pub loop-d-preserved : goal.loop-d-preserved
loop-d-preserved c =
    counted_next c.args.was _ c.args.left.now _ c.loop-d.invariant _ _ (omega arith) c.of_mut.ensures.value
