-- `station::inner::events::begin` meets its contract. Assumes nothing.
use Rattle.std.proofs.Common.{arith, length-take}
use Rattle.ranges.specs.Settings.{standard}
use Rattle.tracker.proofs.Soundness.{counts, sound_fine}
use Rattle.station.proofs.inner.events.begin.Goals as goal

pub shared_ref_as_front-recent : goal.shared_ref_as_front-recent
shared_ref_as_front-recent c = (counts standard c.args.p.tracker c.args.p.held).recent

pub invariant_of-recent : goal.invariant_of-recent
invariant_of-recent c =
    let n = (counts standard c.args.p.tracker c.args.p.held).recent in
    record {
      held = (sound_fine standard c.args.p.tracker c.args.p.held).recent;
      few =
          simp length-take (omega arith);
    }
