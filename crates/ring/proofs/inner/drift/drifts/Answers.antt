-- `ring::inner::drift::drifts` meets its contract. Assumes nothing.
use Rattle.std.proofs.Common.{◌≡◌, length, arith, rules}
use Rattle.ranges.specs.Settings.{standard}
use Rattle.ring.proofs.Ringing.{ring_held}
use Rattle.ring.proofs.inner.drift.drifts.Goals as goal

pub invariant_of-marks : goal.invariant_of-marks
invariant_of-marks c =
    let l : length c.durations-d.result ≡ 12 = search rules in
    record { held = rw c.durations-d.ensures (ring_held standard c.args.ring.now c.requires); few = omega arith }
