-- `tracker::inner::begin::fresh` meets its contract. Assumes nothing.
use lib.Ieee.{of_bits, eq}
use Rattle.tracker.specs.Sound.{sound, proper}
use Rattle.tracker.proofs.inner.begin.fresh.Goals as goal

pub invariant_of-result : goal.invariant_of-result
unfolding of_bits eq sound proper
invariant_of-result c = record { held = tt }
