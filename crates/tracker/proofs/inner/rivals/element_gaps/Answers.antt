-- `tracker::inner::rivals::element_gaps` meets its contract. Assumes nothing.
use Rattle.std.proofs.Common.{arith}
use Rattle.ranges.proofs.Mean.{all_at}
use Rattle.ranges.specs.Limits.{duration_min, duration_max}
use Rattle.ranges.specs.Settings.{standard}
use Rattle.tracker.proofs.Rivalling.{hear_begins, hear_turns, hear_ends}
use Rattle.tracker.proofs.inner.rivals.element_gaps.Goals as goal

pub loop-g-init : goal.loop-g-init
loop-g-init c = hear_begins standard _ _

pub invariant_of-element_gap : goal.invariant_of-element_gap
invariant_of-element_gap c =
    record { held = all_at duration_min duration_max _ _ c.requires (omega arith) }

pub loop-g-preserved : goal.loop-g-preserved
loop-g-preserved c = hear_turns standard _ _ _ _ _ (omega arith) c.loop-g.invariant c.element_gap-u.ensures

pub returns : goal.returns
returns c = hear_ends standard _ _ _ _ (omega arith) c.loop-g.invariant
