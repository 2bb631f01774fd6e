-- `tracker::inner::rivals::element_gaps` meets its contract. Assumes nothing.
use Rattle.ranges.specs.Settings.{standard}
use Rattle.tracker.specs.Model.{view}
use Rattle.tracker.proofs.Rivalling.{Hearing}
use Rattle.tracker.proofs.inner.rivals.element_gaps.Given as goal

abbrev pub invariant-loop-g : goal.invariant-loop-g
invariant-loop-g l = Hearing standard (view l.initial.u.tracker) l.gaps (view l.u.tracker) l.g-index
