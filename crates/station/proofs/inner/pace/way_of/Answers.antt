-- `station::inner::pace::way_of` meets its contract. Assumes nothing.
use Rattle.station.specs.View.{view}
use Rattle.station.proofs.Refusing.{mark_timed, gap_timed}
use Rattle.station.proofs.inner.pace.way_of.Goals as goal

pub invariant_of-mark_way : goal.invariant_of-mark_way
invariant_of-mark_way c = record { held = mark_timed (view c.args.s.now) c.args.e _ _ c.in-Mark.is c.in-Ok.ensures }

pub invariant_of-gap_way : goal.invariant_of-gap_way
invariant_of-gap_way c = record { held = gap_timed (view c.args.s.now) c.args.e _ c.in-Gap.is c.in-Ok.ensures }
