-- `tracker::inner::rivals::from_marks` meets its contract. Assumes nothing.
use Rattle.ranges.specs.Settings.{standard}
use Rattle.tracker.specs.Model.{view}
use Rattle.marks.proofs.Bounds.{durations_in}
use Rattle.tracker.proofs.Rivalling.{from_is, heard_ready, timed_sound}
use Rattle.tracker.proofs.Soundness.{counts}
use Rattle.tracker.proofs.inner.rivals.from_marks.Goals as goal

pub timed-requires : goal.timed-requires
timed-requires c = counts standard _ c.element_gaps-t.result.held

pub invariant_of-result : goal.invariant_of-result
invariant_of-result c =
    let l = c.args.marks.at.now in
    let t = c.element_gaps-t.result in
    let r = heard_ready l c.args.gaps.now _ (view t.tracker) (durations_in l c.args.marks.held) c.requires.any
    c.args.marks.few c.locked.ensures c.element_gaps-t.ensures in
    record { held = timed_sound t.tracker c.timed.result t.held r c.timed.ensures }

pub returns : goal.returns
returns c = from_is standard _ _ _ _ _ c.locked.ensures c.element_gaps-t.ensures c.timed.ensures.0
