-- `tracker::inner::gaps::on_element_gap` meets its contract. Assumes nothing.
use Rattle.ranges.proofs.Standard.{standard_good, standard_held}
use Rattle.ranges.specs.Settings.{standard}
use Rattle.ranges.proofs.Compare.{passed}
use Rattle.tracker.specs.Steps.{on_gap}
use Rattle.tracker.specs.Model.{view}
use Rattle.tracker.proofs.Keeping.{gap_sane}
use Rattle.tracker.proofs.Soundness.{counts}
use Rattle.tracker.proofs.Stored.{lasts, sane_of, still}
use Rattle.tracker.proofs.inner.gaps.on_element_gap.Goals as goal

pub invariant_of-result : goal.invariant_of-result
unfolding on_gap
invariant_of-result c =
    let t = c.args.t in
    let k = counts standard t.tracker t.held in
    record {
      held =
          still _ _ (rw c.gap_moved.ensures, record { init = k.init; ring = k.ring; recent = k.recent })
          (gap_sane standard standard_good standard_held (view t.tracker) _ (sane_of t _ c.well_formed.0.1.1)
          (lasts c.args.d) (passed c.well_formed.1.0.1.1.0.1));
    }
