-- `tracker::inner::mark::on_mark` meets its contract. Assumes nothing.
use Rattle.ranges.proofs.Standard.{standard_good, standard_held}
use Rattle.ranges.specs.Settings.{standard}
use Rattle.ranges.proofs.Compare.{passed}
use Rattle.tracker.specs.Model.{view}
use Rattle.tracker.proofs.Keeping.{mark_sane}
use Rattle.tracker.proofs.Stored.{lasts, sane_of, still}
use Rattle.tracker.proofs.inner.mark.on_mark.Goals as goal

pub invariant_of-result : goal.invariant_of-result
invariant_of-result c =
    record {
      held =
          still c.marked.result _ c.marked.ensures
          (mark_sane standard standard_good standard_held (view c.args.t.tracker) _
          (sane_of c.args.t _ c.well_formed.0.1.1) (lasts c.args.d) (passed c.well_formed.1.0.1.1.0.1));
    }
