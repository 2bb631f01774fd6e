-- `tracker::inner::begin::reseed_wpm_after_warmup` meets its contract. Assumes nothing.
use Rattle.ranges.proofs.Standard.{standard_good, standard_held}
use Rattle.ranges.specs.Settings.{standard}
use Rattle.marks.proofs.Testing.{not_taken, not_left}
use Rattle.tracker.specs.Model.{view}
use Rattle.tracker.proofs.Keeping.{reseed_sane}
use Rattle.tracker.proofs.Relocking.{times_ready, times_not}
use Rattle.tracker.proofs.Soundness.{counts}
use Rattle.tracker.proofs.Stored.{sane_of, still}
use Rattle.tracker.proofs.inner.begin.reseed_wpm_after_warmup.Goals as goal

pub returns-then-not-t : goal.returns-then-not-t
returns-then-not-t c = times_not standard (view c.args.t.tracker) (not_taken _ c.if-not-t.true)

pub timed-requires : goal.timed-requires
timed-requires c = counts standard c.args.t.tracker c.args.t.held

pub invariant_of-result : goal.invariant_of-result
invariant_of-result c =
    let m = view c.args.t.tracker in
    record {
      held =
          still c.timed.result _
          (times_ready standard m _ (not_left _ c.if-not-t.false) c.timed.ensures.0, c.timed.ensures.1)
          (reseed_sane standard standard_good standard_held m (sane_of c.args.t _ c.well_formed.0.1.1));
    }

pub returns : goal.returns
returns c = times_ready standard (view c.args.t.tracker) _ (not_left _ c.if-not-t.false) c.timed.ensures.0
