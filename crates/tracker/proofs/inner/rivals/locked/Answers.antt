-- `tracker::inner::rivals::locked` meets its contract. Assumes nothing.
use Rattle.ranges.proofs.Standard.{standard_good, standard_held}
use Rattle.ranges.specs.Settings.{standard}
use Rattle.std.proofs.Common.{ap, ◌∙◌}
use Rattle.tracker.specs.Steps.{bound, fresh}
use Rattle.pair.specs.Lock.{initialized}
use Rattle.pair.specs.Model.{Pair, view_pair}
use Rattle.tracker.specs.Model.{Tracker, with_pair}
use Rattle.marks.proofs.Bounds.{durations_in}
use Rattle.tracker.proofs.Keeping.{locked_up, rest_of, fresh_sane}
use Rattle.tracker.proofs.Stored.{still}
use Rattle.tracker.proofs.inner.rivals.locked.Goals as goal

pub invariant_of-result : goal.invariant_of-result
invariant_of-result c =
    let l = c.args.marks.at.now in
    record {
      held =
          still c.bound.result (bound standard (with_pair fresh (initialized standard l))) (
            c.bound.ensures.0 ∙ ap
                (λ (z : Tracker). bound standard (with_pair z (view_pair c.initialize-t.result))) c.fresh.ensures.1 ∙ ap
                (λ (p : Pair). bound standard (with_pair fresh p)) c.initialize-t.ensures.0,
            c.bound.ensures.1,
          )
          (locked_up standard standard_good standard_held fresh l
          (rest_of standard standard_good standard_held fresh (fresh_sane standard standard_good standard_held))
          (durations_in l c.args.marks.held) c.requires c.args.marks.few).sane;
    }
