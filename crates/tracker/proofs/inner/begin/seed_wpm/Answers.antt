-- `tracker::inner::begin::seed_wpm` meets its contract. Assumes nothing.
use Rattle.ranges.proofs.Standard.{standard_good, standard_held}
use Rattle.ranges.specs.Settings.{standard}
use Rattle.std.proofs.Common.{true, [], ap, ◌∙◌}
use mathlib.Core.Option.{none}
use Rattle.pair.specs.Model.{Pair}
use Rattle.tracker.specs.Model.{with_pair, with_ring, with_recent, with_egap, with_uncorroborated, view}
use Rattle.tracker.specs.Steps.{timed, seeded}
use Rattle.pair.specs.Readings.{seed_pair}
use Rattle.tracker.proofs.Keeping.{seed_up}
use Rattle.tracker.proofs.Stored.{sane_of, still}
use Rattle.tracker.proofs.inner.begin.seed_wpm.Goals as goal

pub invariant_of-result : goal.invariant_of-result
unfolding seeded
invariant_of-result c =
    let t = c.args.t in
    let m = view t.tracker in
    record {
      held =
          still c.timed.result (seeded standard m c.args.wpm) (
            c.timed.ensures.0 ∙ ap
                (λ (p : Pair). timed standard
                (with_uncorroborated (with_egap (with_recent (with_ring (with_pair m p) []) []) none) true))
                (c.seed_pair-u.ensures.0 ∙ ap seed_pair c.clamp-dit.ensures.value),
            c.timed.ensures.1,
          )
          (seed_up standard standard_good standard_held m c.args.wpm
          (sane_of t _ c.well_formed.0.1.1) c.requires).sane;
    }
