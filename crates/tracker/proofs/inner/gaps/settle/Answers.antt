-- `tracker::inner::gaps::settle` meets its contract. Assumes nothing.
use Rattle.ranges.proofs.Standard.{standard_good, standard_held}
use Rattle.ranges.specs.Settings.{standard}
use Rattle.std.proofs.Common.{refl}
use Rattle.tracker.specs.Steps.{settled}
use Rattle.tracker.specs.Model.{view}
use Rattle.tracker.proofs.Keeping.{settled_sane}
use Rattle.tracker.proofs.Soundness.{counts}
use Rattle.tracker.proofs.Stored.{sane_of, still}
use Rattle.tracker.proofs.inner.gaps.settle.Goals as goal

pub invariant_of-result : goal.invariant_of-result
unfolding settled
invariant_of-result c =
    let t = c.args.t in
    let k = counts standard t.tracker t.held in
    let s = settled_sane standard standard_good standard_held (view t.tracker) (sane_of t _ c.well_formed.0.1.1) in
    record { held = still _ _ (refl, record { init = k.init; ring = k.ring; recent = k.recent }) s }
