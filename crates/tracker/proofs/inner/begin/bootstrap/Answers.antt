-- `tracker::inner::begin::bootstrap` meets its contract. Assumes nothing.
use Rattle.std.proofs.Common.{ap, ◌∙◌}
use Rattle.ranges.specs.Settings.{standard}
use Rattle.tracker.specs.declared.sound_tracker.SoundTracker.{SoundTracker}
use Rattle.tracker.specs.Model.{view}
use Rattle.tracker.specs.Steps.{can_begin, bootstrapped}
use Rattle.tracker.proofs.Answering.{or_same}
use Rattle.tracker.proofs.Relocking.{begins_not}
use Rattle.tracker.proofs.inner.begin.bootstrap.Goals as goal

pub returns : goal.returns
returns c =
    let t = c.args.t in
    let m = view t.tracker in
    ap (λ (s : SoundTracker). view s.tracker) c.unwrap_or.ensures
    ∙ or_same (can_begin m) (bootstrapped standard m) _ t c.begun.ensures (begins_not standard m)
