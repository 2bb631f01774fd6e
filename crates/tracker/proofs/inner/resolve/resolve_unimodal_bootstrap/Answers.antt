-- `tracker::inner::resolve::resolve_unimodal_bootstrap` meets its contract. Assumes nothing.
use Rattle.std.proofs.Common.{ap, ◌∙◌}
use Rattle.ranges.specs.Settings.{standard}
use Rattle.pair.specs.Readings.{gaps_say_dahs}
use Rattle.tracker.specs.declared.sound_tracker.SoundTracker.{SoundTracker}
use Rattle.tracker.specs.Model.{view}
use Rattle.tracker.specs.Steps.{resolved}
use Rattle.tracker.proofs.Answering.{or_same}
use Rattle.tracker.proofs.Rivalling.{resolves_not}
use Rattle.tracker.proofs.inner.resolve.resolve_unimodal_bootstrap.Goals as goal

pub returns : goal.returns
returns c =
    let t = c.args.t in
    let m = view t.tracker in
    let gaps = c.args.gaps.at.now in
    ap (λ (s : SoundTracker). view s.tracker) c.unwrap_or.ensures
    ∙ or_same (gaps_say_dahs standard m.pair gaps) (resolved standard m gaps) _ t c.resolved.ensures
    (resolves_not standard m gaps)
