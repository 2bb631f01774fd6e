-- `exports::of_tracker::hullathan_tracker_resolve_unimodal_bootstrap` meets its contract. Assumes nothing.
use Rattle.pair.specs.Readings.{gaps_say_dahs}
use Rattle.marks.specs.Lists.{list_refusal}
use Rattle.ranges.specs.Settings.{standard}
use Rattle.tracker.specs.Model.{view}
use Rattle.tracker.specs.Steps.{resolved}
use Rattle.exports.proofs.Handing.{said_on}
use Rattle.exports.proofs.of_tracker.hullathan_tracker_resolve_unimodal_bootstrap.Goals as goal

pub returns : goal.returns
returns c =
    let h =
    said_on c.args.t _ c.read_as-u.ensures (list_refusal c.args.gaps_ms.now)
    (λ z. gaps_say_dahs standard (view z).pair c.args.gaps_ms.now)
    (λ z. resolved standard (view z) c.args.gaps_ms.now) _ _ c.said.result
    c.resolve_unimodal_bootstrap-answer.ensures c.said.ensures in
    record { code_value = h.0; yes_value = h.1; handed = h.2 }
