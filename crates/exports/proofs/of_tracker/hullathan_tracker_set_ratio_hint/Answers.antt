-- `exports::of_tracker::hullathan_tracker_set_ratio_hint` meets its contract. Assumes nothing.
use Rattle.ranges.specs.Settings.{standard}
use Rattle.tracker.specs.Model.{view}
use Rattle.tracker.specs.Steps.{set_hint}
use Rattle.exports.proofs.Handing.{told_on}
use Rattle.exports.proofs.of_tracker.hullathan_tracker_set_ratio_hint.Goals as goal

pub returns : goal.returns
returns c =
    let h =
    told_on c.args.t _ c.read_as-u.ensures 0
    (λ z. set_hint standard
    (view z) c.args.hint) _ _ c.told.result c.set_ratio_hint-answer.ensures c.told.ensures in
    record { code_value = h.0; handed = h.1 }
