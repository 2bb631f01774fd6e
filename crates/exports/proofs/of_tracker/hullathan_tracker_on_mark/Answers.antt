-- `exports::of_tracker::hullathan_tracker_on_mark` meets its contract. Assumes nothing.
use Rattle.ranges.specs.Limits.{duration_refusal}
use Rattle.ranges.specs.Settings.{standard}
use Rattle.tracker.specs.Model.{view}
use Rattle.tracker.specs.Steps.{on_mark}
use Rattle.exports.proofs.Handing.{told_on}
use Rattle.exports.proofs.of_tracker.hullathan_tracker_on_mark.Goals as goal

pub returns : goal.returns
returns c =
    let h =
    told_on c.args.t _ c.read_as-u.ensures (duration_refusal c.args.dur_ms)
    (λ z. on_mark standard (view z) c.args.dur_ms) _ _ c.told.result c.on_mark-answer.ensures c.told.ensures in
    record { code_value = h.0; handed = h.1 }
