-- `exports::of_tracker::hullathan_tracker_seed_wpm` meets its contract. Assumes nothing.
use Rattle.tracker.specs.Answers.{speed_refusal}
use Rattle.ranges.specs.Settings.{standard}
use Rattle.tracker.specs.Model.{view}
use Rattle.tracker.specs.Steps.{seeded}
use Rattle.exports.proofs.Handing.{told_on}
use Rattle.exports.proofs.of_tracker.hullathan_tracker_seed_wpm.Goals as goal

pub returns : goal.returns
returns c =
    let h =
    told_on c.args.t _ c.read_as-u.ensures (speed_refusal c.args.wpm)
    (λ z. seeded standard (view z) c.args.wpm) _ _ c.told.result c.seed_wpm-answer.ensures c.told.ensures in
    record { code_value = h.0; handed = h.1 }
