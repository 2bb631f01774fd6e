-- `exports::of_tracker::hullathan_tracker_reseed_wpm_after_warmup` meets its contract. Assumes nothing.
use Rattle.ranges.specs.Settings.{standard}
use Rattle.tracker.specs.Model.{view}
use Rattle.tracker.specs.Steps.{reseeded}
use Rattle.exports.proofs.Handing.{told_on}
use Rattle.exports.proofs.of_tracker.hullathan_tracker_reseed_wpm_after_warmup.Goals as goal

pub returns : goal.returns
returns c =
    let h =
    told_on c.args.t _ c.read_as-u.ensures 0
    (λ z. reseeded standard
    (view z)) _ _ c.told.result c.reseed_wpm_after_warmup-answer.ensures c.told.ensures in
    record { code_value = h.0; handed = h.1 }
