-- `exports::of_tracker::hullathan_tracker_take_badlock_recovered` meets its contract. Assumes nothing.
use Rattle.tracker.specs.Model.{view}
use Rattle.tracker.specs.Steps.{settled}
use Rattle.exports.proofs.Handing.{said_on}
use Rattle.exports.proofs.of_tracker.hullathan_tracker_take_badlock_recovered.Goals as goal

pub returns : goal.returns
returns c =
    let h =
    said_on c.args.t _ c.read_as-u.ensures 0 (λ z. (view z).recovered)
    (λ z. settled (view z)) _ _ c.said.result c.take_badlock_recovered-answer.ensures c.said.ensures in
    record { code_value = h.0; yes_value = h.1; handed = h.2 }
