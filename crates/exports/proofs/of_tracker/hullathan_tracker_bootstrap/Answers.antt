-- `exports::of_tracker::hullathan_tracker_bootstrap` meets its contract. Assumes nothing.
use Rattle.ranges.specs.Settings.{standard}
use Rattle.tracker.specs.Model.{view}
use Rattle.tracker.specs.Steps.{bootstrapped, can_begin}
use Rattle.exports.proofs.Handing.{said_on}
use Rattle.exports.proofs.of_tracker.hullathan_tracker_bootstrap.Goals as goal

pub returns : goal.returns
returns c =
    let h =
    said_on c.args.t _ c.read_as-u.ensures 0 (λ z. can_begin (view z))
    (λ z. bootstrapped standard (view z)) _ _ c.said.result c.bootstrap-answer.ensures c.said.ensures in
    record { code_value = h.0; yes_value = h.1; handed = h.2 }
