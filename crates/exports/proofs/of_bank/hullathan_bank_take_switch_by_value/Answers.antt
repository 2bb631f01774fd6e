-- `exports::of_bank::hullathan_bank_take_switch_by_value` meets its contract. Assumes nothing.
use Rattle.bank.specs.Answers.{choice_then, count_then}
use Rattle.tracker.specs.declared.SpeedTracker.{SpeedTracker}
use Rattle.tracker.specs.Model as Tracked
use Rattle.bank_model.specs.Steps as Steps
use Rattle.bank.specs.declared.TimingBank.{TimingBank}
use Rattle.bank.specs.View.{view}
use Rattle.exports.proofs.Rivals.{switches_both}
use Rattle.exports.proofs.of_bank.hullathan_bank_take_switch_by_value.Goals as goal

pub returns : goal.returns
returns c =
    let a = c.args in
    switches_both a.b _ c.read_as.ensures a.primary _ c.read_as-2.ensures
    (λ (z : TimingBank) (y : SpeedTracker). choice_then z y (count_then z 0))
    a.serial
    (λ (z : TimingBank) (y : SpeedTracker). Steps.take_switch (view z) (Tracked.view y) a.serial)
    _ _ c.take_switch-k.ensures c.switched.ensures
