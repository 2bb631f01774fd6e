-- `exports::of_bank::hullathan_bank_on_gap` meets its contract. Assumes nothing.
use Rattle.ranges.specs.Settings.{standard}
use Rattle.ranges.specs.Limits.{duration_refusal}
use Rattle.bank.specs.Answers.{count_then}
use Rattle.tracker.specs.declared.SpeedTracker.{SpeedTracker}
use Rattle.tracker.specs.Model as Tracked
use Rattle.bank_model.specs.Steps as Steps
use Rattle.bank.specs.declared.TimingBank.{TimingBank}
use Rattle.bank.specs.View.{view}
use Rattle.exports.proofs.Rivals.{hears_both}
use Rattle.exports.proofs.of_bank.hullathan_bank_on_gap.Goals as goal

pub returns : goal.returns
returns c =
    let a = c.args in
    hears_both a.b _ c.read_as-c.ensures a.primary _ c.read_as.ensures
    (λ (z : TimingBank) (y : SpeedTracker). count_then z (duration_refusal a.dur_ms))
    (λ (z : TimingBank) (y : SpeedTracker). Steps.on_gap standard (view z) (Tracked.view y) a.dur_ms)
    _ _ _ c.on_gap-said.ensures c.heard.ensures
