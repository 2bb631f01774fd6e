-- `exports::of_bank::hullathan_bank_on_ready` meets its contract. Assumes nothing.
use Rattle.ranges.specs.Settings.{standard}
use Rattle.bank.specs.Answers.{count_then, marks_refusal}
use Rattle.tracker.specs.declared.SpeedTracker.{SpeedTracker}
use Rattle.tracker.specs.Model as Tracked
use Rattle.bank_model.specs.Steps as Steps
use Rattle.bank.specs.declared.TimingBank.{TimingBank}
use Rattle.bank.specs.View.{view}
use Rattle.exports.proofs.Rivals.{answers_both}
use Rattle.exports.proofs.of_bank.hullathan_bank_on_ready.Goals as goal

pub returns : goal.returns
returns c =
    let a = c.args in
    answers_both a.b _ c.read_as-c.ensures a.primary _ c.read_as.ensures
    (λ (z : TimingBank) (y : SpeedTracker). count_then z (marks_refusal a.marks.now))
    (λ (z : TimingBank) (y : SpeedTracker). Steps.on_ready standard (view z) (Tracked.view y) a.marks.now)
    _ _ _ c.on_ready-said.ensures c.answered.ensures
