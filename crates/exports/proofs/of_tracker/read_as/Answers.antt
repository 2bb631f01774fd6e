-- `exports::of_tracker::read_as` meets its contract. Assumes nothing.
use Rattle.std.proofs.Common.{Bool, cond, refl, ap, ◌∙◌}
use Rattle.tracker.specs.declared.SpeedTracker.{SpeedTracker}
use Rattle.exports.proofs.Handing.{numbered, overfull}
use Rattle.exports.proofs.of_tracker.read_as.Goals as goal

pub returns-in-Err : goal.returns-in-Err
returns-in-Err c = record {
  is = λ e. absurd (numbered _ (c.in-Err.ensures.0 ∙ ap (λ (b : Bool). cond b 0 1) e));
  is_not = λ e. overfull _ (ap (λ (t : SpeedTracker). t.pair.init_len) c.new.ensures.0) refl;
}
