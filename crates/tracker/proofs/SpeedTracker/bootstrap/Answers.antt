-- `tracker::SpeedTracker::bootstrap` meets its contract. Assumes nothing.
use Rattle.std.proofs.Common.{T, sym, ap, subst}
use Rattle.ranges.specs.Settings.{standard}
use Rattle.tracker.specs.declared.SpeedTracker.{SpeedTracker}
use Rattle.tracker.specs.Answers.{flag}
use Rattle.tracker.specs.Model.{view}
use Rattle.tracker.specs.Sound.{sound}
use Rattle.tracker.specs.Steps.{can_begin, bootstrapped}
use Rattle.tracker.proofs.Answering.{none_of, as_it_was}
use Rattle.tracker.proofs.Relocking.{begins_not}
use Rattle.tracker.proofs.SpeedTracker.bootstrap.Goals as goal

pub returns-in_default : goal.returns-in_default
returns-in_default c =
    let t = c.args.self.now in
    let s = c.in_ok-t.ensures in
    let u = view c.in_ok-t.t.tracker in
    let none = none_of (can_begin u) (bootstrapped standard u) c.in_default.ensures in
    let e = rw s.1 at none in
    as_it_was t _ _ _ _ (subst (λ (u : SpeedTracker). T (sound standard u)) s.1 c.in_ok-t.t.held) (sym s.0)
    (ap flag (sym e)) (begins_not standard (view t) e)
