-- `tracker::SpeedTracker::resolve_unimodal_bootstrap` meets its contract. Assumes nothing.
use Rattle.std.proofs.Common.{Bool, cond, T, sym, ap, ◌∙◌, subst}
use lib.Ieee.Bits.{is_true}
use Rattle.marks.specs.Lists.{list_refusal}
use Rattle.ranges.specs.Settings.{standard}
use Rattle.pair.specs.Readings.{gaps_say_dahs}
use Rattle.tracker.specs.declared.SpeedTracker.{SpeedTracker}
use Rattle.tracker.specs.Answers.{flag}
use Rattle.tracker.specs.Model.{view}
use Rattle.tracker.specs.Sound.{sound}
use Rattle.tracker.specs.Steps.{resolved}
use Rattle.tracker.proofs.Answering.{none_of, as_it_was}
use Rattle.tracker.proofs.Rivalling.{resolves_not}
use Rattle.tracker.proofs.SpeedTracker.resolve_unimodal_bootstrap.Goals as goal

pub returns-in_default : goal.returns-in_default
returns-in_default c =
    let t = c.args.self.now in
    let s = c.in_ok-t.ensures in
    let g = c.in_ok-gaps.ensures in
    let u = view c.in_ok-t.t.tracker in
    let l = c.in_ok-gaps.gaps.at.now in
    let none = none_of (gaps_say_dahs standard u.pair l) (resolved standard u l) c.in_default.ensures in
    let e = rw (s.1, g.1) at none in
    let h = subst (λ (u : SpeedTracker). T (sound standard u)) s.1 c.in_ok-t.t.held in
    as_it_was t _ _ _ _ h
    (ap (λ (b : Bool). cond b (list_refusal c.args.gaps_ms.now) 1) (is_true (sound standard t) h) ∙ sym g.0)
    (ap flag (sym e)) (resolves_not standard (view t) _ e)
