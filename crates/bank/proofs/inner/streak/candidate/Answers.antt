use Rattle.std.proofs.Common.{Bool, cond, sym, ap, ◌∙◌, arith, length-take}
use mathlib.Core.Option.{some}
use Rattle.ranges.specs.Settings.{standard}
use Rattle.tracker.specs.Model as Tracked
use Rattle.tracker.specs.Steps.{three_to_one}
use Rattle.bank_model.proofs.Ready.{dit_log, dah_log}
use Rattle.bank.specs.View.{view}
use Rattle.bank.proofs.Streaking.{candidate_is, marks_ready}
use Rattle.marks.proofs.Bounds.{held_durations}
use Rattle.bank.proofs.inner.streak.candidate.Goals as goal

pub invariant_of-marks : goal.invariant_of-marks
invariant_of-marks c =
    let s = c.args.b.sturdy.streaks in
    let n = s.few in
    record { held = held_durations _ s.marks; few = simp length-take (omega arith) }

pub from_marks-t-requires : goal.from_marks-t-requires
from_marks-t-requires c =
    let s = c.args.b.sturdy.streaks in
    let n = s.few in
    record { any = simp length-take (omega arith); between = s.between }

pub centroid_logs-requires : goal.centroid_logs-requires
centroid_logs-requires c =
    let t = c.from_marks-t.result in
    let r = marks_ready t.tracker _ _ c.from_marks-t.ensures in
    (dit_log t.tracker t.held r, dah_log t.tracker t.held r)

pub returns-then-duplicates : goal.returns-then-duplicates
returns-then-duplicates c =
    let t = c.from_marks-t.result.tracker in
    candidate_is c.args.p.lo c.args.p.hi (view c.args.b.bank).evidence t _ c.from_marks-t.ensures
    c.centroid_logs.ensures _ c.duplicates.ensures _ (c.three_to_one_alternative.ensures
    ∙ ap (λ (z : Bool). cond z (three_to_one standard (Tracked.view t)) (some (Tracked.view t)))
    (sym c.if-duplicates.true))

pub returns : goal.returns
returns c =
    let t = c.from_marks-t.result.tracker in
    candidate_is c.args.p.lo c.args.p.hi (view c.args.b.bank).evidence t _ c.from_marks-t.ensures
    c.centroid_logs.ensures _ c.duplicates.ensures _
    (ap (λ (z : Bool). cond z (three_to_one standard (Tracked.view t)) (some (Tracked.view t)))
    (sym c.if-duplicates.false))
