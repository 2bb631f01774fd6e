use Rattle.std.proofs.Common.{true, sym, ◌∙◌}
use Rattle.ranges.specs.Settings.{standard}
use Rattle.tracker.specs.Model as Tracked
use Rattle.bank_model.specs.Steps.{marked}
use Rattle.bank.specs.View.{view}
use Rattle.bank.proofs.Leaving.{
  sift_begins,
  sift_member,
  sift_told,
  sift_sturdy,
  heard_many,
  few_heard,
  keeps_heard,
  room_heard,
  drops_heard,
}
use Rattle.bank.proofs.Hearing.{primary_mark}
use Rattle.bank.proofs.Beating.{beaten_is, beaten_sturdy, few_marks, beat_heard}
use Rattle.bank.proofs.inner.beat.hear_beat.Goals as goal

pub loop-i-init : goal.loop-i-init
loop-i-init c =
    let b = c.args.b.bank in
    let e = primary_mark (Tracked.view c.args.p) _ _ _ _ _ c.of-m.result b.sturdy.score c.decayed-score.ensures
    c.mark_ll.ensures c.of-m.ensures c.requires.l_value in
    let y = beaten_sturdy b.bank b.sturdy (Tracked.view c.args.p) c.args.side c.args.d.ms _
    c.run_on-run.result (rw c.held_gap.ensures at c.run_on-run.ensures) e in
    let n = heard_many (marked standard c.of-m.result.dur.ms true) _ y in
    sift_begins _ _ _ _ _ _ c.none-left.result n y c.none-left.ensures (few_heard _ _ _ y n)

pub mark_one-h-requires : goal.mark_one-h-requires
mark_one-h-requires c = sift_member _ _ _ _ _ _ _ _ _ _ _ _ c.loop-i.invariant c.loop-i-test.true

pub push-requires : goal.push-requires
push-requires c =
    room_heard _ _ _ _ _ _ _ _ _ _ _ _ c.loop-i.invariant c.loop-i-test.true c.mark_one-h.result c.mark_one-h.ensures.0
    (sym c.is_kept.ensures ∙ c.if-not-is_kept.true)

pub loop-i-preserved-then-not-is_kept : goal.loop-i-preserved-then-not-is_kept
loop-i-preserved-then-not-is_kept c =
    drops_heard _ _ _ _ _ _ _ _ _ _ _ _ c.loop-i.invariant c.loop-i-test.true c.mark_one-h.result c.mark_one-h.ensures.0
    c.gone-d.result _ c.gone-d.ensures c.push.ensures

pub loop-i-preserved : goal.loop-i-preserved
loop-i-preserved c =
    keeps_heard _ _ _ _ _ _ _ _ _ _ _ _ c.loop-i.invariant c.loop-i-test.true c.mark_one-h.result c.mark_one-h.ensures.0
    _ c.lead_one-e.ensures (sym c.is_kept.ensures ∙ c.if-not-is_kept.false) _ c.better-best.ensures

pub invariant_of-result : goal.invariant_of-result
invariant_of-result c =
    record { sturdy = sift_sturdy _ _ _ _ _ _ _ _ _ _ c.loop-i.invariant c.loop-i-test.false _ c.place_of-c.ensures }

pub returns : goal.returns
returns c =
    let b = c.args.b.bank in
    let q = c.requires in
    let r = rw c.held_gap.ensures at c.run_on-run.ensures in
    let e = primary_mark (Tracked.view c.args.p) _ _ _ _ _ c.of-m.result b.sturdy.score c.decayed-score.ensures
    c.mark_ll.ensures c.of-m.ensures q.l_value in
    sift_told _ _ _ _ _ _ _ _ _ _ c.loop-i.invariant c.loop-i-test.false _ c.place_of-c.ensures
    ∙ beat_heard (view b.bank) _ (Tracked.view c.args.p) c.args.l c.args.d.ms c.args.side
    (beaten_is b.bank b.sturdy (Tracked.view c.args.p) c.args.side c.args.d.ms _ c.run_on-run.result r e) q.l_value
    q.side_value.0 (few_marks b.bank b.sturdy q.side_value.1) _ c.of-m.ensures
