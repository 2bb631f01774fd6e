-- `tracker::inner::mark::marked` meets its contract. Assumes nothing.
use Rattle.std.proofs.Common.{◌≡◌, not, ◌&&◌, take, take_all, set, sym, refl, ap, ◌∙◌, arith, rules}
use Rattle.ranges.specs.Settings.{standard}
use Rattle.marks.proofs.Testing.{not_taken, not_left}
use Rattle.marks.proofs.Shifting.{push_room, push_full}
use Rattle.pair.specs.Model.{view_pair}
use Rattle.ring.specs.Ring.{uniform}
use Rattle.pair.proofs.Soundness.{pair_init, unready_few}
use Rattle.tracker.specs.Model.{view, with_recent}
use Rattle.tracker.proofs.Marking.{few_kept, marks_unready, Heard, after, after_is, after_drivable, speaks, turned}
use Rattle.tracker.proofs.Relocking.{checked_mixed}
use Rattle.tracker.proofs.Soundness.{counts, sound_fine}
use Rattle.tracker.proofs.Stored.{lasts, ring_long}
use Rattle.tracker.proofs.inner.mark.marked.Goals as goal
use Rattle.tracker.proofs.inner.mark.marked.Goals.{then-t, else-t}

pub invariant_of-last : goal.invariant_of-last
invariant_of-last c = record { few = (counts standard c.args.s.tracker c.args.s.held).recent }

pub start-u-requires-clause-few : goal.start-u-requires-clause-few
start-u-requires-clause-few c =
    let t = c.args.s.tracker in (
      (counts standard t c.args.s.held).init,
      unready_few standard (view t).pair (not_taken _ c.if-not-t.true)
          (sound_fine standard t c.args.s.held).pair,
    )

pub start-u-requires-clause-held : goal.start-u-requires-clause-held
start-u-requires-clause-held c =
    let s = c.args.s in
    pair_init standard (view s.tracker).pair (sound_fine standard s.tracker s.held).pair

pub open-requires : goal.open-requires
open-requires c =
    let k = counts standard c.args.s.tracker c.args.s.held in
    record { init = let h = c.start-u.ensures.1 in omega arith; ring = k.ring; recent = c.push-recent.result.few }

pub returns-then-not-t : goal.returns-then-not-t
returns-then-not-t c =
    let t = c.args.s.tracker in (
      marks_unready standard (view t) c.args.d.ms (with_recent (view t) _)
          (ap (with_recent (view t)) c.push-recent.ensures) (view_pair c.start-u.result) (view c.«open».result)
          (not_taken _ c.if-not-t.true) c.start-u.ensures.0 c.«open».ensures.0,
      c.«open».ensures.1,
    )

pub check-requires : goal.check-requires
check-requires c =
    let t = c.args.s.tracker in
    let k = counts standard t c.args.s.held in
    let w = ring_long t _ c.well_formed.0.1.1.0.1.1 in
    let b : c.if-t.u ≡ (t.lo_uncorroborated && not c.entry-e.result.assigned_dit) =
    elim c.if-t.branch [ then-t z ↦ rw (z.u-is, z.if-t.true) | else-t z ↦ rw (z.u-is, z.if-t.false) ] in
    let h : Heard standard (view t) c.args.d.ms _ (view_pair c.learn.result)
    (view_pair c.constrain-q.result) c.entry-e.result c.if-t.u =
    record {
      was = not_left _ c.if-not-t.false;
      keeps = c.push-recent.ensures;
      learns = c.learn.ensures.0;
      binds = c.constrain-q.ensures.0;
      enters = c.entry-e.ensures;
      rests = b;
    } in
    let g = k.ring in
    let R = push_room 12 t.ring t.ring_len c.entry-e.result (omega arith) (omega arith) in
    record {
      counted =
          record {
            init = few_kept c.constrain-q.ensures.1 c.learn.ensures.1 k.init;
            ring = omega arith;
            recent = c.push-recent.result.few;
          };
      drivable =
          after_drivable (view t) c.args.d.ms _ _ _ _ _ _ h R (sound_fine standard t c.args.s.held) (lasts c.args.d);
    }

pub returns-then-t-lt12 : goal.returns-then-t-lt12
returns-then-t-lt12 c =
    let t = c.args.s.tracker in
    let k = counts standard t c.args.s.held in
    let w = ring_long t _ c.well_formed.0.1.1.0.1.1 in
    let b : c.if-t.u ≡ (t.lo_uncorroborated && not c.entry-e.result.assigned_dit) =
    elim c.if-t.branch [ then-t z ↦ rw (z.u-is, z.if-t.true) | else-t z ↦ rw (z.u-is, z.if-t.false) ] in
    let h : Heard standard (view t) c.args.d.ms _ (view_pair c.learn.result)
    (view_pair c.constrain-q.result) c.entry-e.result c.if-t.u =
    record {
      was = not_left _ c.if-not-t.false;
      keeps = c.push-recent.ensures;
      learns = c.learn.ensures.0;
      binds = c.constrain-q.ensures.0;
      enters = c.entry-e.ensures;
      rests = b;
    } in
    let g = c.if-t-lt12.true in
    let R = push_room 12 t.ring t.ring_len c.entry-e.result (omega arith) (omega arith) in (
      after_is standard (view t) c.args.d.ms _ _ _ _ _ _ h R (view c.check.result)
          (view c.spoken.result) c.check.ensures.0 c.spoken.ensures.0,
      c.spoken.ensures.1,
    )

pub check-requires-then-uniform : goal.check-requires-then-uniform
check-requires-then-uniform c =
    let t = c.args.s.tracker in
    let k = counts standard t c.args.s.held in
    let w = ring_long t _ c.well_formed.0.1.1.0.1.1 in
    let b : c.if-t.u ≡ (t.lo_uncorroborated && not c.entry-e.result.assigned_dit) =
    elim c.if-t.branch [ then-t z ↦ rw (z.u-is, z.if-t.true) | else-t z ↦ rw (z.u-is, z.if-t.false) ] in
    let h : Heard standard (view t) c.args.d.ms _ (view_pair c.learn.result)
    (view_pair c.constrain-q.result) c.entry-e.result c.if-t.u =
    record {
      was = not_left _ c.if-not-t.false;
      keeps = c.push-recent.ensures;
      learns = c.learn.ensures.0;
      binds = c.constrain-q.ensures.0;
      enters = c.entry-e.ensures;
      rests = b;
    } in
    let g = k.ring in
    let R =
    push_full 12 t.ring _ t.ring_len c.entry-e.result w (omega arith) (search rules)
    (ap (λ l. set l 11 c.entry-e.result) c.rotate_left.ensures.after ∙ turned t.ring 11 c.entry-e.result w) in
    record {
      counted =
          record {
            init = few_kept c.constrain-q.ensures.1 c.learn.ensures.1 k.init;
            ring = k.ring;
            recent = c.push-recent.result.few;
          };
      drivable =
          after_drivable (view t) c.args.d.ms _ _ _ _ _ _ h R (sound_fine standard t c.args.s.held) (lasts c.args.d);
    }

pub returns-then-uniform : goal.returns-then-uniform
returns-then-uniform c =
    let t = c.args.s.tracker in
    let k = counts standard t c.args.s.held in
    let w = ring_long t _ c.well_formed.0.1.1.0.1.1 in
    let b : c.if-t.u ≡ (t.lo_uncorroborated && not c.entry-e.result.assigned_dit) =
    elim c.if-t.branch [ then-t z ↦ rw (z.u-is, z.if-t.true) | else-t z ↦ rw (z.u-is, z.if-t.false) ] in
    let h : Heard standard (view t) c.args.d.ms _ (view_pair c.learn.result)
    (view_pair c.constrain-q.result) c.entry-e.result c.if-t.u =
    record {
      was = not_left _ c.if-not-t.false;
      keeps = c.push-recent.ensures;
      learns = c.learn.ensures.0;
      binds = c.constrain-q.ensures.0;
      enters = c.entry-e.ensures;
      rests = b;
    } in
    let g = k.ring in
    let R =
    push_full 12 t.ring _ t.ring_len c.entry-e.result w (omega arith) (search rules)
    (ap (λ l. set l 11 c.entry-e.result) c.rotate_left.ensures.after ∙ turned t.ring 11 c.entry-e.result w) in (
      after_is standard (view t) c.args.d.ms _ _ _ _ _ _ h R (view c.check-then-uniform.result)
          (view c.spoken-then-uniform.result) c.check-then-uniform.ensures.0 c.spoken-then-uniform.ensures.0,
      c.spoken-then-uniform.ensures.1,
    )

pub returns : goal.returns
returns c =
    let t = c.args.s.tracker in
    let k = counts standard t c.args.s.held in
    let w = ring_long t _ c.well_formed.0.1.1.0.1.1 in
    let b : c.if-t.u ≡ (t.lo_uncorroborated && not c.entry-e.result.assigned_dit) =
    elim c.if-t.branch [ then-t z ↦ rw (z.u-is, z.if-t.true) | else-t z ↦ rw (z.u-is, z.if-t.false) ] in
    let h : Heard standard (view t) c.args.d.ms _ (view_pair c.learn.result)
    (view_pair c.constrain-q.result) c.entry-e.result c.if-t.u =
    record {
      was = not_left _ c.if-not-t.false;
      keeps = c.push-recent.ensures;
      learns = c.learn.ensures.0;
      binds = c.constrain-q.ensures.0;
      enters = c.entry-e.ensures;
      rests = b;
    } in
    let g = k.ring in
    let R =
    push_full 12 t.ring _ t.ring_len c.entry-e.result w (omega arith) (search rules)
    (ap (λ l. set l 11 c.entry-e.result) c.rotate_left.ensures.after ∙ turned t.ring 11 c.entry-e.result w) in
    let g =
    after (view t) _ (view_pair c.constrain-q.result) c.if-t.u
    (take t.ring_len (set c.rotate_left.new.self 11 c.entry-e.result)) in (
      after_is standard (view t) c.args.d.ms _ _ _ _ _ _ h R g _
          (checked_mixed standard g
          (ap uniform (take_all t.ring_len _ (omega arith)) ∙ sym c.uniform.ensures ∙ c.if-uniform.false))
          (speaks standard g _ c.averaged.result c.speed.result c.speed.ensures c.averaged.ensures refl),
      record {
        init = few_kept c.constrain-q.ensures.1 c.learn.ensures.1 k.init;
        ring = k.ring;
        recent = c.push-recent.result.few;
      },
    )
