-- `tracker::inner::begin::begun` meets its contract. Assumes nothing.
use Rattle.ranges.proofs.Standard.{standard_good, standard_held}
use Rattle.ranges.specs.Settings.{standard}
use Rattle.marks.proofs.Shifting.{unmapped}
use Rattle.std.proofs.Common.{◌≡◌, length, rules, arith, length-take}
use Rattle.tracker.specs.Model.{view}
use Rattle.tracker.proofs.Keeping.{begin_sane}
use Rattle.tracker.proofs.Answering.{some_when}
use Rattle.tracker.proofs.Relocking.{begins, begin_can}
use Rattle.tracker.specs.Steps.{can_begin, bootstrapped}
use Rattle.tracker.proofs.Stored.{sane_of, still}
use Rattle.tracker.proofs.Soundness.{counts, sound_fine}
use Rattle.pair.proofs.Soundness.{pair_init}
use Rattle.tracker.proofs.inner.begin.begun.Goals as goal

pub shared_ref_as_front-initialize : goal.shared_ref_as_front-initialize
shared_ref_as_front-initialize c = (counts standard c.args.t.tracker c.args.t.held).init

pub invariant_of-initialize : goal.invariant_of-initialize
invariant_of-initialize c =
    let t = c.args.t in
    let n = (counts standard t.tracker t.held).init in
    record {
      held = pair_init standard (view t.tracker).pair (sound_fine standard t.tracker t.held).pair;
      few = simp length-take (omega arith);
    }

pub initialize-u-requires : goal.initialize-u-requires
initialize-u-requires c =
    let t = c.args.t.tracker in
    let n = (counts standard t c.args.t.held).init in
    let l : length t.pair.init ≡ 12 = search (unmapped, rules) in
    simp length-take (omega arith)

pub bound-requires : goal.bound-requires
bound-requires c =
    let k = counts standard c.args.t.tracker c.args.t.held in
    record { init = let e = c.initialize-u.ensures.1 in omega arith; ring = k.ring; recent = k.recent }

pub invariant_of-result : goal.invariant_of-result
invariant_of-result c =
    let t = c.args.t.tracker in
    let m = view t in
    let n = (counts standard t c.args.t.held).init in
    let l : length t.pair.init ≡ 12 = search (unmapped, rules) in
    record {
      held =
          still c.timed.result _ (
            begins standard m _ _ _ (begin_can t c.if-t.false (simp length-take (omega arith))) c.initialize-u.ensures.0
                c.bound.ensures.0 c.timed.ensures.0,
            c.timed.ensures.1,
          )
          (begin_sane standard standard_good standard_held m (sane_of c.args.t _ c.well_formed.0.1.1));
    }

pub returns : goal.returns
returns c =
    let t = c.args.t.tracker in
    let m = view t in
    let n = (counts standard t c.args.t.held).init in
    let l : length t.pair.init ≡ 12 = search (unmapped, rules) in
    let e = begin_can t c.if-t.false (simp length-take (omega arith)) in
    some_when (can_begin m) (bootstrapped standard m) _ e
    (begins standard m _ _ _ e c.initialize-u.ensures.0 c.bound.ensures.0 c.timed.ensures.0)
