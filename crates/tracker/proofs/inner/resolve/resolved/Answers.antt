-- `tracker::inner::resolve::resolved` meets its contract. Assumes nothing.
use Rattle.ranges.proofs.Standard.{standard_good, standard_held}
use Rattle.ranges.specs.Settings.{standard}
use Rattle.std.proofs.Common.{sym, ◌∙◌, arith}
use Rattle.tracker.specs.Model.{view}
use Rattle.tracker.proofs.Keeping.{resolve_sane}
use Rattle.tracker.proofs.Rivalling.{resolves}
use Rattle.tracker.proofs.Answering.{none_when, some_when}
use Rattle.tracker.specs.Steps.{resolved}
use Rattle.pair.specs.Readings.{gaps_say_dahs}
use Rattle.tracker.proofs.Soundness.{counts, sound_fine}
use Rattle.tracker.proofs.Stored.{sane_of, still}
use Rattle.tracker.proofs.inner.resolve.resolved.Goals as goal

pub says_dahs-requires : goal.says_dahs-requires
says_dahs-requires c = (sound_fine standard c.args.t.tracker c.args.t.held).pair

pub returns-then-not-says_dahs : goal.returns-then-not-says_dahs
returns-then-not-says_dahs c =
    let m = view c.args.t.tracker in
    let gaps = c.args.gaps.at.now in
    none_when (gaps_say_dahs standard m.pair gaps) (resolved standard m gaps)
    (sym c.says_dahs.ensures ∙ c.if-not-says_dahs.true)

pub bound-requires : goal.bound-requires
bound-requires c =
    let k = counts standard c.args.t.tracker c.args.t.held in
    record { init = let e = c.turned-u.ensures.1 in let h = k.init in omega arith; ring = k.ring; recent = k.recent }

pub invariant_of-result : goal.invariant_of-result
invariant_of-result c =
    let m = view c.args.t.tracker in
    record {
      held =
          still c.timed.result _ (
            resolves standard m c.args.gaps.at.now _ _ _ (sym c.says_dahs.ensures ∙ c.if-not-says_dahs.false)
                c.turned-u.ensures.0 c.bound.ensures.0 c.timed.ensures.0,
            c.timed.ensures.1,
          )
          (resolve_sane standard standard_good standard_held m _ (sane_of c.args.t _ c.well_formed.0.1.1));
    }

pub returns : goal.returns
returns c =
    let m = view c.args.t.tracker in
    let gaps = c.args.gaps.at.now in
    let e = sym c.says_dahs.ensures ∙ c.if-not-says_dahs.false in
    some_when (gaps_say_dahs standard m.pair gaps) (resolved standard m gaps) _ e
    (resolves standard m gaps _ _ _ e c.turned-u.ensures.0 c.bound.ensures.0 c.timed.ensures.0)
