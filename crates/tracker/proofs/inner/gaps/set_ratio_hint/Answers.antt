-- `tracker::inner::gaps::set_ratio_hint` meets its contract. Assumes nothing.
use Rattle.ranges.proofs.Standard.{standard_good, standard_held}
use Rattle.ranges.specs.Settings.{standard}
use Rattle.std.proofs.Common.{◌≡◌, Bool, true, false, sym, Option as Given}
use lib.Ieee.{Float}
use lib.Ieee.Scale.{finite}
use Rattle.order.specs.Order.{clamp}
use Rattle.std.specs.Bool.{then_some}
use Rattle.pair.specs.Model.{held}
use Rattle.tracker.specs.Steps.{set_hint}
use Rattle.tracker.specs.Model.{Tracker, view, with_hint}
use Rattle.tracker.proofs.Keeping.{hint_sane}
use Rattle.tracker.proofs.Soundness.{counts}
use Rattle.tracker.proofs.Stored.{sane_of, still}
use Rattle.tracker.proofs.inner.gaps.set_ratio_hint.Goals as goal

hinted : (m : Tracker) (h x : Float) (b : Bool) (o : Given Float) → b ≡ finite h
    → x ≡ clamp standard.ratio_min standard.ratio_max h → o ≡ then_some b x
    → with_hint m (held o) ≡ set_hint standard m h
unfolding set_hint
hinted m h x true o B X O = rw (O, sym B, X)
hinted m h x false o B X O = rw (O, sym B)

pub invariant_of-result : goal.invariant_of-result
invariant_of-result c =
    let t = c.args.t in
    let k = counts standard t.tracker t.held in
    record {
      held =
          still _ _ (
            hinted (view t.tracker) c.args.hint _ _ _ c.is_finite32.ensures
                c.clamp.ensures.value c.then_some-u.ensures,
            record { init = k.init; ring = k.ring; recent = k.recent },
          )
          (hint_sane standard standard_good standard_held (view t.tracker) c.args.hint
          (sane_of t _ c.well_formed.0.1.1));
    }

pub returns : goal.returns
returns c =
    hinted (view c.args.t.tracker) c.args.hint _ _ _ c.is_finite32.ensures
    c.clamp.ensures.value c.then_some-u.ensures
