-- `tracker::inner::rivals::three_to_one_alternative` meets its contract. Assumes nothing.
use Rattle.ranges.proofs.Standard.{standard_good, standard_held}
use Rattle.ranges.specs.Settings.{standard}
use Rattle.std.proofs.Common.{◌≡◌, Bool, true, false, cond, Some, None, refl, sym, ap, ◌∙◌}
use Rattle.std.proofs.lemmas.Option.{cond_some, none-some}
use Rattle.tracker.specs.Model.{view}
use Rattle.tracker.specs.Parts.{other}
use Rattle.pair.specs.Model.{Pair, view_pair}
use Rattle.pair.specs.Readings.{has_other, other_pair}
use Rattle.tracker.proofs.Keeping.{other_up}
use Rattle.tracker.proofs.Rivalling.{other_is, other_not, reads_other}
use Rattle.pair.proofs.Reading.{other_ready}
use Rattle.tracker.proofs.Stored.{sane_of, still}
use Rattle.tracker.proofs.inner.rivals.three_to_one_alternative.Goals as goal

said : (p q : Pair) → cond (has_other standard p) (Some (other_pair p)) None ≡ Some q
    → (has_other standard p ≡ true) × (other_pair p ≡ q)
said p q e = cond_some (has_other standard p) (other_pair p) q e

unsaid : (b : Bool) (q : Pair) → None ≡ cond b (Some q) None → b ≡ false
unsaid true q e = absurd (none-some q e)
unsaid false q e = refl

pub returns-in_err-pair : goal.returns-in_err-pair
returns-in_err-pair c =
    let m = view c.args.t.tracker in
    ap other c.from_residual.ensures
    ∙ other_not standard m (unsaid (has_other standard m.pair) (other_pair m.pair) c.in_err-pair.ensures.is)

pub invariant_of-result : goal.invariant_of-result
invariant_of-result c =
    let t = c.args.t in
    let m = view t.tracker in
    let h = said m.pair (view_pair c.in_ok-pair.pair) (sym c.in_ok-pair.ensures.is) in
    record {
      held =
          still c.timed.result _ (
            reads_other standard m _ _ _ _ c.fresh.ensures.1 (sym h.1) c.bound.ensures.0
                c.timed.ensures.0,
            c.timed.ensures.1,
          )
          (other_up standard standard_good standard_held m
          (record {
            sane = sane_of t _ c.well_formed.0.1.1;
            ready = other_ready m.pair h.0;
          })).sane;
    }

pub returns : goal.returns
returns c =
    let m = view c.args.t.tracker in
    let h = said m.pair (view_pair c.in_ok-pair.pair) (sym c.in_ok-pair.ensures.is) in
    other_is standard m _ h.0
    (reads_other standard m _ _ _ _ c.fresh.ensures.1 (sym h.1) c.bound.ensures.0 c.timed.ensures.0)
