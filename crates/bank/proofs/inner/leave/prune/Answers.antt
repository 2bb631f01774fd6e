use Rattle.std.proofs.Common.{sym, refl, ◌∙◌}
use Rattle.bank_model.specs.Steps.{pruned_at}
use Rattle.bank.proofs.Leaving.{
  sift_begins,
  sift_member,
  sift_many,
  keeps_here,
  room_here,
  drops_here,
  sift_told,
  sift_sturdy,
}
use Rattle.bank.proofs.inner.leave.prune.Goals as goal

pub loop-i-init : goal.loop-i-init
unfolding pruned_at
loop-i-init c = let s = c.args.t.bank.sturdy in sift_begins _ _ _ _ _ _ c.args.t.gone (sift_many _ s) s refl c.requires

pub is_kept-requires : goal.is_kept-requires
is_kept-requires c = sift_member _ _ _ _ _ _ _ _ _ _ _ _ c.loop-i.invariant c.loop-i-test.true

pub gone-d-requires : goal.gone-d-requires
gone-d-requires c =
    record {
      fit = sift_member _ _ _ _ _ _ _ _ _ _ _ _ c.loop-i.invariant c.loop-i-test.true;
      h_value =
          sym c.is_kept.ensures ∙ c.if-not-is_kept.true;
    }

pub push-requires : goal.push-requires
push-requires c =
    room_here _ _ _ _ _ _ _ _ _ _ _ c.loop-i.invariant c.loop-i-test.true (sym c.is_kept.ensures
    ∙ c.if-not-is_kept.true)

pub loop-i-preserved-then-not-is_kept : goal.loop-i-preserved-then-not-is_kept
loop-i-preserved-then-not-is_kept c =
    drops_here _ _ _ _ _ _ _ _ _ _ _ c.loop-i.invariant c.loop-i-test.true c.gone-d.result _ c.gone-d.ensures
    c.push.ensures

pub lead_one-e-requires : goal.lead_one-e-requires
lead_one-e-requires c = sift_member _ _ _ _ _ _ _ _ _ _ _ _ c.loop-i.invariant c.loop-i-test.true

pub loop-i-preserved : goal.loop-i-preserved
loop-i-preserved c =
    keeps_here _ _ _ _ _ _ _ _ _ _ _ c.loop-i.invariant c.loop-i-test.true _ c.lead_one-e.ensures (sym c.is_kept.ensures
    ∙ c.if-not-is_kept.false) _ c.better-best.ensures

pub invariant_of-result : goal.invariant_of-result
invariant_of-result c =
    record { sturdy = sift_sturdy _ _ _ _ _ _ _ _ _ _ c.loop-i.invariant c.loop-i-test.false _ c.place_of-c.ensures }

pub returns : goal.returns
returns c = sift_told _ _ _ _ _ _ _ _ _ _ c.loop-i.invariant c.loop-i-test.false _ c.place_of-c.ensures
