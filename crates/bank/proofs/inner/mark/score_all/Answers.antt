use Rattle.tracker.specs.Model as Tracked
use Rattle.bank.proofs.Hearing.{heard_sturdy, primary_mark}
use Rattle.bank.proofs.inner.mark.score_all.Goals as goal

pub invariant_of-result : goal.invariant_of-result
invariant_of-result c =
    let e = primary_mark (Tracked.view c.args.p) _ _ _ _ _ c.of-m.result c.args.b.bank.sturdy.score c.decayed-s.ensures
    c.mark_ll.ensures c.of-m.ensures c.requires in
    record { sturdy = heard_sturdy _ c.mark_all.result.sturdy _ _ _ _ _ e.1 c.mark_all.result.sturdy.score_gap tt }
