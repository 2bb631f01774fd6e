use Rattle.tracker.specs.Model as Tracked
use Rattle.bank_model.proofs.Ready.{dit_log, dah_log}
use Rattle.bank.proofs.Hearing.{few_marked}
use Rattle.bank.proofs.inner.mark.hear_mark.Goals as goal

pub centroid_logs-l-requires : goal.centroid_logs-l-requires
centroid_logs-l-requires c =
    let p = c.args.p in (dit_log p.tracker p.held c.requires, dah_log p.tracker p.held c.requires)

pub prune-requires : goal.prune-requires
prune-requires c =
    few_marked c.args.b.bank.bank c.args.b.bank.sturdy (Tracked.view c.args.p.tracker) _ c.args.d.ms c.args.live _
    c.centroid_logs-l.ensures c.score_mark-t.ensures
