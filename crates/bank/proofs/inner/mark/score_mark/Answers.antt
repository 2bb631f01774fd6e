use Rattle.std.proofs.Common.{◌∙◌}
use Rattle.tracker.specs.Model as Tracked
use Rattle.bank.proofs.Hearing.{silent_told, live_told}
use Rattle.bank.proofs.inner.mark.score_mark.Goals as goal

pub returns-then-live : goal.returns-then-live
returns-then-live c = rw c.held_gap.ensures at c.step_streak.ensures
    ∙ live_told c.args.b.bank.bank c.score_all-c.result.bank (Tracked.view c.args.p) c.args.l c.args.d.ms c.args.live
    c.score_all-c.ensures c.requires _ c.if-live.true c.is_high.ensures

pub returns : goal.returns
returns c = c.unchanged.ensures
    ∙ silent_told c.args.b.bank.bank c.score_all-c.result.bank (Tracked.view c.args.p) c.args.l c.args.d.ms c.args.live
    c.score_all-c.ensures c.requires c.if-live.false
