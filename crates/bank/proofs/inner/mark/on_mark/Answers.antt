use Rattle.std.proofs.Common.{true, false, sym, ◌∙◌}
use Rattle.tracker.specs.Model as Tracked
use Rattle.bank.specs.View.{view}
use Rattle.bank.proofs.Hearing.{mark_heard_by}
use Rattle.bank.proofs.inner.mark.on_mark.Goals as goal

pub returns-then-hears : goal.returns-then-hears
returns-then-hears c = c.hear_mark.ensures
    ∙ mark_heard_by (view c.args.b.bank.bank) (Tracked.view c.args.p.tracker) c.args.d.ms c.args.live true
    (sym c.hears.ensures ∙ c.if-hears.true)

pub returns : goal.returns
returns c = c.unchanged.ensures
    ∙ mark_heard_by (view c.args.b.bank.bank) (Tracked.view c.args.p.tracker) c.args.d.ms c.args.live false
    (sym c.hears.ensures ∙ c.if-hears.false)
