use Rattle.std.proofs.Common.{◌∙◌, le-leb}
use borrow.Author.Tests.{lt-leb}
use mathlib.Core.Option.{some}
use Rattle.tracker.specs.Model as Tracked
use Rattle.bank_model.proofs.Ready.{centroid_logs}
use Rattle.bank.specs.View.{view}
use Rattle.bank.proofs.Reading.{other_ready, ready_off, ready_on, ready_none}
use Rattle.bank.proofs.inner.ready.on_ready.Goals as goal

pub returns-then-b-lt2 : goal.returns-then-b-lt2
returns-then-b-lt2 c = c.unchanged.ensures
    ∙ ready_off (view c.args.b.bank) (Tracked.view c.args.p.tracker) _ (lt-leb 2 c.args.b.bank.width c.if-b-lt2.true)

pub centroid_logs-l-requires : goal.centroid_logs-l-requires
centroid_logs-l-requires c = centroid_logs c.args.p.tracker c.args.p.held

pub spawn-requires : goal.spawn-requires
spawn-requires c = other_ready (Tracked.view c.args.p.tracker) _ c.in-Some.t.tracker c.in-Some.ensures

pub returns-in-Some : goal.returns-in-Some
returns-in-Some c = c.spawn.ensures
    ∙ ready_on (view c.args.b.bank) (Tracked.view c.args.p.tracker) _ _ (some (Tracked.view c.in-Some.t.tracker))
    (le-leb 2 c.args.b.bank.width c.if-b-lt2.false) c.centroid_logs-l.ensures c.in-Some.ensures

pub returns-in-None : goal.returns-in-None
returns-in-None c = c.unchanged-in-None.ensures
    ∙ ready_none (view c.args.b.bank) (Tracked.view c.args.p.tracker) _ (le-leb 2 c.args.b.bank.width c.if-b-lt2.false)
    c.in-None.ensures
