use Rattle.std.proofs.Common.{◌∙◌}
use mathlib.Core.Option.{some, none}
use Rattle.tracker.specs.Model as Tracked
use Rattle.bank.specs.View.{before, view}
use Rattle.bank.proofs.Streaking.{short_yes, short_no, candidate_ready, short_told, long_told}
use Rattle.bank.proofs.inner.streak.step_streak.Goals as goal

pub returns-then-c-lt4 : goal.returns-then-c-lt4
returns-then-c-lt4 c = c.unchanged.ensures
    ∙ short_told c.args.b.bank c.grow-c.result.bank c.args.p.lo c.args.p.hi c.args.side c.args.d.ms (before c.args.gap)
    c.grow-c.ensures (short_yes _ c.grow-c.result.sturdy c.if-c-lt4.true)

pub spawn-requires : goal.spawn-requires
spawn-requires c =
    candidate_ready c.args.p.lo c.args.p.hi (view c.grow-c.result.bank).evidence c.in-Some.found.tracker c.in-Some.ensures

pub returns-in-Some : goal.returns-in-Some
returns-in-Some c = c.spawn.ensures
    ∙ long_told c.args.b.bank c.grow-c.result.bank c.args.p.lo c.args.p.hi c.args.side c.args.d.ms (before c.args.gap)
    c.grow-c.ensures c.empty-e.result.bank (some (Tracked.view c.in-Some.found.tracker))
    (short_no _ c.grow-c.result.sturdy c.if-c-lt4.false) c.empty-e.ensures c.in-Some.ensures

pub returns-in-None : goal.returns-in-None
returns-in-None c = c.unchanged-in-None.ensures
    ∙ long_told c.args.b.bank c.grow-c.result.bank c.args.p.lo c.args.p.hi c.args.side c.args.d.ms (before c.args.gap)
    c.grow-c.ensures c.empty-e.result.bank none (short_no _ c.grow-c.result.sturdy c.if-c-lt4.false) c.empty-e.ensures
    c.in-None.ensures
