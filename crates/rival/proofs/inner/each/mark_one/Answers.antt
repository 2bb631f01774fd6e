use mathlib.Core.Path.{refl}
use Rattle.ranges.specs.Settings.{standard}
use Rattle.rival.specs.View.{view_hyp}
use Rattle.rival.proofs.Each.{mark_scored, silent_is, live_is, marked_fit}
use Rattle.rival.proofs.inner.each.mark_one.Goals as goal

pub learn_one-requires : goal.learn_one-requires
learn_one-requires c =
    marked_fit c.args.h _ _ c.requires refl refl refl refl
    (mark_scored c.args.h _ _ _ _ _ c.requires c.decayed-s.ensures c.mark_ll-l.ensures c.logs_of.ensures c.args.d.ln_is)

pub returns-then-live : goal.returns-then-live
returns-then-live c = (
  live_is standard (view_hyp c.args.h) (view_hyp c.learn_one.result) _ _ _ _ _
      (mark_scored c.args.h _ _ _ _ _ c.requires c.decayed-s.ensures c.mark_ll-l.ensures c.logs_of.ensures c.args.d.ln_is)
      c.up_one-a.ensures c.tick-q.ensures c.if-live.true c.learn_one.ensures.0,
  c.learn_one.ensures.1,
)

pub returns-else-live : goal.returns-else-live
returns-else-live c =
    let e = mark_scored c.args.h _ _ _ _ _ c.requires c.decayed-s.ensures c.mark_ll-l.ensures c.logs_of.ensures
    c.args.d.ln_is in (
      silent_is standard (view_hyp c.args.h) _ _ _ _ _ e c.up_one-a.ensures c.tick-q.ensures c.if-live.false,
      marked_fit c.args.h _ _ c.requires refl refl refl refl e,
    )
