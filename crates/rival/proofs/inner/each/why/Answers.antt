use Rattle.rival.proofs.Each.{twin_is, why_twin, why_aged, why_outscored}
use mathlib.Core.Bool.{true, false}
use Rattle.rival.proofs.inner.each.why.Goals as goal

pub returns-then-duplicates : goal.returns-then-duplicates
returns-then-duplicates c =
    why_twin c.args.h _ _ c.args.best c.requires.fit c.requires.h_value
    (twin_is c.args.h _ _ c.args.best c.requires.fit _ _ true c.logs_of.ensures c.duplicates.ensures
    c.if-duplicates.true)

pub returns-then-best-h : goal.returns-then-best-h
returns-then-best-h c =
    why_aged c.args.h _ _ c.args.best c.requires.fit c.requires.h_value
    (twin_is c.args.h _ _ c.args.best c.requires.fit _ _ false c.logs_of.ensures c.duplicates.ensures
    c.if-duplicates.false) c.if-best-h.true

pub returns-else-best-h : goal.returns-else-best-h
returns-else-best-h c =
    why_outscored c.args.h _ _ c.args.best c.requires.fit c.requires.h_value
    (twin_is c.args.h _ _ c.args.best c.requires.fit _ _ false c.logs_of.ensures c.duplicates.ensures
    c.if-duplicates.false) c.if-best-h.false
