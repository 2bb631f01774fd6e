use mathlib.Core.Path.{refl, sym, ap, ◌∙◌}
use mathlib.Core.Bool.{true, false, not}
use Rattle.rival.proofs.Each.{twin_is, keeps, young}
use Rattle.rival.proofs.inner.each.is_kept.Goals as goal

pub returns-then-is_retained : goal.returns-then-is_retained
returns-then-is_retained c =
    keeps c.args.h _ _ c.args.score c.requires false true _ _
    (twin_is c.args.h _ _ c.args.score c.requires _ _ _ c.logs_of.ensures c.duplicates.ensures c.if-not-duplicates.true)
    (sym c.is_retained.ensures ∙ c.if-is_retained.true) refl refl _ c.if-is_retained.true

pub returns-then-score-h : goal.returns-then-score-h
returns-then-score-h c =
    keeps c.args.h _ _ c.args.score c.requires false false true _
    (twin_is c.args.h _ _ c.args.score c.requires _ _ _ c.logs_of.ensures c.duplicates.ensures c.if-not-duplicates.true)
    (sym c.is_retained.ensures ∙ c.if-is_retained.false) c.if-score-h.true refl _ (young c.args.h.age_marks)

pub returns-else-score-h : goal.returns-else-score-h
returns-else-score-h c =
    keeps c.args.h _ _ c.args.score c.requires false false false _
    (twin_is c.args.h _ _ c.args.score c.requires _ _ _ c.logs_of.ensures c.duplicates.ensures c.if-not-duplicates.true)
    (sym c.is_retained.ensures ∙ c.if-is_retained.false) c.if-score-h.false refl _ c.if-score-h.false

pub returns-else-not-duplicates : goal.returns-else-not-duplicates
returns-else-not-duplicates c =
    keeps c.args.h _ _ c.args.score c.requires true _ _ _
    (twin_is c.args.h _ _ c.args.score c.requires _ _ _ c.logs_of.ensures c.duplicates.ensures
    c.if-not-duplicates.false) refl refl refl _ (ap not c.if-not-duplicates.false)
