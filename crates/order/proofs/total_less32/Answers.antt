-- `order::total_less32` meets its contract. Assumes nothing.
use Rattle.std.proofs.Common.{not, sym, ap, ◌∙◌}
use Rattle.order.proofs.Laws.{total_law, total_nan, total_over}
use Rattle.order.proofs.total_less32.Goals as goal

pub returns-then-is_nan : goal.returns-then-is_nan
returns-then-is_nan c =
    c.if-is_nan.true
    ∙ total_over _ _ (sym c.is_nan.ensures.value ∙ c.if-not-is_nan.true)
    (sym c.is_nan-then-not-is_nan.ensures.value ∙ c.if-is_nan.true)

pub returns-else-is_nan : goal.returns-else-is_nan
returns-else-is_nan c =
    rw c.total_cmp.ensures at c.eq.ensures
    ∙ total_law _ _ (sym c.is_nan.ensures.value ∙ c.if-not-is_nan.true)
    (sym c.is_nan-then-not-is_nan.ensures.value ∙ c.if-is_nan.false)

pub returns-else-not-is_nan : goal.returns-else-not-is_nan
returns-else-not-is_nan c =
    ap not c.if-not-is_nan.false ∙ total_nan _ c.args.b (sym c.is_nan.ensures.value ∙ c.if-not-is_nan.false)
