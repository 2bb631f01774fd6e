-- `order::negative32` meets its contract. Assumes nothing.
use Rattle.std.proofs.Common.{sym, ap, ◌∙◌, not}
use Rattle.order.proofs.Laws.{sign_law, no_sign}
use Rattle.order.proofs.negative32.Goals as goal

pub returns-then-not-is_nan : goal.returns-then-not-is_nan
returns-then-not-is_nan c = c.is_sign_negative.ensures ∙ sign_law _

pub returns-else-not-is_nan : goal.returns-else-not-is_nan
returns-else-not-is_nan c =
    ap not c.if-not-is_nan.false ∙ no_sign _ (sym c.is_nan.ensures.value ∙ c.if-not-is_nan.false)
