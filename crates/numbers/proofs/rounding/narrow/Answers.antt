-- `numbers::rounding::narrow` meets its contract. Assumes nothing.
use Rattle.std.proofs.Common.{T, sym, ◌∙◌, subst, pow_pos}
use Rattle.numbers.proofs.Reading.{narrow_value, narrow_nan, narrow_below, narrow_over}
use Rattle.numbers.proofs.rounding.narrow.Goals as goal

pub take_apart-p-requires : goal.take_apart-p-requires
take_apart-p-requires c = subst T (sym c.if-finite64.true ∙ c.finite64.ensures) tt

pub returns-then-finite64 : goal.returns-then-finite64
returns-then-finite64 c = c.nearest32.ensures ∙ narrow_value _ _ _ _ (pow_pos 1074) c.take_apart-p.ensures.value

pub returns-then-v : goal.returns-then-v
returns-then-v c = narrow_nan c.args.v c.if-v.true

pub returns-then-v-2 : goal.returns-then-v-2
returns-then-v-2 c =
    narrow_below c.args.v (sym c.finite64.ensures
    ∙ c.if-finite64.false) c.if-v.false c.if-v-2.true

pub returns-else-v-2 : goal.returns-else-v-2
returns-else-v-2 c =
    narrow_over c.args.v (sym c.finite64.ensures
    ∙ c.if-finite64.false) c.if-v.false c.if-v-2.false
