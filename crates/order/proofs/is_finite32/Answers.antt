-- `order::is_finite32` meets its contract. Assumes nothing.
use Rattle.order.proofs.Forms.{top32_is, top32_number, finite_by, not_finite_by}
use Rattle.order.proofs.is_finite32.Goals as goal

pub float_from_bits-top : goal.float_from_bits-top
float_from_bits-top c = top32_number

pub returns-then-top-v : goal.returns-then-top-v
returns-then-top-v c = finite_by c.args.v _ top32_is c.if-top-v.true

pub returns-else-top-v : goal.returns-else-top-v
returns-else-top-v c = not_finite_by c.args.v _ top32_is c.if-top-v.false
