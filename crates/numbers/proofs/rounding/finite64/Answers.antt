-- `numbers::rounding::finite64` meets its contract. Assumes nothing.
use Rattle.numbers.proofs.Plain.{top64_is, top64_number, finite_by, not_finite_by}
use Rattle.numbers.proofs.rounding.finite64.Goals as goal

pub float_from_bits-top : goal.float_from_bits-top
float_from_bits-top c = top64_number

pub returns-then-top-v : goal.returns-then-top-v
returns-then-top-v c = finite_by c.args.v _ top64_is c.if-top-v.true

pub returns-else-top-v : goal.returns-else-top-v
returns-else-top-v c = not_finite_by c.args.v _ top64_is c.if-top-v.false
