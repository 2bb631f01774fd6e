-- `numbers::root::leading_root` meets its contract. Assumes nothing.
use Rattle.std.proofs.Common.{rules}
use Rattle.numbers.proofs.root.leading_root.Goals as goal

pub returns : goal.returns
returns c = record { split = c.rest_of-rest.ensures.split c.if-rest.false; rests = c.rest_of-rest.ensures.rests c.if-rest.false; small = search rules }
