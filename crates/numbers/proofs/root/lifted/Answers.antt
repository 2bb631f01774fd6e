-- `numbers::root::lifted` meets its contract. Assumes nothing.
use Rattle.numbers.proofs.Estimates.{lifted_long, lifted_below, lifted_done}
use Rattle.numbers.proofs.root.lifted.Goals as goal

pub returns-then-x-ge34359738368 : goal.returns-then-x-ge34359738368
returns-then-x-ge34359738368 c = lifted_long c.args.x c.args.y c.if-x-ge34359738368.true

pub returns-then-x-y : goal.returns-then-x-y
returns-then-x-y c = let s = c.before.before in lifted_below s.args.x s.args.y c.if-x-ge34359738368.false c.if-x-y.true

pub returns : goal.returns
returns c = let s = c.before.before in lifted_done s.args.x s.args.y c.if-x-ge34359738368.false c.if-x-y.false
