-- `ranges::within` meets its contract. Assumes nothing.
use lib.Ieee.{le}
use Rattle.ranges.proofs.Compare.{and_taken, and_left}
use Rattle.ranges.proofs.within.Goals as goal

pub returns-then-lo-x : goal.returns-then-lo-x
returns-then-lo-x c = let a = c.args in and_taken (le a.lo a.x) (le a.x a.hi) c.if-lo-x.true

pub returns-else-lo-x : goal.returns-else-lo-x
returns-else-lo-x c = let a = c.args in and_left (le a.lo a.x) (le a.x a.hi) c.if-lo-x.false
