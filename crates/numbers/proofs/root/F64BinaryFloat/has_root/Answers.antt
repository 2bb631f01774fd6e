-- `has_root` of an f64 meets its contract. Assumes nothing.
use lib.Ieee.{binary64}
use Rattle.numbers.proofs.Library.{has_root_law}
use Rattle.numbers.proofs.root.F64BinaryFloat.has_root.Goals as goal

pub returns-then-self : goal.returns-then-self
returns-then-self c = rw (← has_root_law binary64, c.if-self.true)

pub returns-else-self : goal.returns-else-self
returns-else-self c = rw (← has_root_law binary64, c.if-self.false)
