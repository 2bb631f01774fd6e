-- `root` of an f64 meets its contract. Assumes nothing.
use lib.Ieee.{binary64}
use Rattle.numbers.proofs.Plain.{top64_is, positive_by, passed, top_root, zero_root, no_root}
use Rattle.numbers.proofs.root.F64BinaryFloat.root.Goals as goal

pub positive_root64-requires : goal.positive_root64-requires
positive_root64-requires c = passed c.args.self (positive_by binary64 c.args.self _ top64_is c.if-self.true c.if-self-2.true)

pub returns-then-self : goal.returns-then-self
returns-then-self c = top_root binary64 c.args.self _ top64_is c.if-self.true c.if-self-2.false

pub returns-then-self-3 : goal.returns-then-self-3
returns-then-self-3 c = zero_root binary64 c.args.self c.if-self-3.true

pub returns : goal.returns
returns c = no_root binary64 c.args.self c.if-self.false c.if-self-3.false
