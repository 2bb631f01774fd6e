-- `numbers::root::near_pattern` meets its contract. Assumes nothing.
use Rattle.std.proofs.Common.{le-ltb, lt-ltb, le-leb}
use borrow.Author.Tests.{lt-leb}
use lib.Ieee.{binary64}
use Rattle.numbers.proofs.Plain.{above_number}
use Rattle.numbers.proofs.root.near_pattern.Goals as goal

pub float_to_bits-b : goal.float_to_bits-b
float_to_bits-b c = above_number binary64 c.args.r c.if-r.true

pub returns-then-b-lt5179139571476070400 : goal.returns-then-b-lt5179139571476070400
returns-then-b-lt5179139571476070400 c = rw (c.if-r.true, le-leb _ _ c.if-b-ge4039728865751334912.true, lt-ltb _ _ c.if-b-lt5179139571476070400.true)

pub returns-else-b-lt5179139571476070400 : goal.returns-else-b-lt5179139571476070400
returns-else-b-lt5179139571476070400 c = rw (c.if-r.true, le-leb _ _ c.if-b-ge4039728865751334912.true, le-ltb _ _ c.if-b-lt5179139571476070400.false)

pub returns-else-b-ge4039728865751334912 : goal.returns-else-b-ge4039728865751334912
returns-else-b-ge4039728865751334912 c = rw (c.if-r.true, lt-leb _ _ c.if-b-ge4039728865751334912.false)

pub returns-else-r : goal.returns-else-r
returns-else-r c = rw c.if-r.false
