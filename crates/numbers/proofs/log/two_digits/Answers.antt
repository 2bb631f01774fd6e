-- `numbers::log::two_digits` meets its contract: `proofs/LogLaws.antt` has the invariant. Assumes nothing.
use Rattle.std.proofs.Common.{arith}
use Rattle.numbers.proofs.LogLaws.{fits, again, ended}
use Rattle.numbers.proofs.log.two_digits.Goals as goal

pub one_digit-p-requires : goal.one_digit-p-requires
one_digit-p-requires c = let g = c.loop.invariant.0 in (g.low, g.high, fits g)

pub one_digit-q-requires : goal.one_digit-q-requires
one_digit-q-requires c = let g = c.loop.invariant.1 in (g.low, g.high, fits g)

pub loop-preserved : goal.loop-preserved
loop-preserved c =
    let p = c.one_digit-p.ensures in
    let q = c.one_digit-q.ensures in
    let i = c.before.before.loop.invariant in
    (again i.0 (omega arith) p.0 p.1, again i.1 (omega arith) q.0 q.1)

pub returns : goal.returns
returns c = let i = c.loop.invariant in (ended i.0 (omega arith), ended i.1 (omega arith))
