-- `journal::take` meets its contract. Assumes nothing.
use Rattle.std.proofs.Common.{rules}
use Rattle.journal.proofs.Taking.{nothing}
use Rattle.journal.proofs.take.Goals as goal

pub returns-then-n-eq0-clause-wrote : goal.returns-then-n-eq0-clause-wrote
returns-then-n-eq0-clause-wrote g c =
    nothing _ c.args.j.now c.args.got c.args.buffer.now c.in_ok-n.n (search rules) c.if-n-eq0.true
