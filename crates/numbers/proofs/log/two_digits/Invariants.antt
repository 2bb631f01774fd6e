-- `numbers::log::two_digits` meets its contract: `proofs/LogLaws.antt` has the invariant. Assumes nothing.
use Rattle.numbers.proofs.LogLaws.{Good}
use Rattle.numbers.proofs.log.two_digits.Given as goal

abbrev pub invariant-loop : goal.invariant-loop
invariant-loop l = Good l.y l.p.y l.p.t l.counter × Good l.z l.q.y l.q.t l.counter
