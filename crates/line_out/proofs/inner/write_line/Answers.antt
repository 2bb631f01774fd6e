-- `line_out::inner::write_line` meets its contract. Assumes nothing.
use Rattle.std.proofs.Common.{ap, arith, length}
use Rattle.line_out.proofs.Lining.{line_of_call}
use Rattle.line_out.proofs.inner.write_line.Goals as goal

pub returns-clause-of_a_call : goal.returns-clause-of_a_call
returns-clause-of_a_call c = λ k e.
    omega (arith, ap length c.as_slice-len.ensures, ap length c.line_of-line.ensures.value, line_of_call c.args.s k e)
