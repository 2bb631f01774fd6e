-- `line_out::inner::put_word` meets its contract: the digits above the place i are written. Assumes nothing.
use Rattle.line_out.specs.Bytes.{contents}
use Rattle.line_out.proofs.Digits.{Above}
use Rattle.line_out.proofs.inner.put_word.Given as goal

abbrev pub invariant-loop-i : goal.invariant-loop-i
invariant-loop-i l = Above (contents l.initial.line) (contents l.line) l.v l.i
