-- `journal_lines::inner::answer::show_one` meets its contract. Assumes nothing.
use Rattle.journal_lines.proofs.Answering.{lo_number, hi_number}
use Rattle.journal_lines.proofs.inner.answer.show_one.Goals as goal

pub float_to_bits-result : goal.float_to_bits-result
float_to_bits-result c = lo_number c.args.s.now c.requires

pub float_to_bits-result-2 : goal.float_to_bits-result-2
float_to_bits-result-2 c = hi_number c.args.s.now c.requires
