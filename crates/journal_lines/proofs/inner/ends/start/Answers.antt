-- `journal_lines::inner::ends::start` meets its contract. Assumes nothing.
use Rattle.journal_lines.proofs.Running.{promises}
use Rattle.journal_lines.proofs.inner.ends.start.Goals as goal

pub returns-clause-promises : goal.returns-clause-promises
returns-clause-promises c = promises _ (rw c.new.ensures)
