-- `line_in::fields::field_len` meets its contract. Assumes nothing.
use Rattle.line_in.proofs.Parting.{searched}
use Rattle.line_in.proofs.fields.field_len.Goals as goal

pub returns : goal.returns
returns c = rw (c.unwrap_or.ensures, c.tab.ensures) (searched _)
