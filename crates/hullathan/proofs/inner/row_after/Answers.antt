-- `hullathan::inner::row_after` meets its contract. Assumes nothing.
use borrow.Author.Rules.{rules}
use Rattle.hullathan.proofs.Rows.{row_made}
use Rattle.hullathan.proofs.inner.row_after.Goals as goal

pub returns : goal.returns
returns c = row_made _ _ _ _ c.code_number.ensures c.plain_departures.ensures (search rules)
