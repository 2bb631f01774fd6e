-- `exports::of_bank::hullathan_bank_new` meets its contract. Assumes nothing.
use Rattle.exports.proofs.Rivals.{started}
use Rattle.exports.proofs.of_bank.hullathan_bank_new.Goals as goal

pub returns : goal.returns
returns c = started _ _ _ _ _ _ c.code_of.ensures c.from.ensures c.new-fresh.ensures
