-- `exports::of_bank::read_as` meets its contract. Assumes nothing.
use mathlib.Core.Path.{refl}
use Rattle.exports.proofs.Rivals.{read_none}
use Rattle.exports.proofs.of_bank.read_as.Goals as goal

pub returns-in-Err : goal.returns-in-Err
returns-in-Err c = read_none _ _ c.in-Err.ensures.0 refl
