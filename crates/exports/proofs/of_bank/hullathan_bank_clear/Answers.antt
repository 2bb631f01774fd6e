-- `exports::of_bank::hullathan_bank_clear` meets its contract. Assumes nothing.
use mathlib.Core.Path.{ap}
use Rattle.bank_model.specs.Steps.{clear}
use Rattle.bank.specs.declared.TimingBank.{TimingBank}
use Rattle.bank.specs.View.{view}
use Rattle.bank.specs.Answers.{count_then}
use Rattle.exports.proofs.Rivals.{answered_by, bank_known, bank_read}
use Rattle.exports.proofs.of_bank.hullathan_bank_clear.Goals as goal

pub returns : goal.returns
returns c =
    let b = c.args.b in
    let k = λ (z : TimingBank). count_then z 0 in
    let R = c.read_as-c.ensures in
    answered_by _ _ (bank_read b _ R k) b _ _ _ _ (λ z. ap (λ (x : TimingBank). clear (view x)) (bank_known b _ R k z)) _ _
    c.clear-said.ensures c.answered.ensures
