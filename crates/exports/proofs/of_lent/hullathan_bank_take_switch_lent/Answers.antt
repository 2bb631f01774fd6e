-- `exports::of_lent::hullathan_bank_take_switch_lent` meets its contract: the forms are read, the tracker of the lent one is
-- passed on to `lent::take_switch`, which says its last value, and both are put into plain numbers. Assumes nothing.
use Rattle.exports.proofs.Lending.{lent_leaves}
use Rattle.exports.proofs.of_lent.hullathan_bank_take_switch_lent.Goals as goal

pub returns : goal.returns
returns c =
    lent_leaves c.args.b _ c.read_as.ensures c.args.primary.now _ c.read_as-lent.ensures c.args.serial
    c.take_switch-answer.result _ c.take_switch-answer.ensures
    c.lent_answer.result c.lent_answer.ensures c.exchanged.result c.exchanged.ensures
