-- `exports::inner::hullathan_inner_bank_take_switch` hands on what the call says. Assumes nothing.
use Rattle.std.proofs.Common.{◌∙◌}
use Rattle.exports.proofs.Banking.{held, neat, taken_is}
use Rattle.exports.proofs.Handing.{form_neat, form_of}
use Rattle.exports.proofs.inner.hullathan_inner_bank_take_switch.Goals as goal

pub returns : goal.returns
returns c =
    let t = c.take_switch-t.result in (
      taken_is t c.from.ensures c.from-2.ensures
          ∙ rw (c.bank_from.ensures, c.tracker_of.ensures) at c.take_switch-t.ensures.is,
      (
        held t.bank.bank c.from.ensures t.bank.sturdy,
        neat t.bank.bank c.from.ensures,
        (form_of c.from-2.result t.primary.tracker c.from-2.ensures t.primary.held).1,
        form_neat c.from-2.result t.primary.tracker c.from-2.ensures,
      ),
    )
