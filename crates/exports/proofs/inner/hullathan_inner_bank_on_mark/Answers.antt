-- `exports::inner::hullathan_inner_bank_on_mark` hands on what the call says. Assumes nothing.
use Rattle.exports.proofs.Banking.{changed_is, held, left_blank, neat}
use Rattle.exports.proofs.inner.hullathan_inner_bank_on_mark.Goals as goal

pub returns : goal.returns
returns c =
    let m = c.on_mark-m.result in (
      (
        changed_is m c.from.ensures c.plain_departures.ensures
            (rw (c.bank_from.ensures, c.tracker_of.ensures) at c.on_mark-m.ensures),
        left_blank _ _ c.plain_departures.ensures,
      ),
      (held m.bank.bank c.from.ensures m.bank.sturdy, neat m.bank.bank c.from.ensures),
    )
