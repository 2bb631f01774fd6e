-- `exports::inner::hullathan_inner_bank_on_gap` hands on what the call says. Assumes nothing.
use Rattle.std.proofs.Common.{◌∙◌}
use Rattle.exports.proofs.Banking.{held, neat, view_as}
use Rattle.exports.proofs.inner.hullathan_inner_bank_on_gap.Goals as goal

pub returns : goal.returns
returns c =
    let g = c.on_gap.result in (
      view_as g.bank c.from.ensures ∙ rw (c.bank_from.ensures, c.tracker_of.ensures) at c.on_gap.ensures,
      (held g.bank c.from.ensures g.sturdy, neat g.bank c.from.ensures),
    )
