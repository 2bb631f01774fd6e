-- `exports::inner::hullathan_inner_tracker_on_mark` hands on what the call says. Assumes nothing.
use Rattle.std.proofs.Common.{◌∙◌}
use Rattle.exports.proofs.Handing.{form_neat, form_of}
use Rattle.exports.proofs.inner.hullathan_inner_tracker_on_mark.Goals as goal

pub returns : goal.returns
returns c =
    let r = c.on_mark.result in
    let h = form_of c.from.result r.tracker c.from.ensures r.held in (
      h.0 ∙ rw c.tracker_of.ensures at c.on_mark.ensures,
      (h.1, form_neat c.from.result r.tracker c.from.ensures),
    )
