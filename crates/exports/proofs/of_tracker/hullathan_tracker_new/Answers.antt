-- `exports::of_tracker::hullathan_tracker_new` meets its contract. Assumes nothing.
use Rattle.std.proofs.Common.{ap, ◌∙◌}
use Rattle.plain_tracker.specs.Plain.{plain_tracker}
use Rattle.exports.proofs.Handing.{form_of}
use Rattle.exports.proofs.of_tracker.hullathan_tracker_new.Goals as goal

pub returns : goal.returns
returns c =
    let h = form_of c.from.result c.new.result c.from.ensures c.new.ensures.1.1 in
    (c.from.ensures ∙ ap plain_tracker c.new.ensures.0, (h.0 ∙ c.new.ensures.1.0, h.1))
