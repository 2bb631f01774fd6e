-- `hullathan::read::read_of` meets its contract. Assumes nothing.
use mathlib.Core.Path.{ap, ◌∙◌}
use lib.Ieee.{of_bits}
use Rattle.plain_tracker.specs.Plain.{as_number}
use Rattle.hullathan.proofs.Reading.{byte, reading_is}
use Rattle.hullathan.proofs.read.read_of.Goals as goal

pub returns : goal.returns
unfolding of_bits
returns c =
    reading_is c.args.s _ _ _ _ _ _ _ c.requires (c.from.ensures ∙ byte _)
    (c.from-2.ensures ∙ byte _ ∙ ap as_number c.is_some.ensures) (c.from-3.ensures ∙ byte _)
    c.dit_estimate.ensures c.unwrap_or.ensures c.rivals.ensures c.plain_log.ensures
