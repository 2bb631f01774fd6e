-- `hullathan::layout::bytes` meets its contract. Assumes nothing.
use mathlib.Core.Path.{◌∙◌}
use Rattle.hullathan.proofs.Placing.{bytes_ending}
use Rattle.hullathan.proofs.layout.bytes.Goals as goal

pub returns : goal.returns
returns g c = c.ending.ensures ∙ bytes_ending _ _ c.requires.some
