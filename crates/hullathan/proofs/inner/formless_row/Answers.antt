-- `hullathan::inner::formless_row` meets its contract. Assumes nothing.
use mathlib.Core.Path.{ap, ◌∙◌}
use Rattle.hullathan.specs.Host.{row_of}
use Rattle.hullathan.proofs.Asking.{turns_none}
use Rattle.hullathan.proofs.inner.formless_row.Goals as goal

pub returns : goal.returns
returns c = c.row.ensures ∙ ap row_of (turns_none _ _ c.refuse.result c.requires c.formless.ensures c.refuse.ensures).is
