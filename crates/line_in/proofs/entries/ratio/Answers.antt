-- `line_in::entries::ratio` meets its contract. Assumes nothing.
use mathlib.Core.Path.{refl}
use Rattle.line_in.specs.Form.{sixty_fourths}
use Rattle.line_in.proofs.Exact.{sixty_four}
use Rattle.line_in.proofs.entries.ratio.Goals as goal

pub returns : goal.returns
unfolding sixty_fourths
returns c = rw (c.speed.ensures, sixty_four) refl
