-- `line_in::fields::after_tab` meets its contract. Assumes nothing.
use mathlib.Core.Path.{sym}
use Rattle.line_in.proofs.Parting.{handed, nothing_handed}
use Rattle.line_in.proofs.fields.after_tab.Goals as goal

pub returns-in-Some : goal.returns-in-Some
returns-in-Some c = handed _ _ (sym c.in-Some.ensures)

pub returns-in-None : goal.returns-in-None
returns-in-None c = sym (nothing_handed _ (sym c.in-None.ensures))
