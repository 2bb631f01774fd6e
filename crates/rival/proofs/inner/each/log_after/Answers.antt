-- `rival::inner::each::log_after` meets its contract. Assumes nothing.
use mathlib.Core.Path.{ap, sym, ◌∙◌, subst}
use lib.Dec.{T}
use Rattle.bank_model.specs.Scores.{log_of}
use Rattle.rival.proofs.Sounding.{positive_is}
use Rattle.rival.proofs.inner.each.log_after.Goals as goal

pub returns-then-is-was : goal.returns-then-is-was
returns-then-is-was c = c.requires.ln_value
    ∙ ap log_of (sym
    (positive_is c.args.is c.args.was (subst T (sym c.well_formed.1.1.0.1) tt) (subst T (sym c.well_formed.0.1) tt)
    c.requires.t.1.0 c.requires.t.0 c.if-is-was.true))
