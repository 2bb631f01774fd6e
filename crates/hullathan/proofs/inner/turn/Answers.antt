-- `hullathan::inner::turn` meets its contract. Assumes nothing.
use mathlib.Core.Path.{sym, ap, subst}
use mathlib.Core.Option.{Option}
use Rattle.station_model.specs.declared.Event.{Event}
use Rattle.pair.specs.Model.{held}
use Rattle.hullathan.specs.Parts.{Turns}
use Rattle.hullathan.proofs.Asking.{turns_call, turns_none}
use Rattle.hullathan.proofs.inner.turn.Goals as goal

pub returns-in-Some : goal.returns-in-Some
returns-in-Some c =
    let s = c in
    subst (λ (q : Option Event). Turns s.args.s q c.call.result) (ap held (sym c.in-Some.is)) (turns_call s.args.s _ _ s.requires c.call.ensures)

pub returns-in-None : goal.returns-in-None
returns-in-None c =
    let s = c in
    subst (λ (q : Option Event). Turns s.args.s q c.refuse.result) (ap held (sym c.in-None.is)) (turns_none s.args.s _ _ s.requires c.formless.ensures c.refuse.ensures)
