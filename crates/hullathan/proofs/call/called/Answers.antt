-- `hullathan::call::called` meets its contract. Assumes nothing.
use mathlib.Core.Path.{sym, ◌∙◌}
use Rattle.hullathan.proofs.Calling.{answers_on}
use Rattle.hullathan.proofs.Forms.{good_is}
use Rattle.hullathan.proofs.call.called.Goals as goal

pub returns-then-is_good : goal.returns-then-is_good
returns-then-is_good c =
    let f = c.station_from-s.ensures in
    let h = sym (good_is c.args.p _ _ c.is_good.ensures.0 f) ∙ c.if-is_good.true in
    answers_on _ _ _ _ _ h f c.event_of.ensures c.heard.ensures
