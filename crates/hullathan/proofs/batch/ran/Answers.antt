-- `hullathan::batch::ran` meets its contract. Assumes nothing.
use mathlib.Core.Path.{sym, ◌∙◌}
use Rattle.hullathan.proofs.Forms.{good_is}
use Rattle.hullathan.proofs.Running.{runs_good, runs_not, not_sound, not_few}
use Rattle.hullathan.proofs.batch.ran.Goals as goal

pub returns-then-is_good : goal.returns-then-is_good
returns-then-is_good c =
    let f = c.station_from-s.ensures in
    let h = sym (good_is c.args.p _ _ c.is_good.ensures.0 f) ∙ c.if-is_good.true in
    runs_good _ _ _ _ _ c.if-b-le64.true h f c.run_on.ensures c.or_kept.ensures

pub returns-else-is_good : goal.returns-else-is_good
returns-else-is_good c =
    let a = c.args in
    let h = sym (good_is c.args.p _ _ c.is_good.ensures.0 c.station_from-s.ensures) ∙ c.if-is_good.false in
    runs_not a.p a.b (not_sound a.p a.b h)

pub returns-else-b-le64 : goal.returns-else-b-le64
returns-else-b-le64 c = let a = c.args in runs_not a.p a.b (not_few a.p a.b c.if-b-le64.false)
