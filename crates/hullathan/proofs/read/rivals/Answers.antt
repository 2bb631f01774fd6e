-- `hullathan::read::rivals` meets its contract. Assumes nothing.
use mathlib.Core.Path.{ap, ◌∙◌}
use Rattle.plain_tracker.specs.Plain.{carried}
use Rattle.hullathan.specs.declared.PlainRival.{PlainRival}
use Rattle.hullathan.proofs.Rows.{rival_in, rivals_shown}
use Rattle.hullathan.proofs.read.rivals.Goals as goal

pub returns : goal.returns
returns c =
    let a = c.args.s.bank in
    c.carried.ensures
    ∙ ap (λ (z : PlainRival). carried rival_in z a.challengers_len a.challengers) c.no_rival.ensures
    ∙ rivals_shown _ _ c.requires.bank.crew.long
