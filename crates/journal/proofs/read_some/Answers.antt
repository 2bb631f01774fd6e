-- `journal::read_some` meets its contract. Assumes nothing.
use Rattle.std.proofs.Common.{subst, ℕ, IfOk}
use Rattle.journal.specs.Program.{Moved}
use Rattle.journal.proofs.Taking.{moves}
use Rattle.journal.proofs.read_some.Goals as goal

pub returns-clause-moves : goal.returns-clause-moves
returns-clause-moves g c =
    subst (λ (n : ℕ). IfOk c.take.result (λ more. Moved c.args.j.now n (g.I.Read.remaining c.args.from.now)
    (g.I.Read.remaining c.read-got.new.self) (g.W.Write.contents c.args.to.now) (g.W.Write.contents c.take.new.to)
    c.take.new.j more)) c.read-got.auto.buf
    (moves _ _ _ _ _ c.take.ensures.took _ _ c.read-got.ensures.bytes _ _ c.take.ensures.wrote)
