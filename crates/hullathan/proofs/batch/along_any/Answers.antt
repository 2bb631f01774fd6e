-- `hullathan::batch::along_any` meets its contract. Assumes nothing.
use borrow.Author.Rules.{rules}
use Rattle.marks.proofs.Shifting.{unmapped}
use Rattle.hullathan.proofs.Running.{run_begins, run_turns, run_ends}
use Rattle.hullathan.proofs.batch.along_any.Goals as goal

pub loop-i-init : goal.loop-i-init
loop-i-init c = run_begins _ _ c.requires.0 c.requires.1 (search (unmapped, rules)) (search (unmapped, rules))

pub loop-i-preserved : goal.loop-i-preserved
loop-i-preserved c =
    let l = c.loop-i in
    run_turns _ _ l.c _ l.out l.i _ _ c.loop-i-test.true l.invariant c.one_event-t.ensures

pub returns : goal.returns
returns c = run_ends _ _ _ _ _ _ c.loop-i-test.false c.loop-i.invariant c.run_of.ensures
