-- `journal::run` meets its contract. Assumes nothing.
use Rattle.journal.proofs.Taking.{all_moved, read_begins, read_reads, read_turns}
use Rattle.journal.proofs.run.Goals as goal

pub loop-init : goal.loop-init
loop-init g c = read_begins _ _ _ _ _ c.requires.goes c.requires.left_nonzero c.requires.in_bounds

pub returns-in_err-more-clause-reads : goal.returns-in_err-more-clause-reads
returns-in_err-more-clause-reads g c =
    read_reads _ _ _ _ _ _ _ _ _ _ c.loop.invariant _ _ _ c.in_err-more.ensures.read

pub returns-then-not-more-clause-reads : goal.returns-then-not-more-clause-reads
returns-then-not-more-clause-reads g c =
    read_reads _ _ _ _ _ _ _ _ _ _ c.loop.invariant _ _ _ c.in_ok-more.ensures.read

pub returns-then-not-more-clause-moves : goal.returns-then-not-more-clause-moves
returns-then-not-more-clause-moves g c =
    all_moved _ _ _ _ _ _ _ _ _ _ c.loop.invariant _ _ _ _ c.if-not-more.true c.in_ok-more.ensures.moves

pub loop-preserved : goal.loop-preserved
loop-preserved g c =
    read_turns _ _ _ _ _ _ _ _ _ _ c.loop.invariant _ _ _ _ c.if-not-more.false _ _ c.in_ok-more.ensures.read
    c.in_ok-more.ensures.moves c.read_some.auto.buffer c.read_some.auto.out
