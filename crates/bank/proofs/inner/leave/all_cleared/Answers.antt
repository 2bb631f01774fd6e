use Rattle.bank.proofs.Leaving.{note_room, note_turns}
use Rattle.bank.proofs.inner.leave.all_cleared.Goals as goal

pub push-requires : goal.push-requires
push-requires c = note_room _ _ _ c.loop-h-test.true c.loop-h.invariant

pub loop-h-preserved : goal.loop-h-preserved
loop-h-preserved c = note_turns _ _ _ _ _ c.loop-h-test.true c.loop-h.invariant c.push.ensures
