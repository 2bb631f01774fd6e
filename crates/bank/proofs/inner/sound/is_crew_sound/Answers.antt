use mathlib.Core.Bool.{not}
use mathlib.Core.Path.{ap}
use Rattle.bank.proofs.Sounding.{try_fails, try_turns, try_ends}
use Rattle.bank.proofs.inner.sound.is_crew_sound.Goals as goal

pub returns-then-not-is_hyp_sound : goal.returns-then-not-is_hyp_sound
returns-then-not-is_hyp_sound c =
    try_fails _ _ _ _ c.loop-h-test.true c.loop-h.invariant c.is_hyp_sound.ensures (ap not c.if-not-is_hyp_sound.true)

pub loop-h-preserved : goal.loop-h-preserved
loop-h-preserved c =
    try_turns _ _ _ _ c.loop-h-test.true c.loop-h.invariant c.is_hyp_sound.ensures (ap not c.if-not-is_hyp_sound.false)

pub returns : goal.returns
returns c = try_ends _ _ c.loop-h-test.false c.loop-h.invariant
