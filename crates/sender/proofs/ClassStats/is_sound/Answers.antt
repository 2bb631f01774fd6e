-- `sender::ClassStats::is_sound` meets its contract. Assumes nothing.
use mathlib.Core.Path.{sym, ◌∙◌}
use mathlib.Core.Bool.{true}
use lib.Ieee.{of_bits}
use Rattle.sender.proofs.Tests.{class_sound_is}
use Rattle.sender.proofs.ClassStats.is_sound.Goals as goal
use Rattle.sender.proofs.ClassStats.is_sound.Goals.{then-within, else-within}

pub returns-then-self : goal.returns-then-self
unfolding of_bits
returns-then-self c =
    let s = c.args.self in
    elim c.if-within.branch [
      | then-within w ↦
          class_sound_is s.mean.0 s.var s.n true true _ c.if-self-eq0.false (sym w.if-within.true ∙ c.within.ensures)
          (sym w.value-is ∙ c.if-self.true) c.is_finite32.ensures
      | else-within w ↦ absurd (cc)
    ]
