-- `sender::ClassStats::observed` meets its contract. Assumes nothing.
use mathlib.Core.Path.{sym, ap, subst}
use mathlib.Core.Option.{Option, some}
use lib.Dec.{T}
use lib.Ieee.{of_bits}
use Rattle.std.proofs.Common.{rules}
use Rattle.sender.specs.Model.{Class}
use Rattle.sender.specs.Sound.{class_sound}
use Rattle.sender.specs.Steps.{counted, observed_class}
use Rattle.sender.proofs.Samples.{first_sound, next_is, next_made_sound}
use Rattle.sender.proofs.ClassStats.observed.Goals as goal

pub returns-in-None-clause-view : goal.returns-in-None-clause-view
unfolding observed_class of_bits
returns-in-None-clause-view c = ap (λ (o : Option Class). some (observed_class o c.args.x.0)) c.in-None.ensures

pub returns-in-None-clause-sound : goal.returns-in-None-clause-sound
unfolding observed_class of_bits
returns-in-None-clause-sound c = first_sound c.args.x.0 c.requires.in_range

pub returns-in-Some-clause-view : goal.returns-in-Some-clause-view
unfolding counted
returns-in-Some-clause-view c = next_is _ _ c.args.x.0 c.in-Some.ensures _ c.saturating_add.ensures

pub returns-in-Some-clause-sound : goal.returns-in-Some-clause-sound
unfolding counted
returns-in-Some-clause-sound c =
    let x = c.args.x.0 in
    let e = next_is _ _ x c.in-Some.ensures _ c.saturating_add.ensures in
    subst (λ (o : Option Class). T (class_sound o)) (sym e)
    (next_made_sound _ _ x c.in-Some.ensures (search rules) (search rules) (search rules)
    c.requires.sound c.requires.in_range)
