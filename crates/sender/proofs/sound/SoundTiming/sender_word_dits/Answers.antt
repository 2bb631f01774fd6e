-- `sender::SoundTiming::sender_word_dits` meets its contract. Assumes nothing.
use mathlib.Core.Path.{sym, ap, ◌∙◌}
use mathlib.Core.Option.{some}
use lib.Ieee.{Float}
use Rattle.order.specs.Order.{clamp}
use Rattle.sender.specs.declared.TimingClass.TheVariants.{CharGap, WordGap}
use Rattle.sender.specs.Constants.{word_min, word_max}
use Rattle.sender.specs.Model.{view}
use Rattle.sender.proofs.Views.{sound_at}
use Rattle.sender.proofs.Readings.{word_of}
use Rattle.sender.proofs.sound.SoundTiming.sender_word_dits.Goals as goal

pub returns : goal.returns
returns c =
    let s = c.args.self in
    let t = view s.timing in
    ap some (c.clamp.ensures.value ∙ ap (λ (x : Float). clamp word_min word_max x) c.boundary-b.ensures)
    ∙ sym (word_of _ _ _ c.in_ok-char_gap.ensures (sound_at CharGap t s.held) (sound_at WordGap t s.held))
