-- `sender::SoundTiming::dash_dot_ratio` meets its contract. Assumes nothing.
use mathlib.Core.Path.{sym, ap, ◌∙◌}
use borrow.Author.Tests.{lt-leb}
use Rattle.sender.specs.declared.TimingClass.TheVariants.{Dot, Dash}
use Rattle.sender.specs.Model.{view, view_class, held}
use Rattle.sender.proofs.Views.{sound_at}
use Rattle.sender.proofs.Readings.{few_dots, ratio_known}
use Rattle.sender.proofs.sound.SoundTiming.dash_dot_ratio.Goals as goal
use Rattle.sender.proofs.sound.SoundTiming.dash_dot_ratio.Goals.{then-dot-ge3, else-dot-ge3}

pub returns : goal.returns
returns c =
    let s = c.args.self in
    let t = s.timing in
    elim c.if-dot-ge3.branch [
      | then-dot-ge3 w ↦
          ap held c.then_some.ensures
          ∙ ratio_known t.dot t.dash _ (sound_at Dot (view t) s.held) (sound_at Dash (view t) s.held)
          w.if-dot-ge3.true w.then_some-is
      | else-dot-ge3 w ↦
          ap held c.then_some.ensures
          ∙ rw (w.then_some-is ∙ lt-leb 3 t.dot.n w.if-dot-ge3.false)
          (sym (few_dots t.dot (view_class t.dash) w.if-dot-ge3.false))
    ]
