-- `sender::SoundTiming::observe` meets its contract. Assumes nothing.
use mathlib.Core.Path.{refl}
use Rattle.sender.proofs.Views.{alone}
use Rattle.sender.proofs.sound.SoundTiming.observe.Goals as goal

pub returns-clause-others : goal.returns-clause-others
returns-clause-others c = alone c.args.class c.observed.result c.args.self.now.timing _ refl
