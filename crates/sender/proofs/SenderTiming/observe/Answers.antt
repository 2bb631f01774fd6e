-- `sender::SenderTiming::observe` meets its contract. Assumes nothing.
use mathlib.Core.Path.{sym}
use Rattle.sender.specs.Model.{view}
use Rattle.sender.proofs.Tests.{unrefused}
use Rattle.sender.proofs.SenderTiming.observe.Goals as goal

pub observe-requires : goal.observe-requires
observe-requires c =
    let a = c.args in
    let w = unrefused (view a.self.now) a.dur_ms.0 a.dit_ms.0 (sym c.in_ok-observe_refusal.ensures) in
    record { state = w.state; duration = w.duration; dit = w.of_dit }
