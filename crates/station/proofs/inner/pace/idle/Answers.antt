-- `station::inner::pace::idle` meets its contract. Assumes nothing.
use mathlib.Core.Path.{refl, ap}
use Rattle.bank_model.specs.Steps.{Taken, take_switch}
use Rattle.station_model.specs.declared.Code.TheVariants.{Nothing}
use Rattle.station_model.specs.Station.{switch_act}
use Rattle.station.specs.View.{view}
use Rattle.station.proofs.Moving.{holds, none_leave}
use Rattle.station.proofs.Pacing.{stands_next, idle_taken}
use Rattle.station.proofs.inner.pace.idle.Goals as goal

pub returns : goal.returns
returns c =
    let s = c.args.s.now in
    let m = view s in
    let k = c.requires.0 in
    let i = c.requires.1 in
    let u = idle_taken s i.empty in
    let h = holds s s.primary m.serial s.bank Nothing (switch_act (take_switch m.bank m.primary m.serial)) k.solid.primary k.solid.bank
    (ap switch_act u) in
    stands_next s c.args.e k i.free i.is c.done.result
    (none_leave _ c.done.result m _ Nothing c.done.ensures h (ap (λ (t : Taken). (switch_act t).code) u) refl)
