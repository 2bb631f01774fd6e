-- `station::inner::after::after_switch` meets its contract. Assumes nothing.
use mathlib.Core.Path.{ap, sym, ◌∙◌}
use Rattle.bank_model.specs.Steps.{take_switch}
use Rattle.station_model.specs.Station.{switch_act}
use Rattle.station.specs.View.{view}
use Rattle.station.proofs.Moving.{holds}
use Rattle.station.proofs.Pacing.{idle_taken}
use Rattle.station.proofs.inner.after.after_switch.Goals as goal

pub returns-then-is_some : goal.returns-then-is_some
returns-then-is_some c =
    let s = c.args.s.now.station in
    let m = view s in
    let k = c.take_switch-k in
    let taken = rw (c.bank.ensures, c.primary.ensures) at k.ensures.is in
    holds s k.result.primary.tracker k.result.serial k.result.bank.bank _
    (switch_act (take_switch m.bank m.primary m.serial)) k.result.primary.held k.result.bank.sturdy
    (ap switch_act taken)

pub returns-else-is_some : goal.returns-else-is_some
returns-else-is_some c =
    let s = c.args.s.now in
    let m = view s.station in
    let taken = idle_taken s.station (sym c.is_some.ensures ∙ c.if-is_some.false) in
    holds s.station s.station.primary m.serial s.station.bank _
    (switch_act (take_switch m.bank m.primary m.serial)) s.solid.primary s.solid.bank (ap switch_act taken)
