-- `station::inner::after::after_gap` meets its contract. Assumes nothing.
use Rattle.ranges.specs.Settings.{standard}
use Rattle.station_model.specs.declared.Code.TheVariants.{Done}
use Rattle.station_model.specs.Station.{gap_act}
use Rattle.station.specs.View.{view}
use Rattle.station.proofs.Moving.{holds, gap_is, gap_not}
use Rattle.station.proofs.inner.after.after_gap.Goals as goal

pub returns-then-p : goal.returns-then-p
returns-then-p c =
    let s = c.args.s.now.station in
    let m = view s in
    let d = c.args.d.ms in
    let q = c.hear_one in
    let b = c.on_gap in
    let heard = rw (c.bank.ensures, c.primary-p.ensures) at b.ensures in
    holds s q.result.tracker s.serial b.result.bank Done (gap_act standard m d) q.result.held b.result.sturdy
    (gap_is standard m d _ _ (rw c.primary-p.ensures at c.if-p.true) (rw c.primary-p.ensures at q.ensures) heard)

pub returns-else-p : goal.returns-else-p
returns-else-p c =
    let s = c.args.s.now in
    let m = view s.station in
    holds s.station s.station.primary m.serial s.station.bank Done (gap_act standard m c.args.d.ms) s.solid.primary s.solid.bank
    (gap_not standard m c.args.d.ms (rw c.primary-p.ensures at c.if-p.false))
