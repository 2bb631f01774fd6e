-- `station::inner::after::after_hint` meets its contract. Assumes nothing.
use Rattle.ranges.specs.Settings.{standard}
use Rattle.station_model.specs.declared.Code.TheVariants.{Done}
use Rattle.station_model.specs.declared.Event.TheVariants.{Hint}
use Rattle.station_model.specs.Station.{acted}
use Rattle.station.specs.View.{view}
use Rattle.station.proofs.Moving.{holds}
use Rattle.station.proofs.inner.after.after_hint.Goals as goal

pub returns : goal.returns
returns c =
    let s = c.args.s.now in
    let q = c.set_ratio_hint in
    holds s.station q.result.tracker _ s.station.bank Done (acted standard (view s.station) (Hint c.args.ratio))
    q.result.held s.solid.bank (rw (q.ensures, c.primary.ensures))
