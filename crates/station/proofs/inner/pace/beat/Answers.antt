-- `station::inner::pace::beat` meets its contract. Assumes nothing.
use mathlib.Core.Path.{subst}
use Rattle.bank_model.proofs.Ready.{dit_log, dah_log}
use Rattle.station_model.specs.Station.{Act, accepted}
use Rattle.station.specs.View.{view}
use Rattle.station.specs.Parts.{Stands}
use Rattle.station.proofs.Pacing.{stands_next, beat_ready, beat_is}
use Rattle.station.proofs.inner.pace.beat.Goals as goal

pub centroid_logs-k-requires : goal.centroid_logs-k-requires
centroid_logs-k-requires c =
    let p = c.on_mark-p.result in
    let e = rw c.primary.ensures at c.on_mark-p.ensures in
    let r = beat_ready c.args.s.now c.requires.1.heard c.args.d.ms p.tracker e in
    (dit_log p.tracker p.held r, dah_log p.tracker p.held r)

pub returns : goal.returns
returns c =
    let s = c.args.s.now in
    let m = view s in
    let d = c.args.d.ms in
    let i = c.requires.1 in
    let p = c.on_mark-p in
    let e = rw c.primary.ensures at p.ensures in
    let heard = rw c.bank.ensures at c.hear_beat-t.ensures in
    stands_next s c.args.e c.requires.0 i.free i.is c.accept.result
    (subst (λ (a : Act). Stands c.accept.result (accepted m a)) (beat_is s i.heard d p.result.tracker e _ heard)
    c.accept.ensures)
