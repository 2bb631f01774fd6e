-- `tracker::inner::relock::recovered` meets its contract. Assumes nothing.
use Rattle.std.proofs.Common.{◌≡◌, true, length, ap, sym, ◌∙◌, arith, rules}
use Rattle.ranges.specs.Settings.{standard}
use Rattle.ring.specs.Ring.{durations}
use Rattle.ring.proofs.Ringing.{ring_held}
use Rattle.tracker.specs.Steps.{timed, relocked}
use Rattle.tracker.specs.Model.{Tracker, view, with_recovered}
use Rattle.tracker.proofs.Relocking.{ring_whole}
use Rattle.marks.proofs.Shifting.{unmapped}
use Rattle.tracker.proofs.inner.relock.recovered.Goals as goal

pub invariant_of-relock : goal.invariant_of-relock
invariant_of-relock c =
    let l : length c.durations-ring.result ≡ 12 = search rules in
    record { held = rw c.durations-ring.ensures (ring_held standard _ c.requires.full.ring); few = omega arith }

pub relock-u-requires : goal.relock-u-requires
relock-u-requires c = record { counted = c.requires.counted; any = search rules }

pub returns : goal.returns
returns c =
    let t = c.args.t in
    let l : length t.ring ≡ 12 = search (unmapped, rules) in (
      c.timed.ensures.0 ∙ ap (λ (m : Tracker). timed standard (with_recovered m true))
          (c.relock-u.ensures.0 ∙ ap (relocked standard (view t))
          (c.durations-ring.ensures ∙ ap durations (sym (ring_whole t l c.requires.full.count)))),
      c.timed.ensures.1,
    )
