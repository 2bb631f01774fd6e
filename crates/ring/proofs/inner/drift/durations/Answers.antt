-- `ring::inner::drift::durations` meets its contract. Assumes nothing.
use Rattle.std.proofs.Common.{false, rules, tests}
use Rattle.std.specs.Float.{nan}
use Rattle.ring.specs.declared.RingEntry.{RingEntry}
use Rattle.ring.proofs.Ringing.{mapped}
use Rattle.ring.proofs.inner.drift.durations.Goals as goal

-- what is read past the end of a ring, as nothing is
abbrev none : RingEntry
none = record { dur_ms = nan; assigned_dit = false; pre_lo = nan; pre_hi = nan }

pub returns : goal.returns
returns c =
    mapped (λ (e : RingEntry). e.dur_ms) none _ _ _ c.map.ensures.items c.told-ring (λ x y p q k. search (rules, tests))
