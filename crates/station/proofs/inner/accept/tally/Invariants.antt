-- `station::inner::accept::tally` meets its contract. Assumes nothing.
use Rattle.std.proofs.Common.{◌≡◌, take}
use Rattle.station_model.specs.Station.{tallied}
use Rattle.station.proofs.inner.accept.tally.Given as goal

-- the first of them are counted
abbrev pub invariant-loop-d : goal.invariant-loop-d
invariant-loop-d l = l.counts ≡ tallied l.fn.was (take l.d-index l.left)
