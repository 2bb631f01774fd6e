-- `station::inner::sound::are_distinct` meets its contract. Assumes nothing.
use Rattle.std.proofs.Common.{◌≡◌, drop}
use Rattle.station.specs.Sound.{distinct}
use Rattle.station.proofs.inner.sound.are_distinct.Given as goal

-- those from the next on tell whether all are distinct
abbrev pub invariant-loop-i : goal.invariant-loop-i
invariant-loop-i l = distinct l.xs ≡ distinct (drop l.i l.xs)
