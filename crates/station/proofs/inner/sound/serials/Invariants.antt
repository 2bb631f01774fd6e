-- `station::inner::sound::serials` meets its contract. Assumes nothing.
use Rattle.std.proofs.Common.{◌≡◌, ◌+◌, ◌∷◌, take, length, map}
use Rattle.station.specs.Sound.{serial_of}
use Rattle.station.proofs.inner.sound.serials.Given as goal

-- the first of them are put down
abbrev pub invariant-loop-i : goal.invariant-loop-i
invariant-loop-i l = record {
  is : take (l.i + 1) l.out ≡ l.fn.s.serial ∷ map serial_of (take l.i l.h-items);
  long : length l.out ≡ 9;
}
