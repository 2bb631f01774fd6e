-- `marks::inner::band::banded` meets its contract. Assumes nothing.
use Rattle.std.proofs.Common.{◌≡◌, ◌≤◌, length, take}
use Rattle.ranges.specs.Settings.{standard}
use Rattle.marks.specs.Band.{band}
use Rattle.marks.proofs.inner.band.banded.Given as goal

abbrev pub invariant-loop-g : goal.invariant-loop-g
invariant-loop-g l =
    record {
      few : l.len ≤ l.g-index;
      room : length l.at ≡ 12;
      is : take l.len l.at ≡ band standard l.lo (take l.g-index l.gaps.at.now);
    }
