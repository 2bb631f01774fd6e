-- The quotient of a mended pair misses 2.2, and one misses 6.0, by computation. Assumes nothing.
use mathlib.Core.Path.{refl}
use lib.Ieee.{size, round, of_bits, mul, div, lt, le}
use Rattle.pair.specs.Lock.{constrained}
use Rattle.pair.specs.Examples.{MissesLow, MissesHigh}

pub misses_low : MissesLow
unfolding constrained size round of_bits mul div lt le
misses_low = record { mended = record { dit_is = refl; dah_is = refl; quotient_is = refl }; below = refl }

pub misses_high : MissesHigh
unfolding constrained size round of_bits mul div lt le
misses_high = record { mended = record { dit_is = refl; dah_is = refl; quotient_is = refl }; above = refl }
