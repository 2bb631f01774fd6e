-- What makes a pair sound (document 01, refusal 1). Definitions only.
use Rattle.std.specs.Prelude.{Bool, not, cond, ◌&&◌, leb, length, Float}
use Rattle.std.specs.Float.Ieee.{eq}
use Rattle.order.specs.Order.{negative}
use Rattle.ranges.specs.Settings.{Settings}
use Rattle.ranges.specs.Limits.{nought, dah_min, dah_max}
use Rattle.ranges.specs.Interval.{within}
use Rattle.pair.specs.Model.{Pair}
use Rattle.marks.specs.Lists.{all_durations}

-- "dit outside 20 to 150 or dah outside 16 to 2,500"
abbrev pub centroids : Settings → Float → Float → Bool
centroids k lo hi = within k.dit_min k.dit_max lo && within dah_min dah_max hi

-- "a centroid not +0": a -0 is unsound too
abbrev pub plus_zero : Float → Bool
plus_zero x = eq x nought && not (negative x)

-- "unready with a centroid not +0 or more than 4 start marks"
abbrev pub waiting : Pair → Bool
waiting p = plus_zero p.lo && (plus_zero p.hi && leb (length p.init) 4)

-- "ready with dit outside .. or dah outside ..", or else that
abbrev pub pair_settled : Settings → Pair → Bool
pair_settled k p = cond p.ready (centroids k p.lo p.hi) (waiting p)

abbrev pub pair_sound : Settings → Pair → Bool
pair_sound k p = pair_settled k p && all_durations p.init
