-- What makes a tracker sound (document 01, refusal 1). Definitions only.
use Rattle.std.specs.Prelude.{Bool, true, ◌&&◌, nat_le, Float}
use Rattle.std.proofs.Math.Option.{Option, none, some}
use Rattle.std.specs.Float.Ieee.Positive.{positive}
use Rattle.ranges.specs.Settings.{Settings}
use Rattle.ranges.specs.Interval.{within}
use Rattle.tracker.specs.declared.SpeedTracker.{SpeedTracker}
use Rattle.tracker.specs.Model.{Tracker, view}
use Rattle.marks.specs.Lists.{all_durations}
use Rattle.pair.specs.Sound.{pair_sound}
use Rattle.ring.specs.Ring.{ring_sound}

-- "a gap centroid or speed average held that is not finite and positive"
abbrev pub positive_or : Option Float → Bool
positive_or none = true
positive_or (some x) = positive x

-- "a hint outside 2.2 to 6.0"
abbrev pub hint_sound : Settings → Option Float → Bool
hint_sound k none = true
hint_sound k (some h) = within k.ratio_min k.ratio_max h

-- the recent marks, the speed average, the gap centroid and the hint
abbrev pub rest_sound : Settings → Tracker → Bool
rest_sound k t = all_durations t.recent && (positive_or t.wpm && (positive_or t.egap && hint_sound k t.hint))

-- of what is part of the state
unfoldable pub proper : Settings → Tracker → Bool
proper k t = pair_sound k t.pair && (ring_sound k t.ring && rest_sound k t)

-- "a count above its capacity": start marks 12, ring 12, recent 5
abbrev pub counted : SpeedTracker → Bool
counted t = nat_le t.pair.init_len 12 && (nat_le t.ring_len 12 && nat_le t.recent_len 5)

-- refusal 1 says of a tracker that this is false
unfoldable pub sound : Settings → SpeedTracker → Bool
sound k t = counted t && proper k (view t)
