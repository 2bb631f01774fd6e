-- Other readings of a pair: a seed, assumed dits as dahs, the three-to-one reading. Definitions only.
use Rattle.std.specs.Prelude.{Bool, true, false, not, cond, ◌&&◌, List, [], Float}
use Rattle.std.specs.Float.{binary32}
use Rattle.std.specs.Float.Ieee.{mul, div, lt}
use Rattle.std.specs.Float.Ieee.Scale.{finite}
use Rattle.ranges.specs.Settings.{Settings}
use Rattle.ranges.specs.Interval.{within}
use Rattle.marks.specs.Constants.{three}
use Rattle.pair.specs.Model.{Pair, with_centroids, with_confirmed, with_placeholder}
use Rattle.marks.specs.Band.{band, agree}

-- `seed_wpm`: the dit of a speed, and a lock on it
abbrev pub seed_pair : Float → Pair
seed_pair dit = record { lo = dit; hi = mul binary32 three dit; init = []; ready = true; confirmed = true; placeholder_is_lo = false; lo_n = 0 }

-- locked on assumed dits, of 60 ms at least
abbrev pub unsure : Settings → Pair → Bool
unsure k p = (p.ready && (not p.confirmed && not p.placeholder_is_lo)) && (finite p.lo && not (lt p.lo (mul binary32 three k.dit_min)))

abbrev pub gaps_say_dahs : Settings → Pair → List Float → Bool
gaps_say_dahs k p gaps = unsure k p && agree (band k p.lo gaps)

-- what was taken for the dit is the dah
abbrev pub turned : Pair → Pair
turned p = with_confirmed (with_placeholder (with_centroids p (div binary32 p.lo three) p.lo) true) false

-- "its three-to-one reading": assumed dahs as dits, assumed dits as dahs
abbrev pub other_pair : Pair → Pair
other_pair p =
    cond p.placeholder_is_lo
    (record { lo = p.hi; hi = mul binary32 three p.hi; init = []; ready = true; confirmed = false; placeholder_is_lo = false; lo_n = 0 })
    (record { lo = div binary32 p.lo three; hi = p.lo; init = []; ready = true; confirmed = false; placeholder_is_lo = true; lo_n = 0 })

-- there is one for an unconfirmed lock, if its dit is in the dit's limits
abbrev pub has_other : Settings → Pair → Bool
has_other k p = (p.ready && not p.confirmed) && within k.dit_min k.dit_max (other_pair p).lo
