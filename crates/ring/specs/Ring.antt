-- The ring of twelve marks: what it says of drift (document 01, "`on_mark` is the reference for drift and fragment recovery"), and what makes it sound. Definitions only.
use Rattle.std.specs.Prelude.{Bool, true, not, cond, ◌&&◌, false, ◌||◌, List, [], ◌∷◌, map, leb, length, get_or, Float}
use Rattle.std.proofs.Math.Option.{Option, none, some}
use Rattle.std.specs.Float.{nan, binary32, binary64}
use Rattle.std.specs.Float.Ieee.{sub, mul, div, lt}
use Rattle.order.specs.Order.{abs}
use Rattle.ranges.specs.Settings.{Settings}
use Rattle.ring.specs.declared.RingEntry.{RingEntry}
use Rattle.pair.specs.Model.{Pair}
use Rattle.marks.specs.Lists.{all, duration}
use Rattle.ranges.specs.Mean.{mean64}
use Rattle.marks.specs.Constants.{dah_gap_frac, cv_max, off_frac}
use Rattle.marks.specs.Sort.{sorted}
use Rattle.pair.specs.Lock.{boundary}
use Rattle.marks.specs.Band.{deviation}
use Rattle.pair.specs.Sound.{centroids}

-- "a ring entry's centroids outside those ranges", and its held duration
abbrev pub entry_sound : Settings → RingEntry → Bool
entry_sound k e = duration e.dur_ms && centroids k e.pre_lo e.pre_hi

abbrev pub ring_sound : Settings → List RingEntry → Bool
ring_sound k l = all (entry_sound k) l

-- ---- drift and fragment recovery (`check_drift`)

abbrev pub durations : List RingEntry → List Float
durations l = map (λ (e : RingEntry). e.dur_ms) l

-- a mark was classed a dit (true) or a dah (false)
abbrev pub classed : Bool → RingEntry → Bool
classed true e = e.assigned_dit
classed false e = not e.assigned_dit

-- every mark of the ring was
abbrev pub all_classed : Bool → List RingEntry → Bool
all_classed b l = all (classed b) l

-- "12 same-class marks"
abbrev pub uniform : List RingEntry → Bool
uniform l = leb 12 (length l) && (all_classed true l || all_classed false l)

-- how far a mean lies off a centroid, as a part of the centroid, in f64: "offset"
abbrev pub offset : Float → Float → Float
offset m c = div binary64 (abs (sub binary64 m c)) c

-- "the first entry's pre-mark centroid", that of the ring's class
unfoldable pub anchor : List RingEntry → Float
anchor [] = nan
anchor (e ∷ es) = cond (all_classed true (e ∷ es)) e.pre_lo e.pre_hi

-- "cv below 0.35, offset above 0.40", for the mean m of the ring
abbrev pub strays : Float → List RingEntry → Bool
strays m l = lt (deviation m (durations l)) cv_max && lt off_frac (offset m (anchor l))

abbrev pub drifts : List RingEntry → Bool
drifts l = strays (mean64 (durations l)) l

-- there is a "gap centroid below 0.57735 times the ring's fourth least" (`streak_marks_are_dahs`); fragment recovery asks that there is none
abbrev pub gap_says_dahs : Option Float → List RingEntry → Bool
gap_says_dahs none l = false
gap_says_dahs (some g) l = lt g (mul binary32 dah_gap_frac (get_or (sorted (durations l)) 3 nan))

-- ---- one mark (`on_mark`)

-- a mark of a tracker that was ready, for the ring: classed "by the boundary after learning", with the centroids before it
abbrev pub entry : Pair → Pair → Float → RingEntry
entry before after d = record { dur_ms = d; assigned_dit = lt d (boundary after); pre_lo = before.lo; pre_hi = before.hi }
