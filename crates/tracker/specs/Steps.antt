-- What the calls of a tracker do (document 01, "ClusterPair and SpeedTracker"; the Rust's `SpeedTracker`). Definitions
-- only.
use Rattle.std.specs.Prelude.{
  ◌+◌,
  ◌%◌,
  ◌^◌,
  Bool,
  true,
  false,
  cond,
  not,
  ◌&&◌,
  List,
  [],
  ◌∷◌,
  length,
  ◌==◌,
  nat_le,
  Float,
}
use Rattle.std.proofs.Math.Option.{Option, none, some}
use Rattle.std.specs.Float.{binary32}
use Rattle.std.specs.Float.Ieee.{neg, sub, mul, div, lt}
use Rattle.std.specs.Float.Ieee.Scale.{finite}
use Rattle.order.specs.Order.{clamp}
use Rattle.ranges.specs.Settings.{Settings}
use Rattle.ranges.specs.Limits.{nought, half, bias_cap, paris, speed_weight}
use Rattle.ranges.specs.Average.{average}
use Rattle.marks.specs.Constants.{two}
use Rattle.ring.specs.declared.RingEntry.{RingEntry}
use Rattle.pair.specs.Model.{Pair}
use Rattle.tracker.specs.Model.{
  Tracker,
  with_pair,
  with_ring,
  with_wpm,
  with_recent,
  with_egap,
  with_hint,
  with_regime,
  with_recovered,
  with_uncorroborated,
}
use Rattle.marks.specs.Lists.{pushed}
use Rattle.pair.specs.Lock.{initialized, constrained, observed}
use Rattle.pair.specs.Readings.{seed_pair, turned, gaps_say_dahs, other_pair, has_other}
use Rattle.ring.specs.Ring.{durations, all_classed, uniform, drifts, gap_says_dahs, entry}

-- a fresh tracker (`new`)
abbrev pub fresh : Tracker
fresh = record {
  pair =
      record {
        lo = nought;
        hi = nought;
        init = [];
        ready = false;
        confirmed = false;
        placeholder_is_lo = false;
        lo_n = 0;
      };
  ring = [];
  wpm = none;
  recent = [];
  egap = none;
  hint = none;
  regime = 0;
  recovered = false;
  uncorroborated = false;
}

-- ---- the dit estimate and the speed

-- half the difference of dit and gap centroid, at most 0.35 dits either way
abbrev pub bias : Float → Float → Float
bias lo g =
    let cap = mul binary32 bias_cap lo in
    clamp (neg cap) cap (mul binary32 half (sub binary32 lo g))

-- the dit corrected by that, in the dit's limits; without a gap centroid the dit itself (`dit_estimate_ms`)
abbrev pub estimate : Settings → Float → Option Float → Float
estimate k lo none = lo
estimate k lo (some g) = clamp k.dit_min k.dit_max (sub binary32 lo (bias lo g))

abbrev pub dit_estimate : Settings → Tracker → Float
dit_estimate k t = estimate k t.pair.lo t.egap

-- 1200 / dit estimate, in words a minute
abbrev pub speed : Settings → Tracker → Float
speed k t = div binary32 paris (dit_estimate k t)

-- the speed average begins anew
abbrev pub timed : Settings → Tracker → Tracker
timed k t = with_wpm t (some (speed k t))

-- a first speed as it is, a later one averaged with weight 0.1
abbrev pub averaged : Option Float → Float → Float
averaged none raw = raw
averaged (some w) raw = average binary32 speed_weight w raw

-- ---- constraints, on a tracker (`apply_constraints`)
abbrev pub bound : Settings → Tracker → Tracker
bound k t = with_pair t (constrained k t.hint t.pair)

-- a new lock from marks: the ring and the gap centroid begin anew, and the regime count goes up by one and wraps; the
-- speed average, the recent marks and the hint stay
abbrev pub relocked : Settings → Tracker → List Float → Tracker
relocked k t marks =
    let u = bound k (with_pair t (initialized k marks)) in
    with_uncorroborated (with_regime (with_egap (with_ring u []) none) ((t.regime + 1) % 2 ^ 32)) false

-- drift reads the recent marks
abbrev pub drifted : Settings → Tracker → Tracker
drifted k t = relocked k t t.recent

-- "twelve dahs, the dit resting on the lone start mark .. or on a seed, with no dit since, and no gap centroid .."
abbrev pub fragment : Tracker → Bool
fragment t = all_classed false t.ring && (t.uncorroborated && not (gap_says_dahs t.egap t.ring))

-- recovery reads all of the ring, and begins the speed average anew
abbrev pub recovered_by : Settings → Tracker → Tracker
recovered_by k t = timed k (with_recovered (relocked k t (durations t.ring)) true)

-- drift comes first
unfoldable pub checked : Settings → Tracker → Tracker
checked k t = cond (uniform t.ring) (cond (drifts t.ring) (drifted k t) (cond (fragment t) (recovered_by k t) t)) t

-- the ring takes it, and a dit ends the dit's resting on a lone mark
abbrev pub rung : Tracker → RingEntry → Tracker
rung t e = with_ring (with_uncorroborated t (t.uncorroborated && not e.assigned_dit)) (pushed 12 t.ring e)

-- the speed average takes the speed
abbrev pub spoken : Settings → Tracker → Tracker
spoken k t = with_wpm t (some (averaged t.wpm (speed k t)))

-- The tracker u has learnt d, before which its pair was p. If it was ready: constraints, ring, drift, speed.
abbrev pub followed : Settings → Pair → Tracker → Float → Tracker
followed k p u d = let c = bound k u in spoken k (checked k (rung c (entry p c.pair d)))

-- if it was not, and is now: "the dit resting on the lone start mark of a fifth-mark lock", constraints, speed
abbrev pub opened : Settings → Tracker → Tracker
opened k u = cond u.pair.ready (spoken k (bound k (with_uncorroborated u (u.pair.lo_n == 1)))) u

unfoldable pub on_mark : Settings → Tracker → Float → Tracker
on_mark k t d =
    let u = with_pair (with_recent t (pushed 5 t.recent d)) (observed k t.pair d) in
    cond t.pair.ready (followed k t.pair u d) (opened k u)

-- ---- the other calls

-- `set_ratio_hint`: "A hint not finite empties the hint"
unfoldable pub set_hint : Settings → Tracker → Float → Tracker
set_hint k t h = with_hint t (cond (finite h) (some (clamp k.ratio_min k.ratio_max h)) none)

-- `on_element_gap`
abbrev pub gap_moved : Settings → Option Float → Float → Float
gap_moved k none d = d
gap_moved k (some g) d = average binary32 k.weight g d

unfoldable pub on_gap : Settings → Tracker → Float → Tracker
on_gap k t d = with_egap t (some (gap_moved k t.egap d))

-- `bootstrap`: whether it is possible ("a finish": unready, with two start marks at least), and the tracker then
abbrev pub can_begin : Tracker → Bool
can_begin t = not t.pair.ready && nat_le 2 (length t.pair.init)

unfoldable pub bootstrapped : Settings → Tracker → Tracker
bootstrapped k t = cond (can_begin t) (timed k (bound k (with_pair t (initialized k t.pair.init)))) t

abbrev pub seed_dit : Settings → Float → Float
seed_dit k v = clamp k.dit_min k.dit_max (div binary32 paris v)

unfoldable pub seeded : Settings → Tracker → Float → Tracker
seeded k t v =
    let u = with_recent (with_ring (with_pair t (seed_pair (seed_dit k v))) []) [] in
    timed k (with_uncorroborated (with_egap u none) true)

-- `reseed_wpm_after_warmup`
unfoldable pub reseeded : Settings → Tracker → Tracker
reseeded k t = cond t.pair.ready (timed k t) t

-- `take_badlock_recovered`: the flag is read, and cleared
unfoldable pub settled : Tracker → Tracker
settled t = with_recovered t false

unfoldable pub resolved : Settings → Tracker → List Float → Tracker
resolved k t gaps = cond (gaps_say_dahs k t.pair gaps) (timed k (bound k (with_pair t (turned t.pair)))) t

-- ---- for the bank (`from_marks`, `three_to_one_alternative`)

-- a gap below 2.0 dit estimates is an element gap
abbrev pub element_gap : Settings → Tracker → Float → Tracker
element_gap k t g = cond (lt g (mul binary32 two (dit_estimate k t))) (on_gap k t g) t

unfoldable pub element_gaps : Settings → Tracker → List Float → Tracker
element_gaps k t [] = t
element_gaps k t (g ∷ gs) = element_gaps k (element_gap k t g) gs

unfoldable pub from_marks : Settings → List Float → List Float → Tracker
from_marks k marks gaps = timed k (element_gaps k (bound k (with_pair fresh (initialized k marks))) gaps)

unfoldable pub three_to_one : Settings → Tracker → Option Tracker
three_to_one k t = cond (has_other k t.pair) (some (timed k (bound k (with_pair fresh (other_pair t.pair))))) none
