-- How marks become two centroids, and how a centroid learns (document 01, "ClusterPair and SpeedTracker"; the Rust's `ClusterPair`). Definitions only.
use Rattle.std.specs.Prelude.{Bool, true, false, not, cond, ◌&&◌, List, [], ◌∷◌, ◌++◌, eqb, length, take, drop, Float}
use Rattle.std.proofs.Math.Option.{Option, none, some}
use Rattle.std.specs.Float.{binary32}
use Rattle.std.specs.Float.Ieee.{mul, div, lt, le}
use Rattle.numbers.specs.Root.{sqrt_of}
use Rattle.order.specs.Order.{clamp}
use Rattle.ranges.specs.Settings.{Settings}
use Rattle.ranges.specs.Limits.{ideal_ratio, half}
use Rattle.ranges.specs.Interval.{within}
use Rattle.ranges.specs.Average.{average}
use Rattle.ranges.specs.Mean.{mean_of}
use Rattle.marks.specs.Constants.{two, three}
use Rattle.pair.specs.Model.{Pair, with_init, with_centroids, with_confirmed}
use Rattle.marks.specs.Sort.{sorted, cut, parts}

-- ---- a lock from marks (`initialize`)

-- "the centroids are the means of the sorted marks up to the cut and of those after it"
abbrev pub bimodal : List Float → Pair
bimodal s = record {
  lo = mean_of (take (cut s) s);
  hi = mean_of (drop (cut s) s);
  init = [];
  ready = true;
  confirmed = true;
  placeholder_is_lo = false;
  lo_n = cut s;
}

-- "taken as dahs (dit a third)"
abbrev pub as_dahs : Float → Pair
as_dahs m = record {
  lo = div binary32 m three;
  hi = m;
  init = [];
  ready = true;
  confirmed = false;
  placeholder_is_lo = true;
  lo_n = 0;
}

-- "as dits (dah threefold)"
abbrev pub as_dits : Float → Pair
as_dits m = record {
  lo = m;
  hi = mul binary32 three m;
  init = [];
  ready = true;
  confirmed = false;
  placeholder_is_lo = false;
  lo_n = 0;
}

-- "a mean above 150 is taken as dahs, else as dits, unconfirmed"
abbrev pub unimodal : Settings → Float → Pair
unimodal k m = cond (lt k.dit_max m) (as_dahs m) (as_dits m)

-- of marks that are sorted
unfoldable pub locked : Settings → List Float → Pair
locked k s = cond (parts s) (bimodal s) (unimodal k (mean_of s))

-- "sort; if largest/smallest is at least 2.0, cut; otherwise .." (`initialize`, `reinit_from`)
abbrev pub initialized : Settings → List Float → Pair
initialized k marks = locked k (sorted marks)

-- ---- constraints (`apply_constraints`)

-- "hint (else 3.0)"
abbrev pub ratio_or : Option Float → Float
ratio_or none = ideal_ratio
ratio_or (some h) = h

-- "if dah/dit is outside 2.2..6.0, dah becomes hint (else 3.0) times dit", for a dit that is clamped
abbrev pub mended : Settings → Option Float → Float → Float → Float
mended k hint lo hi = cond (within k.ratio_min k.ratio_max (div binary32 hi lo)) hi (mul binary32 (ratio_or hint) lo)

-- "dit clamped to 20..150; if dah/dit is outside .."
unfoldable pub constrained : Settings → Option Float → Pair → Pair
constrained k hint p =
    let lo = clamp k.dit_min k.dit_max p.lo in
    with_centroids p lo (mended k hint lo p.hi)

-- ---- learning one mark (`observe`)

-- the geometric mean of the centroids (`boundary`)
abbrev pub boundary : Pair → Float
boundary p = sqrt_of binary32 (mul binary32 p.lo p.hi)

-- "Unconfirmed, .. (where dahs were assumed: only one at most half the dah) re-anchors the other centroid"
abbrev pub anchors_dit : Pair → Float → Bool
anchors_dit p v = not p.confirmed && (p.placeholder_is_lo && le v (mul binary32 half p.hi))

-- "Unconfirmed, a mark at least 2.0 times the dit .. re-anchors the other centroid"
abbrev pub anchors_dah : Pair → Float → Bool
anchors_dah p v = not p.confirmed && (not p.placeholder_is_lo && le (mul binary32 two p.lo) v)

-- "Else a mark below the boundary moves the dit, an equal one the dah"
abbrev pub moved : Settings → Pair → Float → Pair
moved k p v =
    cond (lt v (boundary p)) (with_centroids p (average binary32 k.weight p.lo v) p.hi)
    (with_centroids p p.lo (average binary32 k.weight p.hi v))

-- a ready pair learns a mark
unfoldable pub learnt : Settings → Pair → Float → Pair
learnt k p v =
    cond (anchors_dit p v) (with_confirmed (with_centroids p v p.hi) true)
    (cond (anchors_dah p v) (with_confirmed (with_centroids p p.lo v) true) (moved k p v))

-- an unready pair keeps it, and locks "at the fifth mark"
unfoldable pub started : Settings → Pair → Float → Pair
started k p v = let marks = p.init ++ (v ∷ []) in cond (eqb (length marks) 5) (initialized k marks) (with_init p marks)

abbrev pub observed : Settings → Pair → Float → Pair
observed k p v = cond p.ready (learnt k p v) (started k p v)
