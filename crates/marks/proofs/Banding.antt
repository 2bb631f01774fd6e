-- Gaps that lie in a band, and their range. Assumes nothing.
use mathlib.Core.Path.{◌≡◌, refl}
use mathlib.Core.Bool.{Bool, true, false, cond, ◌&&◌}
use mathlib.Core.List.{List, [], ◌∷◌}
use Prim.Native.Nat.{◌≤◌, ◌<◌}
use lib.Dec.{T}
use lib.ListN.{length}
use lib.Ieee.{Float, binary32, mul, div, lt, le, of_bits}
use lib.Ieee.Scale.{finite}
use borrow.Author.Tests.{le-leb, lt-leb}
use Rattle.ranges.specs.Settings.{standard}
use Rattle.ranges.specs.Limits.{duration_min, duration_max}
use Rattle.ranges.specs.Interval.{In}
use Rattle.ranges.specs.Mean.{mean64}
use Rattle.ranges.proofs.Signed.{le_trans_float}
use Rattle.ranges.proofs.Compare.{lt→le, passed}
use Rattle.ranges.proofs.Interval.{mul_in}
use Rattle.marks.specs.Constants.{one, dah_gap_frac, cv_max}
use Rattle.marks.specs.Lists.{duration, all_durations}
use Rattle.marks.specs.Band.{in_band, band, agree, deviation}
use Rattle.marks.proofs.Bounds.{both, join, outside}

-- ---- the band of a dit from 20 to 150 lies among the durations
abbrev sixth : Float
sixth = div binary32 one standard.ratio_max

floor_in : (lo : Float) → In standard.dit_min standard.dit_max lo → T (le duration_min (mul binary32 lo sixth))
unfolding le of_bits mul div
floor_in lo i =
    let j = mul_in binary32 standard.dit_min standard.dit_max lo sixth sixth sixth tt tt tt tt i (tt, tt) in
    le_trans_float duration_min (mul binary32 standard.dit_min sixth) (mul binary32 lo sixth) tt j.0

roof_in : (lo : Float) → In standard.dit_min standard.dit_max lo → T (le (mul binary32 lo dah_gap_frac) duration_max)
unfolding le of_bits mul
roof_in lo i =
    let j = mul_in binary32 standard.dit_min standard.dit_max lo dah_gap_frac dah_gap_frac dah_gap_frac tt tt tt tt i (tt, tt) in
    le_trans_float (mul binary32 lo dah_gap_frac) (mul binary32 standard.dit_max dah_gap_frac) duration_max j.1 tt

pub band_in : (lo : Float) (gaps : List Float) → In standard.dit_min standard.dit_max lo
    → T (all_durations (band standard lo gaps))
band_in lo [] i = tt
band_in lo (g ∷ gs) i = go (in_band standard lo g) refl (band_in lo gs i)
  where
    one_in : in_band standard lo g ≡ true → In duration_min duration_max g
    one_in e =
        let low = mul binary32 lo sixth in
        let high = mul binary32 lo dah_gap_frac in
        let a = both (finite g) (le low g && lt g high) (passed e) in
        let b = both (le low g) (lt g high) a.1 in
        (le_trans_float duration_min low g (floor_in lo i) b.0, le_trans_float g high duration_max (lt→le g high b.1) (roof_in lo i))

    go : (b : Bool) → in_band standard lo g ≡ b → T (all_durations (band standard lo gs))
        → T (all_durations (cond b (g ∷ band standard lo gs) (band standard lo gs)))
    go true e m =
        join (duration g) (all_durations (band standard lo gs)) (outside duration_min duration_max g (one_in e)) m
    go false e m = m

-- ---- the tests, from what the code computed
pub agrees : (l : List Float) (m v : Float) → 2 ≤ length l → m ≡ mean64 l → v ≡ deviation m l → lt v cv_max ≡ agree l
agrees l m v h M W = rw (le-leb 2 (length l) h, W, M)

pub disagrees : (l : List Float) → length l < 2 → false ≡ agree l
disagrees l h = rw (lt-leb 2 (length l) h)
