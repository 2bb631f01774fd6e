-- How far marks or gaps lie apart, and the gaps of a band (the Rust's `resolve_unimodal_bootstrap`, and the sums of `check_drift`). Definitions only.
use Rattle.std.specs.Prelude.{Bool, ◌&&◌, List, leb, length, Float}
use Rattle.std.specs.List.{filter}
use Rattle.std.specs.Float.{binary32, binary64}
use Rattle.std.specs.Float.Ieee.{mul, div, lt, le}
use Rattle.std.specs.Float.Ieee.Scale.{finite}
use Rattle.numbers.specs.Root.{sqrt_of}
use Rattle.ranges.specs.Settings.{Settings}
use Rattle.ranges.specs.Mean.{mean64, variance_about}
use Rattle.marks.specs.Constants.{one, dah_gap_frac, cv_max}

-- standard deviation over mean, of marks (or gaps) and their mean, in f64: "cv"
abbrev pub deviation : Float → List Float → Float
deviation m l = div binary64 (sqrt_of binary64 (variance_about m l)) m

-- ---- the gaps between the marks of an unconfirmed lock (`resolve_unimodal_bootstrap`)

-- finite, and from 1/6 of the dit up to below 0.57735 of it
abbrev pub in_band : Settings → Float → Float → Bool
in_band k lo g =
    finite g && (le (mul binary32 lo (div binary32 one k.ratio_max)) g && lt g (mul binary32 lo dah_gap_frac))

-- those of them that do, in order
abbrev pub band : Settings → Float → List Float → List Float
band k lo gaps = filter (in_band k lo) gaps

-- "the in-range gaps must agree": two at least, with a deviation below 0.35
abbrev pub agree : List Float → Bool
agree l = leb 2 (length l) && lt (deviation (mean64 l) l) cv_max
