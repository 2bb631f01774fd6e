-- Numbers of timing.rs that no profile sets and `ranges` does not name. Definitions only.
use Rattle.std.specs.Prelude.{Float}
use Rattle.std.specs.Float.{binary32, binary64}
use Rattle.std.specs.Float.Ieee.{of_bits}

-- 2.0: where two lengths part into dits and dahs, where a mark re-anchors, and where a gap ends to be an element gap (`CHAR_GAP_DITS`)
abbrev pub two : Float
two = of_bits binary32 0x4000_0000

-- 3.0: three dits are a dah
abbrev pub three : Float
three = of_bits binary32 0x4040_0000

abbrev pub one : Float
one = of_bits binary32 0x3f80_0000

-- 0.57735, `BADLOCK_DAH_GAP_FRAC` and `UNIMODAL_DAH_GAP_MAX_FRAC`
abbrev pub dah_gap_frac : Float
dah_gap_frac = of_bits binary32 0x3f13_cd36

-- 0.35 as f64, `DRIFT_CV_MAX` and `UNIMODAL_DAH_GAP_CV_MAX`
abbrev pub cv_max : Float
cv_max = of_bits binary64 0x3fd6_6666_6666_6666

-- 0.40 as f64, `DRIFT_OFF_FRAC`
abbrev pub off_frac : Float
off_frac = of_bits binary64 0x3fd9_9999_9999_999a
