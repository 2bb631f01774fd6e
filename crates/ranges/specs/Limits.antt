-- Document 01's numbers that no profile sets, each the nearest f32. Definitions only.
use Rattle.std.specs.Prelude.{false, not, cond, ℕ, pos, Float}
use Rattle.std.specs.Float.{fin, binary32}
use Rattle.std.specs.Float.Ieee.{lt, of_bits}
use Rattle.std.specs.Float.Ieee.Scale.{finite}

-- +0, the same value in both formats
abbrev pub nought : Float
nought = fin false 0 (pos 0)

-- refusals 6 and 7: a duration is from 1/64 to 262144 milliseconds
abbrev pub duration_min : Float
duration_min = of_bits binary32 0x3c80_0000

abbrev pub duration_max : Float
duration_max = of_bits binary32 0x4880_0000

-- refusal 1: a ready tracker's dah is from 16 to 2500
abbrev pub dah_min : Float
dah_min = of_bits binary32 0x4180_0000

abbrev pub dah_max : Float
dah_max = of_bits binary32 0x451c_4000

-- "hint (else 3.0) times dit"
abbrev pub ideal_ratio : Float
ideal_ratio = of_bits binary32 0x4040_0000

-- refusal 1: a score is from -30 to 0; a mark or a gap scores from -3 to 0 and is added to 0.90 times the old score
abbrev pub score_min : Float
score_min = of_bits binary32 0xc1f0_0000

abbrev pub floor : Float
floor = of_bits binary32 0xc040_0000

abbrev pub decay : Float
decay = of_bits binary32 0x3f66_6666

-- refusal 1: the mean of an observed class is from 0.0001 to 13108
abbrev pub class_min : Float
class_min = of_bits binary32 0x38d1_b717

abbrev pub class_max : Float
class_max = of_bits binary32 0x464c_d000

-- the sender statistics keep the weight 0.15 in every profile (02, Req 09)
abbrev pub class_weight : Float
class_weight = of_bits binary32 0x3e19_999a

-- the speed in words a minute is 1200 / dit, and its average has the weight 0.1 (`WPM_ALPHA`)
abbrev pub paris : Float
paris = of_bits binary32 0x4496_0000

abbrev pub speed_weight : Float
speed_weight = of_bits binary32 0x3dcc_cccd

-- the dit estimate corrects by one half of the asymmetry, at most 0.35 of the dit (`DIT_BIAS_CAP_FRAC`)
abbrev pub half : Float
half = of_bits binary32 0x3f00_0000

abbrev pub bias_cap : Float
bias_cap = of_bits binary32 0x3eb3_3333

-- refusals 5, 6 and 7 of a duration, in this order; 0 where none holds
abbrev pub duration_refusal : Float → ℕ
duration_refusal x = cond (not (finite x)) 5 (cond (lt x duration_min) 6 (cond (lt duration_max x) 7 0))
