-- Document 01's numbers are good settings, so all that `Good` has holds of them. Assumes nothing.
use mathlib.Core.Bool.{not, cond}
use lib.Dec.{T}
use lib.Ieee.{Float, binary32, sub, mul, div, neg, le, lt, is_nan, fits, of_bits}
use lib.Ieee.Scale.{finite}
use lib.Ieee.Positive.{positive}
use Rattle.ranges.specs.Interval.{In, within}
use Rattle.ranges.specs.Limits.{duration_min, duration_max, dah_min, dah_max, ideal_ratio, paris, half, bias_cap}
use Rattle.ranges.specs.Settings.{standard, Good, Held}
use Rattle.order.specs.Order.{clamp}
use Rattle.ranges.specs.Average.{average}
use Rattle.ranges.proofs.Interval.{div_in}
use Rattle.ranges.proofs.Good as G
use Rattle.ranges.proofs.Average.{Weight}

pub standard_good : Good standard
unfolding le lt of_bits
standard_good = record {
  ratio = record { from = tt; upto = tt; rising = tt };
  ratio_low = tt;
  ratio_high = tt;
  dit = record { from = tt; upto = tt; rising = tt };
  weight_in = (tt, tt);
  lead_in = (tt, tt);
  prune_in = (tt, tt);
}

pub standard_held : Held standard
unfolding fits of_bits
standard_held = record { ratio_min_held = tt; ratio_max_held = tt; dit_min_held = tt; dit_max_held = tt; weight_held = tt; lead_held = tt; prune_held = tt }

pub dit_in : (x : Float) → T (not (is_nan x)) → In standard.dit_min standard.dit_max (clamp standard.dit_min standard.dit_max x)
dit_in = G.dit_in standard standard_good

pub dit_positive : (d : Float) → In standard.dit_min standard.dit_max d → T (positive d)
dit_positive = G.dit_positive standard standard_good

pub hint_in : (x : Float) → T (not (is_nan x)) → In standard.ratio_min standard.ratio_max (clamp standard.ratio_min standard.ratio_max x)
hint_in = G.hint_in standard standard_good

pub ideal_in : In standard.ratio_min standard.ratio_max ideal_ratio
ideal_in = G.ideal_in standard standard_good

pub dah_anew_in : (d h : Float) → In standard.dit_min standard.dit_max d → In standard.ratio_min standard.ratio_max h → In dah_min dah_max (mul binary32 h d)
dah_anew_in = G.dah_anew_in standard standard_good

pub dah_kept_in : (d x : Float) → In standard.dit_min standard.dit_max d → T (finite x) → In standard.ratio_min standard.ratio_max (div binary32 x d) → In dah_min dah_max x
dah_kept_in = G.dah_kept_in standard standard_good

pub dah_in : (d x h : Float) → In standard.dit_min standard.dit_max d → T (finite x) → In standard.ratio_min standard.ratio_max h
    → In dah_min dah_max (cond (within standard.ratio_min standard.ratio_max (div binary32 x d)) x (mul binary32 h d))
dah_in = G.dah_in standard standard_good

pub product_positive : (d h : Float) → In standard.dit_min standard.dit_max d → In dah_min dah_max h → T (positive (mul binary32 d h))
product_positive = G.product_positive standard standard_good

pub seed_in : (v : Float) → T (positive v) → In standard.dit_min standard.dit_max (clamp standard.dit_min standard.dit_max (div binary32 paris v))
seed_in = G.seed_in standard standard_good

pub estimate_in : (d g : Float) → In standard.dit_min standard.dit_max d → T (finite g)
    → In standard.dit_min standard.dit_max (clamp standard.dit_min standard.dit_max (sub binary32 d (clamp (neg (mul binary32 bias_cap d)) (mul binary32 bias_cap d) (mul binary32 half (sub binary32 d g)))))
estimate_in = G.estimate_in standard standard_good

pub weight_good : Weight standard.weight
weight_good = G.weight_good standard standard_good

pub dit_learned_in : (g v : Float) → T (fits binary32 g) → T (fits binary32 v) → In standard.dit_min standard.dit_max g → In duration_min duration_max v → In duration_min duration_max (average binary32 standard.weight g v)
dit_learned_in = G.dit_learned_in standard standard_good

pub dah_learned_in : (g v : Float) → T (fits binary32 g) → T (fits binary32 v) → In dah_min dah_max g → In duration_min duration_max v → In duration_min duration_max (average binary32 standard.weight g v)
dah_learned_in = G.dah_learned_in standard standard_good

pub gap_learned_positive : (g v : Float) → T (fits binary32 g) → T (positive g) → In duration_min duration_max v → T (positive (average binary32 standard.weight g v))
gap_learned_positive = G.gap_learned_positive standard standard_good

-- the speed is from 8 to 60
abbrev pub speed_min : Float
speed_min = of_bits binary32 0x4100_0000

abbrev pub speed_max : Float
speed_max = of_bits binary32 0x4270_0000

pub speed_in : (d : Float) → In standard.dit_min standard.dit_max d → In speed_min speed_max (div binary32 paris d)
unfolding le of_bits div
speed_in d i = div_in binary32 paris paris paris standard.dit_min standard.dit_max d tt tt tt tt (tt, tt) i
