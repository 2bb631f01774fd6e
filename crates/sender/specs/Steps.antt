-- What the calls of a sender's statistics do, each operation rounded once, in the Rust's order. Definitions only.
use Rattle.std.specs.Prelude.{Bool, cond, ◌&&◌, ℕ, ◌+◌, min, leb, Float}
use Rattle.std.proofs.Math.Option.{Option, none, some}
use Rattle.std.specs.Float.{binary32}
use Rattle.std.specs.Float.Ieee.{add, sub, mul, div, le, lt}
use Rattle.std.specs.Float.Ieee.Scale.{finite}
use Rattle.order.specs.Order.{clamp, larger}
use Rattle.numbers.specs.Root.{sqrt_of}
use Rattle.ranges.specs.Limits.{nought, class_weight}
use Rattle.sender.specs.declared.TimingClass.{TimingClass}
use Rattle.sender.specs.Constants.{one, nominal_ratio, word_min, word_max, pause_min, pause_times, ratio_count, count_max}
use Rattle.sender.specs.Model.{Class, Timing, at, put}

-- ---- observing

-- "`observe` makes the second from the first": milliseconds over the dit's milliseconds
abbrev pub dits : Float → Float → Float
dits dur dit = div binary32 dur dit

-- "Counts saturate"
unfoldable pub counted : ℕ → ℕ
counted n = min (n + 1) count_max

-- `mean += a*d`
abbrev pub mean_next : Float → Float → Float
mean_next m d = add binary32 m (mul binary32 class_weight d)

-- `var = (1-a)*(var + a*d*d)`
abbrev pub var_next : Float → Float → Float
var_next v d = mul binary32 (sub binary32 one class_weight) (add binary32 v (mul binary32 (mul binary32 class_weight d) d))

-- the Rust's `ClassStats::observe`: the first sample sets mean = x and var = 0, a later one moves both by d = x - mean
unfoldable pub observed_class : Option Class → Float → Class
unfolding counted
observed_class none x = record { mean = x; var = nought; n = 1 }
observed_class (some c) x = record { mean = mean_next c.mean (sub binary32 x c.mean); var = var_next c.var (sub binary32 x c.mean); n = counted c.n }

-- `observe`: only the class that is named changes
unfoldable pub observed : TimingClass → Float → Timing → Timing
unfolding observed_class
observed k x t = put k (some (observed_class (at k t) x)) t

-- ---- reading

-- `mean_dits`
abbrev pub mean_of : Option Class → Option Float
mean_of none = none
mean_of (some c) = some c.mean

-- `dash_dot_ratio`: both classes observed three times, the dot's average above zero, and the quotient finite
abbrev pub enough : Class → Bool
enough c = leb ratio_count c.n

unfoldable pub ratio : Option Class → Option Class → Option Float
ratio (some dot) (some dash) = cond (enough dot && (enough dash && (lt nought dot.mean && finite (div binary32 dash.mean dot.mean)))) (some (div binary32 dash.mean dot.mean)) none
ratio (some dot) none = none
ratio none dash = none

-- `sender_word_dits`: the root of the product of both gaps, or the char gap times the root of 7/3
unfoldable pub boundary : Float → Option Class → Float
boundary cg none = mul binary32 cg (sqrt_of binary32 nominal_ratio)
boundary cg (some w) = sqrt_of binary32 (mul binary32 cg w.mean)

-- and clamped to 3.0 to 12.0, where it is finite
unfoldable pub word_dits : Option Class → Option Class → Option Float
unfolding boundary
word_dits none w = none
word_dits (some c) w = cond (finite (boundary c.mean w)) (some (clamp word_min word_max (boundary c.mean w))) none

-- the average char gap, else 0
unfoldable pub char_gap_or : Timing → Float
char_gap_or t = or t.char_gap
  where
    or : Option Class → Float
    or none = nought
    or (some c) = c.mean

-- `is_pause`: at least the larger of 15.0 and 4.0 times the char gap; "`is_pause` of NaN is no"
unfoldable pub pauses : Float → Timing → Bool
unfolding char_gap_or
pauses x t = le (larger pause_min (mul binary32 pause_times (char_gap_or t))) x
