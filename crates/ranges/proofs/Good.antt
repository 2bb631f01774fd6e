-- What every good settings record ensures: dit, dah, speed, dit estimate and learning stay in their ranges. Assumes nothing.
use mathlib.Core.Bool.{Bool, true, false, not, ◌&&◌, cond}
use lib.Dec.{T, not_T}
use lib.Ieee.{Float, binary32, add, sub, mul, div, neg, le, lt, is_nan, fits, of_bits}
use lib.Ieee.Scale.{finite}
use lib.Ieee.Positive.{positive, between, positive-finite}
use Rattle.ranges.specs.Interval.{In, within}
use Rattle.ranges.specs.Limits.{nought, duration_min, duration_max, dah_min, dah_max, ideal_ratio, paris, speed_weight, half, bias_cap}
use Rattle.ranges.specs.Settings.{Settings, Good, Limited, ratio_least, ratio_most, ratio_middle, dit_least, dit_most, weight_least, weight_most}
use Rattle.order.specs.Order.{clamp}
use Rattle.ranges.specs.Average.{average}
use Rattle.ranges.proofs.Signed.{le_self, le_neg, le_trans_float, finite_number, neg_finite}
use Rattle.ranges.proofs.Rounded.{sub_number, div_number, scaled_number}
use Rattle.ranges.proofs.Monotone.{div_mono_left, div_anti_right}
use Rattle.ranges.proofs.Interval.{in_finite, in_widen, scale_in, mul_in, div_in, zero_le_positive}
use Rattle.ranges.proofs.Product.{zero_neg}
use Rattle.ranges.proofs.Compare.{lt→le, nlt→le}
use Rattle.ranges.proofs.Clamp.{clamp_in}
use Rattle.ranges.proofs.Halves.{base}
use Rattle.ranges.proofs.Average.{Weight, Data, average_in, average_positive}

-- ---- the speeds of good dits: 4 to 120
abbrev pub speed_least : Float
speed_least = of_bits binary32 0x4080_0000

abbrev pub speed_most : Float
speed_most = of_bits binary32 0x42f0_0000

-- ---- limits
module _ (least most lo hi : Float) (A : T (positive least)) (B : T (positive most)) (L : Limited least most lo hi) where
  lo_up : T (le lo most)
  lo_up = le_trans_float lo hi most (lt→le lo hi L.rising) L.upto

  hi_down : T (le least hi)
  hi_down = le_trans_float least lo hi L.from (lt→le lo hi L.rising)

  limit_lo : T (positive lo)
  limit_lo = between least lo most A B L.from lo_up

  limit_hi : T (positive hi)
  limit_hi = between least hi most A B hi_down L.upto

  limited_wide : (x : Float) → In lo hi x → In least most x
  limited_wide x i = in_widen lo hi least most x L.from L.upto i

  limited_clamp : (x : Float) → T (not (is_nan x)) → In lo hi (clamp lo hi x)
  limited_clamp x n =
      let P = positive-finite lo limit_lo in
      let Q = positive-finite hi limit_hi in
      clamp_in lo hi x (finite_number lo P) (finite_number hi Q) n (le_self lo P) (le_self hi Q) (lt→le lo hi L.rising)

-- 3.0 lies between limits of which one is at most, one at least the middle
ideal_wide : (lo hi : Float) → T (le lo ratio_middle) → T (le ratio_middle hi) → In lo hi ideal_ratio
unfolding le of_bits
ideal_wide lo hi p q = (le_trans_float lo ratio_middle ideal_ratio p tt, le_trans_float ideal_ratio ratio_middle hi tt q)

ratio_ends : T (positive ratio_least) × T (positive ratio_most)
unfolding of_bits
ratio_ends = (tt, tt)

dit_ends : T (positive dit_least) × T (positive dit_most)
unfolding of_bits
dit_ends = (tt, tt)

-- ---- the widest limits are enough for the dah
new_dah : (d h : Float) → In dit_least dit_most d → In ratio_least ratio_most h → In dah_min dah_max (mul binary32 h d)
unfolding le of_bits mul
new_dah d h i j = in_widen (mul binary32 ratio_least dit_least) (mul binary32 ratio_most dit_most) dah_min dah_max (mul binary32 h d) tt tt (mul_in binary32 ratio_least ratio_most h dit_least dit_most d tt tt tt tt j i)

old_dah : (d x : Float) → In dit_least dit_most d → T (finite x) → In ratio_least ratio_most (div binary32 x d) → In dah_min dah_max x
unfolding le of_bits div is_nan
old_dah d x i p r =
    let D : T (positive d) = between dit_least d dit_most tt tt i.0 i.1 in
    let q = div binary32 x d in
    let low : T (lt x dah_min) → ⊥ = λ h.
    le_trans_float ratio_least q (div binary32 dah_min dit_least) r.0
    (le_trans_float q (div binary32 dah_min d) (div binary32 dah_min dit_least) (div_mono_left binary32 x dah_min d p tt D (lt→le x dah_min h)) (div_anti_right binary32 dah_min dit_least d tt tt D i.0)) in
    let high : T (lt dah_max x) → ⊥ = λ h.
    le_trans_float (div binary32 dah_max dit_most) q ratio_most
    (le_trans_float (div binary32 dah_max dit_most) (div binary32 dah_max d) q (div_anti_right binary32 dah_max d dit_most tt D tt i.1) (div_mono_left binary32 dah_max x d tt p D (lt→le dah_max x h)))
    r.1 in
    (nlt→le x dah_min (finite_number x p) tt (not_T (lt x dah_min) low), nlt→le dah_max x tt (finite_number x p) (not_T (lt dah_max x) high))

-- dit * dah, whose root is the boundary
wide_product : (d h : Float) → In dit_least dit_most d → In dah_min dah_max h → T (positive (mul binary32 d h))
unfolding of_bits mul
wide_product d h i j =
    let k = mul_in binary32 dit_least dit_most d dah_min dah_max h tt tt tt tt i j in
    between (mul binary32 dit_least dah_min) (mul binary32 d h) (mul binary32 dit_most dah_max) tt tt k.0 k.1

-- 1200 / dit
wide_speed : (d : Float) → In dit_least dit_most d → In speed_least speed_most (div binary32 paris d)
unfolding le of_bits div
wide_speed d i = div_in binary32 paris paris paris dit_least dit_most d tt tt tt tt (tt, tt) i

-- ---- data of the averages
pub duration_data : Data binary32 duration_min duration_max
unfolding le of_bits mul add sub
duration_data = record { least = tt; grained = tt; most = tt; plain = tt; step = tt; top = tt }

pub speed_data : Data binary32 speed_least speed_most
unfolding le of_bits mul add sub
speed_data = record { least = tt; grained = tt; most = tt; plain = tt; step = tt; top = tt }

pub speed_weight_law : Weight speed_weight
unfolding le of_bits
speed_weight_law = record { above = tt; most = tt }

-- the speed's average is finite and above zero, from any start that is
pub speed_average_positive : (g v : Float) → T (fits binary32 g) → T (positive g) → In speed_least speed_most v → T (positive (average binary32 speed_weight g v))
speed_average_positive g v F p i = average_positive binary32 speed_weight g v speed_least speed_most speed_weight_law speed_data F p i

-- a range inside the durations
abbrev Inner : Float → Float → Type 0
Inner lo hi = T (le duration_min lo) × T (le hi duration_max)

-- a value of such a range, moved towards a duration, is a duration
learned : (w lo hi g v : Float) → Weight w → Inner lo hi → T (fits binary32 g) → T (fits binary32 v) → In lo hi g → In duration_min duration_max v → In duration_min duration_max (average binary32 w g v)
unfolding le of_bits
learned w lo hi g v W r F E i j =
    let k = in_widen lo hi duration_min duration_max g r.0 r.1 i in
    average_in binary32 w g v W F E (between duration_min g duration_max tt tt k.0 k.1) (between duration_min v duration_max tt tt j.0 j.1) (le_trans_float base duration_min g tt k.0) (le_trans_float base duration_min v tt j.0) duration_min duration_max k j

dit_inner : Inner dit_least dit_most
unfolding le of_bits
dit_inner = (tt, tt)

dah_inner : Inner dah_min dah_max
unfolding le of_bits
dah_inner = (tt, tt)

-- the cap 0.35 * dit
cap_positive : (d : Float) → In dit_least dit_most d → T (positive (mul binary32 bias_cap d))
unfolding le of_bits mul
cap_positive d i =
    let k = scale_in binary32 dit_least dit_most d tt tt i bias_cap tt in
    between (mul binary32 bias_cap dit_least) (mul binary32 bias_cap d) (mul binary32 bias_cap dit_most) tt tt k.0 k.1

half_positive : T (positive half)
unfolding of_bits
half_positive = tt

paris_finite : T (finite paris)
unfolding of_bits
paris_finite = tt

weighted : (w : Float) → In weight_least weight_most w → Weight w
unfolding of_bits le
weighted w i = record { above = between weight_least w weight_most tt tt i.0 i.1; most = le_trans_float w weight_most half i.1 tt }

-- x clamped to -c .. c, for a c above zero, is finite
capped_finite : (c x : Float) → T (positive c) → T (not (is_nan x)) → T (finite (clamp (neg c) c x))
capped_finite c x p n =
    let C = positive-finite c p in
    let N = neg_finite c C in
    let z = zero_le_positive c p in
    in_finite (neg c) c (clamp (neg c) c x) N C
    (clamp_in (neg c) c x (finite_number (neg c) N) (finite_number c C) n (le_self (neg c) N) (le_self c C) (le_trans_float (neg c) nought c (neg_below c p) z))
  where
    neg_below : (c : Float) → T (positive c) → T (le (neg c) nought)
    neg_below c p = le_trans_float (neg c) (neg nought) nought (le_neg nought c (zero_le_positive c p)) zero_neg

module _ (s : Settings) (G : Good s) where
  -- ---- dits and ratios
  pub dit_in : (x : Float) → T (not (is_nan x)) → In s.dit_min s.dit_max (clamp s.dit_min s.dit_max x)
  dit_in = limited_clamp dit_least dit_most s.dit_min s.dit_max dit_ends.0 dit_ends.1 G.dit

  pub dit_wide : (d : Float) → In s.dit_min s.dit_max d → In dit_least dit_most d
  dit_wide = limited_wide dit_least dit_most s.dit_min s.dit_max dit_ends.0 dit_ends.1 G.dit

  pub dit_positive : (d : Float) → In s.dit_min s.dit_max d → T (positive d)
  dit_positive d i = let k = dit_wide d i in between dit_least d dit_most dit_ends.0 dit_ends.1 k.0 k.1

  pub hint_in : (x : Float) → T (not (is_nan x)) → In s.ratio_min s.ratio_max (clamp s.ratio_min s.ratio_max x)
  hint_in = limited_clamp ratio_least ratio_most s.ratio_min s.ratio_max ratio_ends.0 ratio_ends.1 G.ratio

  pub ratio_wide : (h : Float) → In s.ratio_min s.ratio_max h → In ratio_least ratio_most h
  ratio_wide = limited_wide ratio_least ratio_most s.ratio_min s.ratio_max ratio_ends.0 ratio_ends.1 G.ratio

  pub ideal_in : In s.ratio_min s.ratio_max ideal_ratio
  ideal_in = ideal_wide s.ratio_min s.ratio_max G.ratio_low G.ratio_high

  -- ---- the dah after the constraints: made anew, kept, or either
  pub dah_anew_in : (d h : Float) → In s.dit_min s.dit_max d → In s.ratio_min s.ratio_max h → In dah_min dah_max (mul binary32 h d)
  dah_anew_in d h i j = new_dah d h (dit_wide d i) (ratio_wide h j)

  pub dah_kept_in : (d x : Float) → In s.dit_min s.dit_max d → T (finite x) → In s.ratio_min s.ratio_max (div binary32 x d) → In dah_min dah_max x
  dah_kept_in d x i p r = old_dah d x (dit_wide d i) p (ratio_wide (div binary32 x d) r)

  pub dah_in : (d x h : Float) → In s.dit_min s.dit_max d → T (finite x) → In s.ratio_min s.ratio_max h
      → In dah_min dah_max (cond (within s.ratio_min s.ratio_max (div binary32 x d)) x (mul binary32 h d))
  dah_in d x h i p j = go (le s.ratio_min (div binary32 x d)) (le (div binary32 x d) s.ratio_max) (λ a b. dah_kept_in d x i p (a, b))
    where
      go : (a b : Bool) → (T a → T b → In dah_min dah_max x) → In dah_min dah_max (cond (a && b) x (mul binary32 h d))
      go true true k = k tt tt
      go true false k = dah_anew_in d h i j
      go false b k = dah_anew_in d h i j

  pub product_positive : (d h : Float) → In s.dit_min s.dit_max d → In dah_min dah_max h → T (positive (mul binary32 d h))
  product_positive d h i j = wide_product d h (dit_wide d i) j

  -- ---- speed and dit estimate
  pub speed_in : (d : Float) → In s.dit_min s.dit_max d → In speed_least speed_most (div binary32 paris d)
  speed_in d i = wide_speed d (dit_wide d i)

  -- the dit of a speed above zero, however small or large
  pub seed_in : (v : Float) → T (positive v) → In s.dit_min s.dit_max (clamp s.dit_min s.dit_max (div binary32 paris v))
  seed_in v p = dit_in (div binary32 paris v) (div_number binary32 paris v paris_finite p)

  -- the dit d, moved by one half of its distance from the gap g, at most by 0.35 d either way, and clamped
  pub estimate_in : (d g : Float) → In s.dit_min s.dit_max d → T (finite g)
      → In s.dit_min s.dit_max (clamp s.dit_min s.dit_max (sub binary32 d (clamp (neg (mul binary32 bias_cap d)) (mul binary32 bias_cap d) (mul binary32 half (sub binary32 d g)))))
  estimate_in d g i q =
      let D = positive-finite d (dit_positive d i) in
      let c = mul binary32 bias_cap d in
      let t = mul binary32 half (sub binary32 d g) in
      let T' = capped_finite c t (cap_positive d (dit_wide d i)) (scaled_number binary32 half (sub binary32 d g) half_positive (sub_number binary32 d g D q)) in
      dit_in (sub binary32 d (clamp (neg c) c t)) (sub_number binary32 d (clamp (neg c) c t) D T')

  -- ---- learning
  pub weight_good : Weight s.weight
  weight_good = weighted s.weight G.weight_in

  -- a dit or a dah that learned a duration is a duration: finite and above zero
  pub dit_learned_in : (g v : Float) → T (fits binary32 g) → T (fits binary32 v) → In s.dit_min s.dit_max g → In duration_min duration_max v → In duration_min duration_max (average binary32 s.weight g v)
  dit_learned_in g v F E i j = learned s.weight dit_least dit_most g v weight_good dit_inner F E (dit_wide g i) j

  pub dah_learned_in : (g v : Float) → T (fits binary32 g) → T (fits binary32 v) → In dah_min dah_max g → In duration_min duration_max v → In duration_min duration_max (average binary32 s.weight g v)
  dah_learned_in g v F E i j = learned s.weight dah_min dah_max g v weight_good dah_inner F E i j

  -- a gap centroid that learned a duration is finite and above zero, whatever it was before
  pub gap_learned_positive : (g v : Float) → T (fits binary32 g) → T (positive g) → In duration_min duration_max v → T (positive (average binary32 s.weight g v))
  gap_learned_positive g v F p i = average_positive binary32 s.weight g v duration_min duration_max weight_good duration_data F p i
