-- An accepted `observe` leaves sound statistics sound, from every sound start. Assumes nothing.
use mathlib.Core.Path.{◌≡◌, sym, ap, ◌∙◌, subst}
use mathlib.Core.Option.{Option, none, some}
use Prim.Native.Nat.{ℕ, ◌+◌, ◌≤◌, min}
use native.Mathlib.Nat.{le-min}
use native.Mathlib.Omega.{arith}
use lib.Dec.{T}
use lib.Ieee.{Float, binary32, div, sub, le, fits, of_bits}
use lib.Ieee.Fits.{and_i, and_l, and_r}
use Rattle.ranges.specs.Interval.{In, within}
use Rattle.ranges.specs.Limits.{nought, duration_min, duration_max, class_min, class_max}
use Rattle.ranges.proofs.Interval.{in_widen, div_in}
use Rattle.ranges.proofs.Compare.{within_in, in_within}
use Rattle.ranges.proofs.Classes.{class_average_in}
use Rattle.sender.specs.Constants.{dit_min, dit_max, count_max}
use Rattle.sender.specs.Model.{Class, sampled}
use Rattle.sender.specs.Sound.{var_sound, class_sound}
use Rattle.sender.specs.Steps.{dits, counted, mean_next, var_next, observed_class}
use Rattle.sender.proofs.Views.{some_at}
use Rattle.sender.proofs.Variance.{variance_sound}

-- a duration in dits is a sound mean
pub dits_in : (dur dit : Float) → In duration_min duration_max dur → In dit_min dit_max dit → In class_min class_max (dits dur dit)
unfolding div le of_bits
dits_in dur dit i j =
    in_widen (div binary32 duration_min dit_max) (div binary32 duration_max dit_min) class_min class_max (dits dur dit) tt tt (div_in binary32 duration_min duration_max dur dit_min dit_max dit tt tt tt tt i j)

-- ---- what is sound of one class
pub mean_in : (c : Class) → T (class_sound (some c)) → In class_min class_max c.mean
unfolding class_sound
mean_in c h = within_in class_min class_max c.mean (and_l (within class_min class_max c.mean) (var_sound c.var) h)

class_made : (m v : Float) (n : ℕ) → In class_min class_max m → T (var_sound v) → T (class_sound (some (record { mean = m; var = v; n = n })))
unfolding class_sound
class_made m v n i s = and_i (within class_min class_max m) (var_sound v) (in_within class_min class_max m i) s

var_of : (c : Class) → T (class_sound (some c)) → T (var_sound c.var)
unfolding class_sound
var_of c h = and_r (within class_min class_max c.mean) (var_sound c.var) h

-- the first sample, and a later one
pub first_sound : (x : Float) → In class_min class_max x → T (class_sound (some (observed_class none x)))
unfolding observed_class le
first_sound x j = class_made x nought 1 j tt

pub next_sound : (c : Class) (x : Float) → T (fits binary32 c.mean) → T (fits binary32 c.var) → T (fits binary32 x) → T (class_sound (some c)) → In class_min class_max x → T (class_sound (some (observed_class (some c) x)))
unfolding observed_class
next_sound c x M S X h j =
    let i = mean_in c h in
    class_made (mean_next c.mean (sub binary32 x c.mean)) (var_next c.var (sub binary32 x c.mean)) (counted c.n) (class_average_in c.mean x M X i j) (variance_sound c.mean x i j c.var S (var_of c h))

-- ---- counts
pub counted_some : (n : ℕ) → counted n ≡ 0 → ⊥
unfolding counted
counted_some n e = let h : 1 ≤ min (n + 1) count_max = le-min (omega arith) (omega arith) in omega arith

-- ---- a later sample, as the code makes it
module _ (c : Class) (o : Option Class) (x : Float) (e : some c ≡ o) where
  pub next_is : (k : ℕ) → k ≡ counted c.n
      → sampled (mean_next c.mean (sub binary32 x c.mean)) (var_next c.var (sub binary32 x c.mean)) k ≡ some (observed_class o x)
  unfolding observed_class
  next_is k q =
      let m = mean_next c.mean (sub binary32 x c.mean) in
      let v = var_next c.var (sub binary32 x c.mean) in
      ap (sampled m v) q
      ∙ some_at m v (counted c.n) (counted_some c.n)
      ∙ ap (λ (o : Option Class). some (observed_class o x)) e

  pub next_made_sound : T (fits binary32 c.mean) → T (fits binary32 c.var) → T (fits binary32 x)
      → T (class_sound o) → In class_min class_max x → T (class_sound (some (observed_class o x)))
  next_made_sound a b f h j =
      subst (λ (o : Option Class). T (class_sound (some (observed_class o x)))) e
      (next_sound c x a b f (subst (λ (o : Option Class). T (class_sound o)) (sym e) h) j)
