-- The mean of 1 to 12 entries of a range, summed in f64, lies in the range, and so does its nearest f32; the variance about a value of the range is finite and not below zero. Assumes nothing.
use mathlib.Core.Path.{◌≡◌, refl, sym, ap, ◌∙◌, subst}
use mathlib.Core.List.{List, [], ◌∷◌, ◌++◌, map}
use mathlib.Core.Logic.{inl, inr}
use mathlib.Core.Bool.{Bool, true, false, ◌&&◌}
use Prim.Native.Nat.{ℕ, zero, suc, ◌+◌, ◌^◌, ◌≤◌, ◌<◌}
use native.Mathlib.Nat.{le_trans, le_of_suc-le-suc, eq-or-lt_of_le, not-suc-le-zero, suc-add, add-zero, zero-add}
use native.Mathlib.Omega.{arith}
use lib.IntN.{pos}
use lib.Dec.{T, le→leb, lit≤}
use lib.ListN.{length, take, get_or}
use lib.Ieee.{Float, nan, fin, binary64, add, sub, mul, div, neg, le, of_int, of_bits, fits, in_float}
use lib.Ieee.Fits.{and_l, and_r}
use lib.Ieee.Scale.{finite}
use lib.Ieee.Positive.{positive}
use Rattle.ranges.specs.Interval.{In, AllIn}
use Rattle.ranges.specs.Limits.{nought, duration_min, duration_max}
use Rattle.ranges.specs.Mean.{sum_from, mean64, mean_of, square_off, squares_from, variance_about}
use Rattle.ranges.proofs.Interval.{add_in, sub_in, over_in, in_widen, in_finite}
use Rattle.ranges.proofs.Product.{square_in}
use Rattle.ranges.proofs.Narrow.{narrow_between}
pub use Rattle.ranges.proofs.Durations.{duration_number}

-- ---- a test at each number below n
unfoldable upto : ℕ → (ℕ → Bool) → Bool
upto zero p = true
upto (suc n) p = p n && upto n p

upto_at : (p : ℕ → Bool) (n k : ℕ) → T (upto n p) → k < n → T (p k)
unfolding upto
upto_at p zero k t h = absurd (not-suc-le-zero h)
upto_at p (suc n) k t h = elim (eq-or-lt_of_le (le_of_suc-le-suc h)) [
  | inl e ↦ subst (λ (z : ℕ). T (p z)) (sym e) (and_l (p n) (upto n p) t)
  | inr l ↦ upto_at p n k (and_r (p n) (upto n p) t) l
]

-- ---- n times one value
unfoldable rep : ℕ → Float → Float
unfolding add
rep zero x = nought
rep (suc n) x = add binary64 (rep n x) x

rep_zero : (x : Float) → rep zero x ≡ nought
unfolding rep
rep_zero x = refl

rep_suc : (n : ℕ) (x : Float) → rep (suc n) x ≡ add binary64 (rep n x) x
unfolding rep
rep_suc n x = refl

abbrev sums : Float → Float → ℕ → Bool
sums lo hi n = finite (rep n lo) && finite (rep n hi)

abbrev means : Float → Float → ℕ → Bool
means lo hi n =
    let c = of_int binary64 (pos (suc n)) in
    positive c && (le lo (div binary64 (rep (suc n) lo) c) && le (div binary64 (rep (suc n) hi) c) hi)

-- up to 12 entries from lo to hi have a finite sum, and a mean from lo to hi: tests on the ends alone
record Meaned (lo hi : Float) : Type 0 where
  lo_finite : T (finite lo)
  hi_finite : T (finite hi)
  sums_pass : T (upto 13 (sums lo hi))
  means_pass : T (upto 12 (means lo hi))

zero_in : In nought nought nought
unfolding le
zero_in = (tt, tt)

module _ (lo hi : Float) (M : Meaned lo hi) where
  rep_finite : (i : ℕ) → i ≤ 12 → T (finite (rep i lo)) × T (finite (rep i hi))
  rep_finite i h =
      let t = upto_at (sums lo hi) 13 i M.sums_pass (omega arith) in
      (and_l (finite (rep i lo)) (finite (rep i hi)) t, and_r (finite (rep i lo)) (finite (rep i hi)) t)

  sum_from_in : (xs : List Float) (i : ℕ) (a : Float) → i + length xs ≤ 12 → In (rep i lo) (rep i hi) a → AllIn lo hi xs → In (rep (i + length xs) lo) (rep (i + length xs) hi) (sum_from a xs)
  unfolding sum_from AllIn
  sum_from_in [] i a h j m = rw (add-zero i) j
  sum_from_in (x ∷ xs) i a h j m =
      let F = rep_finite i (omega arith) in
      rw (next i (length xs))
      (sum_from_in xs (suc i) (add binary64 a x) (omega arith)
      (rw (rep_suc i lo, rep_suc i hi) (add_in binary64 (rep i lo) (rep i hi) a F.0 F.1 j lo hi x M.lo_finite M.hi_finite m.0))
      m.1)
    where
      next : (i n : ℕ) → i + suc n ≡ suc i + n
      next i n = omega arith

  sum_in : (xs : List Float) → length xs ≤ 12 → AllIn lo hi xs → In (rep (length xs) lo) (rep (length xs) hi) (sum_from nought xs)
  sum_in xs h m = rw (sym (zero-add (length xs))) (sum_from_in xs 0 nought (omega arith) (rw (rep_zero lo, rep_zero hi) zero_in) m)

  sum_finite : (xs : List Float) → length xs ≤ 12 → AllIn lo hi xs → T (finite (sum_from nought xs))
  sum_finite xs h m =
      let F = rep_finite (length xs) h in
      in_finite (rep (length xs) lo) (rep (length xs) hi) (sum_from nought xs) F.0 F.1 (sum_in xs h m)

  mean_in : (xs : List Float) → 0 < length xs → length xs ≤ 12 → AllIn lo hi xs → In lo hi (mean64 xs)
  mean_in [] p h m = absurd (not-suc-le-zero p)
  mean_in (x ∷ xs) p h m =
      let n = length xs in
      let c = of_int binary64 (pos (suc n)) in
      let a = div binary64 (rep (suc n) lo) c in
      let b = div binary64 (rep (suc n) hi) c in
      let t = upto_at (means lo hi) 12 n M.means_pass h in
      let u = and_r (positive c) (le lo a && le b hi) t in
      let F = rep_finite (suc n) h in
      in_widen a b lo hi (mean64 (x ∷ xs)) (and_l (le lo a) (le b hi) u) (and_r (le lo a) (le b hi) u)
      (over_in binary64 (rep (suc n) lo) (rep (suc n) hi) (sum_from nought (x ∷ xs)) F.0 F.1 (sum_in (x ∷ xs) h m) c (and_l (positive c) (le lo a && le b hi) t))

-- ---- durations
durations : Meaned duration_min duration_max
unfolding upto rep of_bits of_int div le
durations = record { lo_finite = tt; hi_finite = tt; sums_pass = tt; means_pass = tt }

-- 1 to 12 durations have a sum that is finite, and a mean that is a duration, in f64 and as an f32
pub duration_sum_finite : (xs : List Float) → length xs ≤ 12 → AllIn duration_min duration_max xs → T (finite (sum_from nought xs))
duration_sum_finite = sum_finite duration_min duration_max durations

pub duration_mean64_in : (xs : List Float) → 0 < length xs → length xs ≤ 12 → AllIn duration_min duration_max xs → In duration_min duration_max (mean64 xs)
duration_mean64_in = mean_in duration_min duration_max durations

pub duration_mean_in : (xs : List Float) → 0 < length xs → length xs ≤ 12 → AllIn duration_min duration_max xs → In duration_min duration_max (mean_of xs)
unfolding of_bits fits
duration_mean_in xs p h m = narrow_between duration_min duration_max (mean64 xs) tt tt tt tt (duration_mean64_in xs p h m)

-- ---- their variance about a duration: from 0 to 2 ^ 36
abbrev pub variance_max : Float
variance_max = fin false 1 (pos 36)

squares : Meaned nought variance_max
unfolding upto rep of_int div le
squares = record { lo_finite = tt; hi_finite = tt; sums_pass = tt; means_pass = tt }

pub duration_square_in : (m x : Float) → In duration_min duration_max m → In duration_min duration_max x → In nought variance_max (square_off m x)
unfolding of_bits sub mul le neg
duration_square_in m x i j =
    let b = duration_max in
    let d = sub_in binary64 duration_min duration_max x tt tt j duration_min duration_max m tt tt i in
    square_in binary64 b (sub binary64 x m) tt (in_widen (sub binary64 duration_min duration_max) (sub binary64 duration_max duration_min) (neg b) b (sub binary64 x m) tt tt d)

squares_are : (m a : Float) (xs : List Float) → squares_from m a xs ≡ sum_from a (map (square_off m) xs)
unfolding squares_from sum_from
squares_are m a [] = refl
squares_are m a (x ∷ xs) = squares_are m (add binary64 a (square_off m x)) xs

squares_many : (m : Float) (xs : List Float) → length (map (square_off m) xs) ≡ length xs
squares_many m [] = refl
squares_many m (x ∷ xs) = ap suc (squares_many m xs)

squares_in : (m : Float) (xs : List Float) → In duration_min duration_max m → AllIn duration_min duration_max xs → AllIn nought variance_max (map (square_off m) xs)
unfolding AllIn
squares_in m [] i j = tt
squares_in m (x ∷ xs) i j = (duration_square_in m x i j.0, squares_in m xs i j.1)

pub duration_squares_finite : (m : Float) (xs : List Float) → In duration_min duration_max m → length xs ≤ 12 → AllIn duration_min duration_max xs → T (finite (squares_from m nought xs))
duration_squares_finite m xs i h j =
    rw (squares_are m nought xs) (sum_finite nought variance_max squares (map (square_off m) xs) (rw (squares_many m xs) h) (squares_in m xs i j))

pub duration_variance_in : (m : Float) (xs : List Float) → In duration_min duration_max m → 0 < length xs → length xs ≤ 12 → AllIn duration_min duration_max xs → In nought variance_max (variance_about m xs)
duration_variance_in m xs i p h j =
    rw (squares_are m nought xs, sym (squares_many m xs))
    (mean_in nought variance_max squares (map (square_off m) xs) (rw (squares_many m xs) p) (rw (squares_many m xs) h) (squares_in m xs i j))

-- ---- a loop that adds entry by entry
pub sum_start : of_bits binary64 0 ≡ nought
unfolding of_bits
sum_start = refl

pub sum_snoc : (a : Float) (xs : List Float) (x : Float) → sum_from a (xs ++ (x ∷ [])) ≡ add binary64 (sum_from a xs) x
unfolding sum_from
sum_snoc a [] x = refl
sum_snoc a (y ∷ xs) x = sum_snoc (add binary64 a y) xs x

pub squares_snoc : (m a : Float) (xs : List Float) (x : Float) → squares_from m a (xs ++ (x ∷ [])) ≡ add binary64 (squares_from m a xs) (square_off m x)
unfolding squares_from
squares_snoc m a [] x = refl
squares_snoc m a (y ∷ xs) x = squares_snoc m (add binary64 a (square_off m y)) xs x

pub take_next : (xs : List Float) (i : ℕ) → i < length xs → take (i + 1) xs ≡ take i xs ++ (get_or xs i nan ∷ [])
take_next [] i h = absurd (not-suc-le-zero h)
take_next (x ∷ xs) zero h = refl
take_next (x ∷ xs) (suc i) h = ap (λ (n : ℕ). take n (x ∷ xs)) (suc-add i 1) ∙ ap (λ (l : List Float). x ∷ l) (take_next xs i (le_of_suc-le-suc h))

pub sum_next : (a : Float) (xs : List Float) (i : ℕ) → i < length xs → sum_from a (take (i + 1) xs) ≡ add binary64 (sum_from a (take i xs)) (get_or xs i nan)
sum_next a xs i h = ap (sum_from a) (take_next xs i h) ∙ sum_snoc a (take i xs) (get_or xs i nan)

pub squares_next : (m a : Float) (xs : List Float) (i : ℕ) → i < length xs → squares_from m a (take (i + 1) xs) ≡ add binary64 (squares_from m a (take i xs)) (square_off m (get_or xs i nan))
squares_next m a xs i h = ap (squares_from m a) (take_next xs i h) ∙ squares_snoc m a (take i xs) (get_or xs i nan)

-- entry i of a list whose entries lie in a range
pub all_at : (lo hi : Float) (xs : List Float) (i : ℕ) → AllIn lo hi xs → i < length xs → In lo hi (get_or xs i nan)
unfolding AllIn
all_at lo hi [] i m h = absurd (not-suc-le-zero h)
all_at lo hi (x ∷ xs) zero m h = m.0
all_at lo hi (x ∷ xs) (suc i) m h = all_at lo hi xs i m.1 (le_of_suc-le-suc h)

-- the cast of such a count
pub short_in : (n : ℕ) → n ≤ 12 → T (in_float binary64 (pos n))
unfolding in_float
short_in n h = le→leb n (2 ^ 53) (le_trans h (lit≤ tt))
