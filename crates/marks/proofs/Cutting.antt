-- The cut at the first largest neighbour ratio: its loop, and where it lies. Assumes nothing.
use mathlib.Core.Path.{◌≡◌, refl, ap, sym, ◌∙◌}
use mathlib.Core.Bool.{Bool, true, false, cond}
use mathlib.Core.List.{List, [], ◌∷◌}
use Prim.Native.Nat.{ℕ, zero, suc, ◌+◌, ◌-◌, ◌*◌, ◌≤◌, ◌<◌}
use native.Mathlib.Numerals.{add-one}
use native.Mathlib.Omega.{arith}
use lib.Seq.{length-take-le, get_or-take, take_all}
use lib.IntN.{pos}
use lib.Dec.{T}
use lib.ListN.{length, take, drop, get_or, length-drop, drop_of_length-le}
use lib.Ieee.{Float, nan, fin, binary32, div, lt, le, of_bits, fits}
use lib.Ieee.Positive.{positive, den, between, positive-finite}
use Rattle.ranges.specs.Limits.{nought, duration_min, duration_max}
use Rattle.ranges.specs.Interval.{In, AllIn}
use Rattle.ranges.proofs.Signed.{ps, ng, le_trans_float}
use Rattle.ranges.proofs.Rounded.{Rounded, rounded_mono, div_rounded}
use Rattle.ranges.proofs.Own.{own_rounded}
use Rattle.ranges.proofs.Compare.{passed}
use Rattle.ranges.specs.Mean.{mean_of}
use Rattle.marks.specs.Lists.{duration, all_durations}
use Rattle.marks.specs.Parts.{Halved}
use Rattle.marks.specs.Constants.{two}
use Rattle.marks.specs.Sort.{greater, insert, insert_all, sorted, ratios, first_largest, cut, parts}
use Rattle.marks.proofs.Bounds.{drop_held, durations_in, held_durations}

pub ratios_long : (s : List Float) → length (ratios s) ≡ length s - 1
unfolding ratios
ratios_long [] = refl
ratios_long (x ∷ []) = refl
ratios_long (x ∷ y ∷ ys) = let e = ratios_long (y ∷ ys) in omega arith

ratio_next : (s : List Float) (i : ℕ) → suc i < length s
    → drop i (ratios s) ≡ div binary32 (get_or s (suc i) nan) (get_or s i nan) ∷ drop (suc i) (ratios s)
unfolding ratios
ratio_next [] i h = absurd (omega arith)
ratio_next (x ∷ []) i h = absurd (omega arith)
ratio_next (x ∷ y ∷ ys) zero h = refl
ratio_next (x ∷ y ∷ ys) (suc i) h = ratio_next (y ∷ ys) i (omega arith)

-- ---- the loop: the first i ratios are read, the largest of them is top, at best
pub cut_begins : (s : List Float)
    → first_largest 0 0 (of_bits binary32 0) (ratios s) ≡ first_largest 0 0 nought (ratios s)
unfolding of_bits
cut_begins s = refl

turn : (i best : ℕ) (top r : Float) (rs : List Float) (b : Bool) → lt top r ≡ b
    → first_largest i best top (r ∷ rs) ≡ first_largest (suc i) (cond b i best) (cond b r top) rs
unfolding first_largest
turn i best top r rs b e = rw e

abbrev pub ratio : List Float → ℕ → Float
ratio s i = div binary32 (get_or s (i + 1) nan) (get_or s i nan)

opened : (s : List Float) (i best : ℕ) (top : Float) (b : Bool) → i + 1 < length s → lt top (ratio s i) ≡ b
    → first_largest i best top (drop i (ratios s))
    ≡ first_largest (i + 1) (cond b i best) (cond b (ratio s i) top) (drop (i + 1) (ratios s))
opened s i best top b h e =
    let q : ratio s i ≡ div binary32 (get_or s (suc i) nan) (get_or s i nan) = rw add-one in
    let n = ratio_next s i (omega arith) in
    let t = turn i best top _ (drop (suc i) (ratios s)) b (ap (lt top) (sym q) ∙ e) in
    ap (first_largest i best top) n ∙ t ∙ rw (sym q, sym (add-one i))

pub cut_takes : (s : List Float) (l i best : ℕ) (top : Float) → i + 1 < length s
    → first_largest i best top (drop i (ratios s)) ≡ l → lt top (ratio s i) ≡ true
    → first_largest (i + 1) i (ratio s i) (drop (i + 1) (ratios s)) ≡ l
cut_takes s l i best top h v e = sym (opened s i best top true h e) ∙ v

pub cut_leaves : (s : List Float) (l i best : ℕ) (top : Float) → i + 1 < length s
    → first_largest i best top (drop i (ratios s)) ≡ l → lt top (ratio s i) ≡ false
    → first_largest (i + 1) best top (drop (i + 1) (ratios s)) ≡ l
cut_leaves s l i best top h v e = sym (opened s i best top false h e) ∙ v

pub cut_ends : (s : List Float) (l i best : ℕ) (top : Float) → length s ≤ i + 1
    → first_largest i best top (drop i (ratios s)) ≡ l → best ≡ l
unfolding first_largest
cut_ends s l i best top h v =
    let n = ratios_long s in
    ap (first_largest i best top) (sym (drop_of_length-le (ratios s) {i = i} (omega arith))) ∙ v

-- ---- where the cut lies: at least one mark is before it, and one after it

within : (i best : ℕ) (top : Float) (l : List Float) → best < i + length l → first_largest i best top l < i + length l
unfolding first_largest
within i best top [] h = h
within i best top (r ∷ rs) h =
    step (within (suc i) (cond (lt top r) i best) (cond (lt top r) r top) rs (chosen (lt top r)))
  where
    step : {a : ℕ} → a < suc i + length rs → a < i + suc (length rs)
    step q = omega arith

    chosen : (b : Bool) → cond b i best < suc i + length rs
    chosen true = omega arith
    chosen false = omega arith

pub cut_inside : (s : List Float) → 2 ≤ length s → first_largest 0 0 nought (ratios s) + 1 < length s
cut_inside s h =
    let l = ratios_long s in
    let w = within 0 0 nought (ratios s) (omega arith) in
    omega arith

-- what the loop cites
pub ruleset cutting = (cut_begins, cut_takes, cut_leaves, cut_ends, cut_inside)

-- ---- sorted marks are as many, and are the same marks: durations stay durations

insert_long : (x : Float) (l : List Float) → length (insert x l) ≡ suc (length l)
unfolding insert
insert_long x [] = refl
insert_long x (y ∷ ys) = ap suc (insert_long (greater x y) ys)

all_long : (s l : List Float) → length (insert_all s l) ≡ length s + length l
unfolding insert_all
all_long s [] = omega arith
all_long s (x ∷ xs) = let a = all_long (insert x s) xs in let b = insert_long x s in omega arith

pub sorted_long : (l : List Float) → length (sorted l) ≡ length l
sorted_long l = let a = all_long [] l in omega arith

module _ (lo hi : Float) where
  picked : (b : Bool) (x y : Float) → In lo hi x → In lo hi y → In lo hi (cond b x y)
  picked true x y i j = i
  picked false x y i j = j

  insert_in : (x : Float) (l : List Float) → In lo hi x → AllIn lo hi l → AllIn lo hi (insert x l)
  unfolding insert AllIn
  insert_in x [] i m = (i, tt)
  insert_in x (y ∷ ys) i m = (picked (lt y x) y x m.0 i, insert_in (greater x y) ys (picked (lt y x) x y i m.0) m.1)

  all_in : (s l : List Float) → AllIn lo hi s → AllIn lo hi l → AllIn lo hi (insert_all s l)
  unfolding insert_all AllIn
  all_in s [] m n = m
  all_in s (x ∷ xs) m n = all_in (insert x s) xs (insert_in x s n.0 m) n.1

  pub sorted_in : (l : List Float) → AllIn lo hi l → AllIn lo hi (sorted l)
  unfolding AllIn
  sorted_in l m = all_in [] l tt m

  pub take_in : (n : ℕ) (l : List Float) → AllIn lo hi l → AllIn lo hi (take n l)
  unfolding AllIn
  take_in zero l m = tt
  take_in (suc n) [] m = tt
  take_in (suc n) (x ∷ xs) m = (m.0, take_in n xs m.1)

  pub drop_in : (n : ℕ) (l : List Float) → AllIn lo hi l → AllIn lo hi (drop n l)
  unfolding AllIn
  drop_in zero l m = m
  drop_in (suc n) [] m = tt
  drop_in (suc n) (x ∷ xs) m = drop_in n xs m.1

pub sorted_held : (l : List Float) → T (all_durations l) → T (all_durations (sorted l))
sorted_held l m = held_durations (sorted l) (sorted_in duration_min duration_max l (durations_in l m))

-- ---- one mark alone does not part: x / x is at most 1

own_cross : (a b : ℕ) → a * 1 + 0 * a ≤ 1 * a + b * 1
own_cross a b = omega arith

abbrev unit : Float
unit = fin false 1 (pos 0)

unit_rounded : Rounded binary32 unit (ps unit) (ng unit) (den unit)
unfolding fits
unit_rounded = own_rounded binary32 unit tt tt

self_ratio : (x : Float) → T (positive x) → T (le (div binary32 x x) unit)
self_ratio x p =
    rounded_mono binary32 (div binary32 x x) unit _ _ _ _ _ _ (div_rounded binary32 x x (positive-finite x p) p) unit_rounded (own_cross (ps x * den x) (ng x * den x))

below_two : T (le two unit) → ⊥
unfolding le of_bits
below_two h = h

pub parts_two : (s : List Float) → 0 < length s → AllIn duration_min duration_max s → parts s ≡ true → 2 ≤ length s
unfolding AllIn of_bits
parts_two [] h m e = absurd (omega arith)
parts_two (x ∷ []) h m e =
    absurd (below_two (le_trans_float two (div binary32 x x) unit (passed e) (self_ratio x (between duration_min x duration_max tt tt m.0.0 m.0.1))))
parts_two (x ∷ y ∷ ys) h m e = omega arith

-- ---- the first n places of an array, as the code reads them
pub parts_is : (s : List Float) (n : ℕ) → 1 ≤ n → n ≤ length s
    → parts (take n s) ≡ le two (div binary32 (get_or s (n - 1) nan) (get_or s 0 nan))
parts_is s n h l =
    let e : length (take n s) ≡ n = length-take-le n s l in
    rw (e, get_or-take n s (n - 1) nan (omega arith), get_or-take n s 0 nan (omega arith))

pub back_is : (s : List Float) (n : ℕ) → take (length s - n) (drop n s) ≡ drop n s
back_is s n = take_all (length s - n) (drop n s) (let e = length-drop n s in omega arith)

pub back_held : (s : List Float) (n : ℕ) → T (all_durations s) → T (all_durations (take (length s - n) (drop n s)))
back_held s n m = rw (back_is s n) (drop_held duration n s m)

pub halves : (s : List Float) (r : ℕ) (lo hi : Float) → r ≡ first_largest 0 0 nought (ratios s)
    → lo ≡ mean_of (take (r + 1) s) → hi ≡ mean_of (take (length s - (r + 1)) (drop (r + 1) s))
    → Halved s (record { cut = r + 1; lo = lo; hi = hi })
halves s r lo hi e p q =
    let c : r + 1 ≡ cut s = add-one r ∙ ap suc e in
    record {
      at = c;
      low = p ∙ ap (λ (n : ℕ). mean_of (take n s)) c;
      high = q ∙ ap mean_of (back_is s (r + 1)) ∙ ap (λ (n : ℕ). mean_of (drop n s)) c;
    }
