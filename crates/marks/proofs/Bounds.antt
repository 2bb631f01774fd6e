-- Tests that hold of each mark of a list, and ranges as tests. Assumes nothing.
use mathlib.Core.Path.{◌≡◌}
use mathlib.Core.Bool.{Bool, true, ◌&&◌}
use mathlib.Core.List.{List, [], ◌∷◌, ◌++◌}
use Prim.Native.Nat.{ℕ, ◌+◌, ◌≤◌, zero, suc, ◌-◌}
use native.Mathlib.Omega.{arith}
use lib.Dec.{T}
use lib.ListN.{length, take, drop, length-append, length-drop}
use lib.Ieee.{Float, le}
use lib.Ieee.Fits.{and_l, and_r, and_i}
use Rattle.ranges.specs.Limits.{duration_min, duration_max}
use Rattle.ranges.specs.Interval.{In, AllIn, within}
use Rattle.marks.specs.Lists.{all, all_durations, duration, pushed}

-- ---- what soundness says

pub both : (a b : Bool) → T (a && b) → T a × T b
both a b t = (and_l a b t, and_r a b t)

pub inside : (lo hi x : Float) → T (within lo hi x) → In lo hi x
inside lo hi x t = both (le lo x) (le x hi) t

pub durations_in : (l : List Float) → T (all_durations l) → AllIn duration_min duration_max l
unfolding AllIn
durations_in [] t = tt
durations_in (x ∷ xs) t =
    let p = both (duration x) (all_durations xs) t in (inside duration_min duration_max x p.0, durations_in xs p.1)

pub join : (a b : Bool) → T a → T b → T (a && b)
join a b s t = and_i a b s t

pub outside : (lo hi x : Float) → In lo hi x → T (within lo hi x)
outside lo hi x i = join (le lo x) (le x hi) i.0 i.1

pub held_durations : (l : List Float) → AllIn duration_min duration_max l → T (all_durations l)
unfolding AllIn
held_durations [] m = tt
held_durations (x ∷ xs) m =
    join (duration x) (all_durations xs) (outside duration_min duration_max x m.0) (held_durations xs m.1)

-- ---- tests of lists
module _ {A : Type 0} (p : A → Bool) where
  pub append_all : (l : List A) (x : A) → T (all p l) → T (p x) → T (all p (l ++ (x ∷ [])))
  append_all [] x t u = join (p x) true u tt
  append_all (y ∷ ys) x t u =
      let b = both (p y) (all p ys) t in join (p y) (all p (ys ++ (x ∷ []))) b.0 (append_all ys x b.1 u)

  pub drop_held : (n : ℕ) (l : List A) → T (all p l) → T (all p (drop n l))
  drop_held zero l t = t
  drop_held (suc n) [] t = tt
  drop_held (suc n) (y ∷ ys) t = drop_held n ys (both (p y) (all p ys) t).1

  pub take_held : (n : ℕ) (l : List A) → T (all p l) → T (all p (take n l))
  take_held zero l t = tt
  take_held (suc n) [] t = tt
  take_held (suc n) (y ∷ ys) t =
      let b = both (p y) (all p ys) t in join (p y) (all p (take n ys)) b.0 (take_held n ys b.1)

  pub pushed_all : (n : ℕ) (l : List A) (x : A) → T (all p l) → T (p x) → T (all p (pushed n l x))
  pushed_all n l x t u = drop_held (length (l ++ (x ∷ [])) - n) (l ++ (x ∷ [])) (append_all l x t u)

  pub none_all : T (all p [])
  none_all = tt

pub pushed_some : {A : Type 0} (n : ℕ) (l : List A) (x : A) → 1 ≤ n → 1 ≤ length (pushed n l x)
pushed_some n l x h =
    let m = l ++ (x ∷ []) in
    let a : length m ≡ length l + 1 = simp length-append in
    let b : length (drop (length m - n) m) ≡ length m - (length m - n) = length-drop (length m - n) m in
    omega arith

pub pushed_most : {A : Type 0} (n : ℕ) (l : List A) (x : A) → length (pushed n l x) ≤ n
pushed_most n l x =
    let m = l ++ (x ∷ []) in
    let b : length (drop (length m - n) m) ≡ length m - (length m - n) = length-drop (length m - n) m in
    omega arith
