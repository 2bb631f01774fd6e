-- Start marks: one more, and the lock at the fifth. Assumes nothing.
use mathlib.Core.Path.{◌≡◌, ap, ◌∙◌}
use mathlib.Core.List.{List, [], ◌∷◌, ◌++◌}
use Prim.Native.Nat.{ℕ, ◌+◌, ◌<◌}
use native.Mathlib.Omega.{arith}
use lib.ListN.{length, take, set, length-append}
use lib.Dec.{T}
use lib.Ieee.{Float}
use borrow.Author.Tests.{eq-eqb}
use Rattle.ranges.specs.Settings.{Settings}
use Rattle.ranges.specs.Limits.{duration_min, duration_max}
use Rattle.ranges.specs.Interval.{In}
use Rattle.pair.specs.Model.{Pair}
use Rattle.pair.specs.Lock.{initialized, started}
use Rattle.marks.specs.Lists.{duration, all_durations}
use Rattle.marks.proofs.Bounds.{append_all, outside}
use Rattle.marks.proofs.Places.{put_end}

module _ (k : Settings) (p : Pair) (v : Float) where
  many : length (p.init ++ (v ∷ [])) ≡ length p.init + 1
  many = simp length-append

  pub started_locks : (l : List Float) (m : Pair) → length p.init ≡ 4 → l ≡ p.init ++ (v ∷ []) → m ≡ initialized k l
      → m ≡ started k p v
  unfolding started
  started_locks l m h e q =
      let n : length (p.init ++ (v ∷ [])) ≡ 5 = let w = many in omega arith in
      q ∙ ap (initialized k) e ∙ rw (eq-eqb (length (p.init ++ (v ∷ []))) 5 n)

-- the fifth place of an array whose first n places are the marks so far, n being 4
pub fifth : (l : List Float) (n : ℕ) (v : Float) → n ≡ 4 → 4 < length l → take 5 (set l n v) ≡ take n l ++ (v ∷ [])
fifth l n v e h = rw e (put_end l 4 v h)

pub fifth_held : (l : List Float) (n : ℕ) (v : Float) → n ≡ 4 → 4 < length l → T (all_durations (take n l))
    → In duration_min duration_max v → T (all_durations (take 5 (set l n v)))
fifth_held l n v e h m i =
    rw (fifth l n v e h) (append_all duration (take n l) v m (outside duration_min duration_max v i))
