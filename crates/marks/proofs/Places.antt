-- Marks in the first places of an array. Assumes nothing.
use mathlib.Core.Path.{◌≡◌}
use mathlib.Core.List.{List, [], ◌∷◌, ◌++◌}
use Prim.Native.Nat.{ℕ, ◌+◌, ◌<◌}
use lib.ListN.{length, take, set}
use lib.Seq.{take-suc-set}
use lib.Ieee.{Float}
use native.Mathlib.Numerals.{add-one}
use Rattle.ranges.specs.Interval.{AllIn, In}

-- a store at the count, and the count one more, is an append
pub put_end : {A : Type 0} (l : List A) (n : ℕ) (d : A) → n < length l → take (n + 1) (set l n d) ≡ take n l ++ (d ∷ [])
put_end l n d h = rw add-one (take-suc-set l n d h)

pub append_in : (lo hi : Float) (l : List Float) (d : Float) → AllIn lo hi l → In lo hi d → AllIn lo hi (l ++ (d ∷ []))
unfolding AllIn
append_in lo hi [] d m i = (i, tt)
append_in lo hi (x ∷ xs) d m i = (m.0, append_in lo hi xs d m.1 i)
