-- The sorted marks that a lock is made from. Assumes nothing.
use mathlib.Core.Path.{◌≡◌, ◌∙◌}
use mathlib.Core.List.{List, ◌++◌}
use native.Mathlib.Omega.{arith}
use lib.Seq.{take_all, take-append-le}
use lib.ListN.{length, take}
use lib.Ieee.{Float}
use Rattle.marks.specs.Sort.{sorted}
use Rattle.marks.proofs.Cutting.{sorted_long}

-- marks sorted in the first places of an array
pub sorted_front : (l s t : List Float) → s ≡ sorted l → take (length l) (s ++ t) ≡ sorted l
sorted_front l s t e =
    let n = sorted_long l in
    rw e (take-append-le (length l) (sorted l) t (omega arith) ∙ take_all (length l) (sorted l) (omega arith))
