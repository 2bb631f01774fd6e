-- What the parts of the code say. Definitions only.
use Rattle.std.specs.Prelude.{◌≡◌, List, take, drop, Float}
use Rattle.ranges.specs.Mean.{mean_of}
use Rattle.marks.specs.declared.inner.cut.Halves.{Halves}
use Rattle.marks.specs.Sort.{cut}

-- sorted marks, cut
pub record Halved (s : List Float) (r : Halves) : Type 0 where
  pub at : r.cut ≡ cut s
  pub low : r.lo ≡ mean_of (take (cut s) s)
  pub high : r.hi ≡ mean_of (drop (cut s) s)
