-- One text printed after another. Assumes nothing.
use Rattle.std.proofs.Common.{List, ◌++◌, ℕ, Option, Result, Ok, Err, OnOk}
use Rattle.std.specs.Io.KnownBytes.{Appends}
use Rattle.std.proofs.KnownBytes.{Appends-trans}

pub both : {A E : Type 0} (r : Result A E) (c c' c'' : Option (List ℕ)) (a b : List ℕ) → Appends c c' a
    → OnOk r (Appends c' c'' b) → OnOk r (Appends c c'' (a ++ b))
both (Ok x) c c' c'' a b h k = Appends-trans c c' c'' a b h k
both (Err x) c c' c'' a b h k = tt
