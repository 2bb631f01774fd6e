-- What a lent slice holds when something was written into it. Definitions only.
use Rattle.std.specs.Prelude.{Bool, List, ◌++◌, ℕ, leb, length, drop}

-- p at the front of l
abbrev pub over : List ℕ → List ℕ → List ℕ
over p l = p ++ drop (length p) l

-- 80 bytes have room for every line (specs/Form: 67 are enough)
abbrev pub roomy : List ℕ → Bool
roomy l = leb 80 (length l)
