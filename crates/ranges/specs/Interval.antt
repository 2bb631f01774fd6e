-- What it means that a float lies in a range. Definitions only.
use Rattle.std.specs.Prelude.{Bool, ◌&&◌, List, [], ◌∷◌, T, Float}
use Rattle.std.specs.Float.Ieee.{le}

-- x lies from lo up to hi, both ends counted: so none of the three is a NaN ("NaN is outside every range")
abbrev pub In : Float → Float → Float → Type 0
In lo hi x = T (le lo x) × T (le x hi)

-- the same as a test
abbrev pub within : Float → Float → Float → Bool
within lo hi x = le lo x && le x hi

-- every entry of a list lies from lo up to hi
unfoldable pub AllIn : Float → Float → List Float → Type 0
AllIn lo hi [] = Unit {0}
AllIn lo hi (x ∷ xs) = In lo hi x × AllIn lo hi xs
