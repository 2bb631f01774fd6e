-- The facts of ghost fields have one proof at most.
use Rattle.std.specs.Prelude.{List, [], ◌∷◌, Float}
use Rattle.std.proofs.Props as below
use mathlib.Core.HLevel.{×_prop, Unit-prop}
use Rattle.ranges.specs.Interval.{In, AllIn}

pub In-prop : (lo hi x : Float) → IsProp (In lo hi x)
In-prop lo hi x = Prim.hlevel below.props

pub AllIn-prop : (lo hi : Float) (l : List Float) → IsProp (AllIn lo hi l)
unfolding AllIn
AllIn-prop lo hi [] = Unit-prop
AllIn-prop lo hi (x ∷ xs) = ×_prop (In-prop lo hi x) (AllIn-prop lo hi xs)

pub ruleset props = (AllIn-prop, below.props)
