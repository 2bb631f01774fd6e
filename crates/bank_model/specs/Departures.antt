-- Those that leave in one call: an array and a count. Definitions only.
use Rattle.std.specs.Prelude.{◌≡◌, ℕ, zero, suc, ◌-◌, ◌≤◌, List, [], ◌∷◌, take}
use Rattle.bank_model.specs.declared.Cause.TheVariants.{Cleared}
use Rattle.bank_model.specs.declared.Departure.{Departure}

-- "the widest bank"
abbrev pub widest : ℕ
widest = 8

-- the most that leave in one call: as many as the widest bank has challengers
abbrev pub most_left : ℕ
most_left = widest - 1

-- what stands where no one left
abbrev pub no_one : Departure
no_one = record { serial = 0; cause = Cleared }

-- n places: those of a list, and then no one
unfoldable pub padded : ℕ → List Departure → List Departure
padded zero l = []
padded (suc n) [] = no_one ∷ padded n []
padded (suc n) (d ∷ l) = d ∷ padded n l

-- departures, an array and a count: no one stands beyond the count
pub record Listed (left : List Departure) (n : ℕ) : Type 0 where
  pub few : n ≤ most_left
  pub whole : left ≡ padded most_left (take n left)
