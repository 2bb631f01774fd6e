-- Lists of marks: the last n, and what is asked of each. Definitions only.
use Rattle.std.specs.Prelude.{Bool, cond, nat_le, List, [], ◌∷◌, ◌++◌, ℕ, ◌-◌, length, drop, Float}
use Rattle.std.specs.List.{list_all}
use Rattle.ranges.specs.Limits.{duration_min, duration_max}
use Rattle.ranges.specs.Interval.{within}

-- ---- lists of any kind

-- x at the end, and of that the last n: `push_back`, then `pop_front` where there are more than n
abbrev pub pushed : ℕ → {A : Type 0} → List A → A → List A
pushed n l x = let m = l ++ (x ∷ []) in drop (length m - n) m

-- a test holds of each
abbrev pub all : {A : Type 0} → (A → Bool) → List A → Bool
all p l = list_all p l

-- "a held duration that 5 to 7 would refuse": from 1/64 to 262144
abbrev pub duration : Float → Bool
duration x = within duration_min duration_max x

abbrev pub all_durations : List Float → Bool
all_durations l = all duration l

-- refusal 4: "A list of marks or gaps has more than 12 entries"; 0 where it has not
abbrev pub list_refusal : List Float → ℕ
list_refusal l = cond (nat_le (length l) 12) 0 4
