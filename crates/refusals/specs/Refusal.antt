-- The numbers of document 01's refusals, and what a result says of them. Definitions only.
use Rattle.std.specs.Prelude.{cond, ℕ, ◌+◌, ◌-◌, eqb, List, [], ◌∷◌, Result, Ok, Err, slice_index_or}
use Rattle.refusals.specs.declared.Refusal.{Refusal}
use Rattle.refusals.specs.declared.Refusal.TheVariants.{UnsoundState, FullCounts, TooWide, LongList, EndlessDuration, ShortDuration, LongDuration, BadSpeed, BadDit, NoLogarithm, NoRoot, BadLine}

-- "Refusals in checking order", 1 to 12
abbrev pub number : Refusal → ℕ
number UnsoundState = 1
number FullCounts = 2
number TooWide = 3
number LongList = 4
number EndlessDuration = 5
number ShortDuration = 6
number LongDuration = 7
number BadSpeed = 8
number BadDit = 9
number NoLogarithm = 10
number NoRoot = 11
number BadLine = 12

-- the number of the refusal that a result bears; 0 where it bears none
abbrev pub refusal_of : {A : Type 0} → Result A Refusal → ℕ
refusal_of (Ok a) = 0
refusal_of (Err r) = number r

-- "R and the number if refused", in a host's numbers: 128 stands for R
abbrev pub host_code : Refusal → ℕ
host_code r = 128 + number r

-- the code of a call by its refusal's number: 0 where there is no refusal, else 128 and the number
abbrev pub coded : ℕ → ℕ
coded n = cond (eqb n 0) 0 (128 + n)

-- the twelve in their order, and the one of a number; a number that none has is read as the first
abbrev pub twelve : List Refusal
twelve =
    UnsoundState ∷ FullCounts ∷ TooWide ∷ LongList ∷ EndlessDuration ∷ ShortDuration
    ∷ LongDuration ∷ BadSpeed ∷ BadDit ∷ NoLogarithm ∷ NoRoot ∷ BadLine ∷ []

abbrev pub of_number : ℕ → Refusal
of_number n = slice_index_or twelve (n - 1) UnsoundState
