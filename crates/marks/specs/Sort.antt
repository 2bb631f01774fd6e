-- Marks sorted, and cut at the first largest neighbour ratio (document 01, "ClusterPair and SpeedTracker"). Definitions only.
use Rattle.std.specs.Prelude.{Bool, cond, List, [], ◌∷◌, ℕ, suc, ◌-◌, length, get_or, Float}
use Rattle.std.specs.Float.{nan, binary32}
use Rattle.std.specs.Float.Ieee.{div, lt, le}
use Rattle.ranges.specs.Limits.{nought}
use Rattle.marks.specs.Constants.{two}

-- ---- sorted

abbrev pub lesser : Float → Float → Float
lesser x y = cond (lt y x) y x

abbrev pub greater : Float → Float → Float
greater x y = cond (lt y x) x y

-- x put into a sorted list: each place keeps the lesser of what is there and what is carried, and the greater is carried on
unfoldable pub insert : Float → List Float → List Float
insert x [] = x ∷ []
insert x (y ∷ ys) = lesser x y ∷ insert (greater x y) ys

-- the marks of a list put into a sorted one, one after another
unfoldable pub insert_all : List Float → List Float → List Float
insert_all s [] = s
insert_all s (x ∷ xs) = insert_all (insert x s) xs

-- "sort": least first
abbrev pub sorted : List Float → List Float
sorted l = insert_all [] l

-- ---- the cut

-- each neighbour's ratio to the one before it
unfoldable pub ratios : List Float → List Float
ratios [] = []
ratios (x ∷ []) = []
ratios (x ∷ y ∷ ys) = div binary32 y x ∷ ratios (y ∷ ys)

-- The place of the first largest. The list's head has place i; the largest before it is top, at place best.
unfoldable pub first_largest : ℕ → ℕ → Float → List Float → ℕ
first_largest i best top [] = best
first_largest i best top (r ∷ rs) = first_largest (suc i) (cond (lt top r) i best) (cond (lt top r) r top) rs

-- how many of the sorted marks stand before the cut "at the first largest neighbour ratio" (`largest_ratio_split`, and one more)
abbrev pub cut : List Float → ℕ
cut s = suc (first_largest 0 0 nought (ratios s))

-- "largest/smallest is at least 2.0", of sorted marks
abbrev pub parts : List Float → Bool
parts s = le two (div binary32 (get_or s (length s - 1) nan) (get_or s 0 nan))
