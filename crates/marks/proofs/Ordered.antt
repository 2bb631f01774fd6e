-- Sorted marks are in order, and are a rearrangement of the marks. Assumes nothing.
use mathlib.Core.Path.{◌≡◌, refl, ap}
use mathlib.Core.Bool.{Bool, true, false, not, cond}
use mathlib.Core.List.{List, [], ◌∷◌}
use Prim.Native.Nat.{ℕ, ◌+◌}
use native.Mathlib.Omega.{arith}
use lib.Dec.{T}
use lib.Ieee.{Float, lt, le, is_nan}
use Rattle.ranges.proofs.Signed.{le_trans_float}
use Rattle.ranges.proofs.Compare.{lt→le, nlt→le, passed, failed}
use Rattle.marks.specs.Sort.{insert, insert_all, sorted}

by_bool : (P : Bool → Type 0) (b : Bool) → (b ≡ true → P true) → (b ≡ false → P false) → P b
by_bool P true f g = f refl
by_bool P false f g = g refl

-- none is a NaN
unfoldable pub Numbers : List Float → Type 0
Numbers [] = Unit {0}
Numbers (x ∷ xs) = T (not (is_nan x)) × Numbers xs

-- each is at least a
unfoldable pub From : Float → List Float → Type 0
From a [] = Unit {0}
From a (x ∷ xs) = T (le a x) × From a xs

-- each is at most those after it
unfoldable pub Ordered : List Float → Type 0
unfolding From
Ordered [] = Unit {0}
Ordered (x ∷ xs) = From x xs × Ordered xs

from_insert : (a x : Float) (l : List Float) → T (le a x) → From a l → From a (insert x l)
unfolding From insert
from_insert a x [] h m = (h, tt)
from_insert a x (y ∷ ys) h m =
    by_bool (λ (b : Bool). T (le a (cond b y x)) × From a (insert (cond b x y) ys)) (lt y x) (λ e. (m.0, from_insert a x ys h m.1)) (λ e. (h, from_insert a y ys m.0 m.1))

from_less : (a b : Float) (l : List Float) → T (le a b) → From b l → From a l
unfolding From
from_less a b [] h m = tt
from_less a b (x ∷ xs) h m = (le_trans_float a b x h m.0, from_less a b xs h m.1)

numbers_insert : (x : Float) (l : List Float) → T (not (is_nan x)) → Numbers l → Numbers (insert x l)
unfolding Numbers insert
numbers_insert x [] h m = (h, tt)
numbers_insert x (y ∷ ys) h m =
    by_bool (λ (b : Bool). T (not (is_nan (cond b y x))) × Numbers (insert (cond b x y) ys)) (lt y x) (λ e. (m.0, numbers_insert x ys h m.1)) (λ e. (h, numbers_insert y ys m.0 m.1))

insert_ordered : (x : Float) (l : List Float) → T (not (is_nan x)) → Numbers l → Ordered l → Ordered (insert x l)
unfolding Ordered From Numbers insert
insert_ordered x [] h n o = (tt, tt)
insert_ordered x (y ∷ ys) h n o =
    by_bool (λ (b : Bool). From (cond b y x) (insert (cond b x y) ys) × Ordered (insert (cond b x y) ys)) (lt y x)
    (λ e. (from_insert y x ys (lt→le y x (passed e)) o.0, insert_ordered x ys h n.1 o.1))
    (λ e. let k = nlt→le y x n.0 h (failed e) in (from_insert x y ys k (from_less x y ys k o.0), insert_ordered y ys n.0 n.1 o.1))

all_ordered : (s l : List Float) → Numbers s → Numbers l → Ordered s → Ordered (insert_all s l)
unfolding insert_all Numbers
all_ordered s [] n m o = o
all_ordered s (x ∷ xs) n m o = all_ordered (insert x s) xs (numbers_insert x s m.0 n) m.1 (insert_ordered x s m.0 n o)

pub sorted_ordered : (l : List Float) → Numbers l → Ordered (sorted l)
unfolding Ordered Numbers
sorted_ordered l m = all_ordered [] l tt m tt

-- ---- how many pass a test
unfoldable pub tally : (Float → Bool) → List Float → ℕ
tally p [] = 0
tally p (x ∷ xs) = cond (p x) 1 0 + tally p xs

swap : (a b n m : ℕ) → m ≡ a + n → b + m ≡ a + (b + n)
swap a b n m e = omega arith

insert_tally : (p : Float → Bool) (x : Float) (l : List Float) → tally p (insert x l) ≡ cond (p x) 1 0 + tally p l
unfolding tally insert
insert_tally p x [] = refl
insert_tally p x (y ∷ ys) =
    by_bool (λ (b : Bool). cond (p (cond b y x)) 1 0 + tally p (insert (cond b x y) ys) ≡ cond (p x) 1 0 + (cond (p y) 1 0 + tally p ys)) (lt y x)
    (λ e. swap (cond (p x) 1 0) (cond (p y) 1 0) (tally p ys) (tally p (insert x ys)) (insert_tally p x ys)) (λ e. ap (λ (n : ℕ). cond (p x) 1 0 + n) (insert_tally p y ys))

all_tally : (p : Float → Bool) (s l : List Float) → tally p (insert_all s l) ≡ tally p s + tally p l
unfolding tally insert_all
all_tally p s [] = omega arith
all_tally p s (x ∷ xs) = let a = all_tally p (insert x s) xs in let b = insert_tally p x s in omega arith

-- whatever is counted, sorted marks have as many
pub sorted_same : (p : Float → Bool) (l : List Float) → tally p (sorted l) ≡ tally p l
unfolding tally
sorted_same p l = let a = all_tally p [] l in omega arith
