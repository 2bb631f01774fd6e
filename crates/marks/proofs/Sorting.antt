-- The loops that sort. Assumes nothing.
use mathlib.Core.Path.{◌≡◌, refl, ap, sym, ◌∙◌}
use mathlib.Core.List.{List, [], ◌∷◌, ◌++◌}
use Prim.Native.Nat.{ℕ, zero, suc, ◌+◌, ◌≤◌, ◌<◌}
use native.Mathlib.Numerals.{add-one}
use native.Mathlib.Omega.{arith}
use lib.ListN.{length, take, drop, get_or, set, drop_of_length-le}
use lib.Seq.{drop-cons, take_all, length-take-le}
use lib.Ieee.{Float, nan}
use Rattle.marks.specs.Sort.{lesser, greater, insert, insert_all}

-- ---- one mark put in: the first i places of s are done, and c is carried on

step : (s : List Float) (i : ℕ) (c z : Float) → i < length s
    → let l = set s i (lesser c (get_or s i z)) in
    take i s ++ insert c (drop i s) ≡ take (suc i) l ++ insert (greater c (get_or s i z)) (drop (suc i) l)
unfolding insert
step [] i c z h = absurd (omega arith)
step (y ∷ ys) zero c z h = refl
step (y ∷ ys) (suc i) c z h = ap (λ (r : List Float). y ∷ r) (step ys i c z (omega arith))

pub insert_turns : (s l : List Float) (i : ℕ) (c a b : Float) → i < length s → take i s ++ insert c (drop i s) ≡ l
    → a ≡ lesser c (get_or s i nan) → b ≡ greater c (get_or s i nan)
    → take (i + 1) (set s i a) ++ insert b (drop (i + 1) (set s i a)) ≡ l
insert_turns s l i c a b h e p q = rw (p, q, add-one) (sym (step s i c nan h) ∙ e)

end : (s : List Float) (i : ℕ) (c : Float) → length s ≤ i → s ++ (c ∷ []) ≡ take i s ++ insert c (drop i s)
unfolding insert
end [] zero c h = refl
end [] (suc i) c h = refl
end (y ∷ ys) zero c h = absurd (omega arith)
end (y ∷ ys) (suc i) c h = ap (λ (r : List Float). y ∷ r) (end ys i c (omega arith))

pub insert_ends : (s l : List Float) (i : ℕ) (c : Float) → length s ≤ i → take i s ++ insert c (drop i s) ≡ l
    → s ++ (c ∷ []) ≡ l
insert_ends s l i c h e = end s i c h ∙ e

-- ---- all marks put in, one after another: the first i places are sorted, the others as they were

-- the places up to the one that is stored into, and those after it
upto : (front t : List Float) (x r : Float)
    → take (suc (length front)) (set (front ++ (x ∷ t)) (length front) r) ≡ front ++ (r ∷ [])
upto [] t x r = refl
upto (y ∷ ys) t x r = ap (λ (l : List Float). y ∷ l) (upto ys t x r)

after : (front t : List Float) (x r : Float) → drop (suc (length front)) (set (front ++ (x ∷ t)) (length front) r) ≡ t
after [] t x r = refl
after (y ∷ ys) t x r = after ys t x r

turn : (s front : List Float) (i : ℕ) (r : Float) → i ≡ length front → i < length s
    → let l = set (front ++ drop i s) i r in
    insert_all (take (suc i) l) (drop (suc i) l) ≡ insert_all (front ++ (r ∷ [])) (drop (suc i) s)
turn s front i r n h = rw (drop-cons s i nan h, n, upto, after)

pub sort_turns : (s l front : List Float) (i : ℕ) (r : Float) → i < length s → insert_all (take i s) (drop i s) ≡ l
    → length front ≡ length (take i s) → front ++ (r ∷ []) ≡ insert (get_or s i nan) (take i s)
    → insert_all (take (i + 1) (set (front ++ drop i s) i r)) (drop (i + 1) (set (front ++ drop i s) i r)) ≡ l
unfolding insert_all
sort_turns s l front i r h e n p =
    let m : i ≡ length front = sym (length-take-le i s (omega arith)) ∙ sym n in
    rw add-one (turn s front i r m h ∙ rw p (ap (insert_all (take i s)) (sym (drop-cons s i nan h)) ∙ e))

pub sort_ends : (s l : List Float) (i : ℕ) → length s ≤ i → insert_all (take i s) (drop i s) ≡ l → s ≡ l
unfolding insert_all
sort_ends s l i h e = sym (take_all i s h) ∙ ap (insert_all (take i s)) (sym (drop_of_length-le s {i = i} h)) ∙ e
