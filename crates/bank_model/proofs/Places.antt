-- A place that a search finds is one of the list's. Assumes nothing.
use mathlib.Core.Path.{◌≡◌, subst}
use mathlib.Core.Bool.{Bool, true, false, cond}
use mathlib.Core.List.{List, [], ◌∷◌}
use Prim.Native.Nat.{ℕ, suc, ◌+◌, ◌<◌}
use native.Mathlib.Omega.{arith}
use lib.ListN.{length}
use lib.Ieee.{Float}
use Rattle.std.specs.Prelude.{None, Some}
use Rattle.bank_model.specs.Model.{Hyp}
use Rattle.bank_model.specs.Scores.{below, above}
use Rattle.bank_model.specs.Steps.{Best, Before, lesser, higher, least_from, highest_from}

later : (n m : ℕ) (v : Best) → n < suc m → Before n v → Before m v
later n m None h w = tt
later n m (Some f) h w = omega arith

either : (b : Bool) (n : ℕ) (v w : Best) → Before n v → Before n w → Before n (cond b v w)
either true n v w x y = x
either false n v w x y = y

lesser_before : (i : ℕ) (s : Float) (acc : Best) → Before i acc → Before (suc i) (lesser i s acc)
lesser_before i s None w = omega arith
lesser_before i s (Some f) w = either (below s f.1) (suc i) (Some (i, s)) (Some f) (omega arith) (omega arith)

higher_before : (i : ℕ) (s : Float) (acc : Best) → Before i acc → Before (suc i) (higher i s acc)
higher_before i s None w = omega arith
higher_before i s (Some f) w = either (above s f.1) (suc i) (Some (i, s)) (Some f) (omega arith) (omega arith)

pub least_before : (q : Hyp → Bool) (i : ℕ) (acc : Best) (l : List Hyp) → Before i acc →
    Before (i + length l) (least_from q i acc l)
unfolding least_from
least_before q i acc [] w = later i (i + 0) acc (omega arith) w
least_before q i acc (h ∷ l) w =
    let e : suc i + length l ≡ i + suc (length l) = omega arith in
    subst (λ (n : ℕ). Before n (least_from q (suc i) (cond (q h) (lesser i h.score acc) acc) l)) e
    (least_before q (suc i) (cond (q h) (lesser i h.score acc) acc) l
    (either (q h) (suc i) (lesser i h.score acc) acc (lesser_before i h.score acc w)
    (later i (suc i) acc (omega arith) w)))

pub highest_before : (q : Hyp → Bool) (i : ℕ) (acc : Best) (l : List Hyp) → Before i acc →
    Before (i + length l) (highest_from q i acc l)
unfolding highest_from
highest_before q i acc [] w = later i (i + 0) acc (omega arith) w
highest_before q i acc (h ∷ l) w =
    let e : suc i + length l ≡ i + suc (length l) = omega arith in
    subst (λ (n : ℕ). Before n (highest_from q (suc i) (cond (q h) (higher i h.score acc) acc) l)) e
    (highest_before q (suc i) (cond (q h) (higher i h.score acc) acc) l
    (either (q h) (suc i) (higher i h.score acc) acc (higher_before i h.score acc w)
    (later i (suc i) acc (omega arith) w)))
