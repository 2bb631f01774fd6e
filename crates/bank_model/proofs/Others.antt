-- The marks without the first least. Assumes nothing.
use mathlib.Core.Path.{◌≡◌, refl, ap, sym, ◌∙◌, subst}
use mathlib.Core.Bool.{Bool, true, false, cond}
use mathlib.Core.List.{List, [], ◌∷◌, ◌++◌}
use Prim.Native.Nat.{ℕ, zero, suc, ◌+◌, ◌-◌, ◌≤◌, ◌<◌}
use native.Mathlib.Numerals.{add-one}
use native.Mathlib.Omega.{arith}
use lib.ListN.{length, take, drop, get_or, length-append, length-drop, drop_of_length-le}
use Rattle.std.proofs.Common.{append_assoc, take_all, length-take-le}
use Rattle.std.proofs.lemmas.List.{take-append-le}
use lib.Seq.{drop-cons}
use lib.Ieee.{Float, nan}
use Rattle.order.specs.Order.{total_less}
use Rattle.ranges.specs.Interval.{AllIn}
use Rattle.bank_model.specs.Steps.{first_least, least_place, without}

-- ---- all but one
pub without_length : (k : ℕ) (l : List Float) → k < length l → length (without k l) ≡ length l - 1
unfolding without
without_length k [] h = absurd (omega arith)
without_length zero (x ∷ xs) h = omega arith
without_length (suc k) (x ∷ xs) h = let e = without_length k xs (omega arith) in omega arith

-- those before it and those after it
pub without_parts : (k : ℕ) (l : List Float) → without k l ≡ take k l ++ drop (suc k) l
unfolding without
without_parts zero [] = refl
without_parts (suc k) [] = refl
without_parts zero (x ∷ xs) = refl
without_parts (suc k) (x ∷ xs) = ap (λ (r : List Float). x ∷ r) (without_parts k xs)

-- those before the k-th were copied to the head, in the place of r, and those after it behind them
pub spliced : (l before after r p : List Float) (k : ℕ) → k < length l → before ≡ take k l → after
    ≡ take (length l - (k + 1)) (drop (k + 1) l)
    → take (length l - 1) (take k (before ++ r) ++ (after ++ p)) ≡ without k l
spliced l before after r p k h eb ea =
    let n : length before ≡ k = ap length eb ∙ length-take-le k l (omega arith) in
    let d = length-drop (k + 1) l in
    let ed : after ≡ drop (k + 1) l = ea ∙ take_all (length l - (k + 1)) (drop (k + 1) l) (omega arith) in
    let m = ap length ed in
    let j = length-append before after in
    let head : take k (before ++ r) ≡ before = take-append-le k before r (omega arith) ∙ take_all k before (omega arith)
    in
    let whole : take (length l - 1) (before ++ (after ++ p)) ≡ before ++ after =
    ap (take (length l - 1)) (sym (append_assoc before after p))
    ∙ take-append-le (length l - 1) (before ++ after) p (omega arith)
    ∙ take_all (length l - 1) (before ++ after) (omega arith) in
    ap (λ (x : List Float). take (length l - 1) (x ++ (after ++ p))) head ∙ whole
    ∙ ap (λ (x : List Float). x ++ after) eb ∙ ap (λ (x : List Float). take k l ++ x) (ed ∙ rw add-one)
    ∙ sym (without_parts k l)

pub without_in : (lo hi : Float) (k : ℕ) (l : List Float) → AllIn lo hi l → AllIn lo hi (without k l)
unfolding without AllIn
without_in lo hi k [] a = tt
without_in lo hi zero (x ∷ xs) a = a.1
without_in lo hi (suc k) (x ∷ xs) a = (a.0, without_in lo hi k xs a.1)

-- ---- the first least: the first i were looked at
pub record Seeking (l : List Float) (best : ℕ) (low : Float) (i : ℕ) : Type 0 where
  pub upto : i ≤ length l
  pub is : least_place l ≡ first_least i best low (drop i l)

-- the head is its own least, whatever a test of it says
own_least : (x : Float) (xs : List Float) (b : Bool) → first_least 1 0 x xs ≡ first_least 1 (cond b 0 0) (cond b x x) xs
own_least x xs true = refl
own_least x xs false = refl

pub seek_begins : (l : List Float) → 0 < length l → Seeking l 0 (get_or l 0 nan) 0
unfolding first_least least_place
seek_begins [] h = absurd (omega arith)
seek_begins (x ∷ xs) h = record { upto = omega arith; is = own_least x xs (total_less x x) }

module _ (l : List Float) (best : ℕ) (low : Float) (i : ℕ) (h : i < length l) (k : Seeking l best low i) where
  abbrev x : Float
  x = get_or l i nan

  step : (b : Bool) → total_less x low ≡ b → least_place l
      ≡ first_least (suc i) (cond b i best) (cond b x low) (drop (suc i) l)
  step b e = k.is ∙ ap (first_least i best low) (drop-cons l i nan h) ∙ one
      ∙ ap (λ (z : Bool). first_least (suc i) (cond z i best) (cond z x low) (drop (suc i) l)) e
    where
      one : first_least i best low (x ∷ drop (suc i) l)
          ≡ first_least (suc i) (cond (total_less x low) i best) (cond (total_less x low) x low) (drop (suc i) l)
      one = unfold first_least in refl

  pub seek_finds : total_less x low ≡ true → Seeking l i x (i + 1)
  seek_finds e = record { upto = omega arith; is = rw add-one (step true e) }

  pub seek_passes : total_less x low ≡ false → Seeking l best low (i + 1)
  seek_passes e = record { upto = omega arith; is = rw add-one (step false e) }

pub seek_ends : (l : List Float) (best : ℕ) (low : Float) (i : ℕ) → length l ≤ i → Seeking l best low i → best
    ≡ least_place l
unfolding first_least
seek_ends l best low i h k = sym (k.is ∙ ap (first_least i best low) (drop_of_length-le l {i = i} h))

-- its place is in the list
either_below : (b : Bool) (i j n : ℕ) → i < n → j < n → cond b i j < n
either_below true i j n h k = h
either_below false i j n h k = k

least_below : (i best : ℕ) (low : Float) (l : List Float) → best < i → first_least i best low l < i + length l
unfolding first_least
least_below i best low [] h = omega arith
least_below i best low (x ∷ xs) h =
    let e : suc i + length xs ≡ i + suc (length xs) = omega arith in
    subst (λ (n : ℕ). first_least (suc i) (cond (total_less x low) i best) (cond (total_less x low) x low) xs < n) e
    (least_below (suc i) (cond (total_less x low) i best) (cond (total_less x low) x low) xs
    (either_below (total_less x low) i best (suc i) (omega arith) (omega arith)))

pub least_place_below : (l : List Float) → 0 < length l → least_place l < length l
unfolding least_place
least_place_below [] h = absurd (omega arith)
least_place_below (x ∷ xs) h = let k = least_below 1 0 x xs (omega arith) in omega arith

-- ---- the marks without the first least, where there are three at least
module _ (l rest : List Float) (k : ℕ) (e : k ≡ least_place l) (h : 3 ≤ length l) where
  pub place_below : k < length l
  place_below = subst (λ (n : ℕ). n < length l) (sym e) (least_place_below l (omega arith))

  module _ (r : take (length l - 1) rest ≡ without k l) where
    pub rest_length : length l - 1 ≡ length (take (length l - 1) rest)
    rest_length = sym (ap length r ∙ without_length k l place_below)

    pub rest_good : (lo hi : Float) → length l ≤ 12 → AllIn lo hi l →
        ((1 ≤ length (take (length l - 1) rest)) × (length (take (length l - 1) rest) ≤ 12))
        × (AllIn lo hi (take (length l - 1) rest) × AllIn lo hi [])
    unfolding AllIn
    rest_good lo hi w a = let n = rest_length in
        ((omega arith, omega arith), (subst (AllIn lo hi) (sym r) (without_in lo hi k l a), tt))

    pub rest_is : take (length l - 1) rest ≡ without (least_place l) l
    rest_is = r ∙ ap (λ (n : ℕ). without n l) e
