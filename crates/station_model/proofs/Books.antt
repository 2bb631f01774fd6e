-- How often a serial stands among challengers and among departures, and how many departures have a cause. Assumes nothing.
use mathlib.Core.Path.{◌≡◌, refl, ap, ◌∙◌}
use mathlib.Core.Bool.{Bool, true, false}
use mathlib.Core.List.{List, [], ◌∷◌, ◌++◌, map, Memᴰ}
use mathlib.Core.Option.{Option, none, some}
use Prim.Native.Nat.{ℕ, zero, suc, ◌+◌, ◌≤◌, ◌<◌}
use native.Mathlib.Omega.{arith}
use lib.ListN.{length, set, get_elem?}
use lib.Dec.{ltb, eqb}
use borrow.Author.Tests.{ltb-true, ltb-false, eqb-true, eqb-false, eq-eqb}
use Rattle.bank_model.specs.declared.Cause.{Cause}
use Rattle.bank_model.specs.declared.Cause.TheVariants.{Twin, Outscored, Aged, Replaced, Cleared}
use Rattle.bank_model.specs.declared.Departure.{Departure}
use Rattle.bank_model.specs.Model.{Hyp, following}
use Rattle.bank_model.specs.Steps.{stay_if, leave_if, staying, leaving, gone_cleared}
use Rattle.station_model.specs.Station.{ind, of_cause, is_cause}
use Rattle.station_model.specs.Watch.{among, gone}
use Rattle.station_model.proofs.Lists.{no}

-- ---- the serial after n, where n is below the number that refusal 2 names

pub following_is : (n : ℕ) → n < 4294967295 → following n ≡ suc n
following_is n h = omega arith

pub following_le : (n : ℕ) → following n ≤ suc n
following_le n = omega arith

-- ---- ones and noughts

pub ind_le : (b : Bool) → ind b ≤ 1
ind_le true = omega arith
ind_le false = omega arith

pub ind_true : (b : Bool) → b ≡ true → ind b ≡ 1
ind_true b e = ap ind e

pub ind_false : (b : Bool) → b ≡ false → ind b ≡ 0
ind_false b e = ap ind e

pub ind_eq : (a b : ℕ) → a ≡ b → ind (eqb a b) ≡ 1
ind_eq a b e = ap ind (eq-eqb a b e)

-- the numbers above n are the next and those above it
pub above_next : (n k : ℕ) → ind (ltb n k) ≡ ind (eqb k (suc n)) + ind (ltb (suc n) k)
above_next n k = go (ltb n k) (eqb k (suc n)) (ltb (suc n) k) refl refl refl
  where
    go : (x y z : Bool) → ltb n k ≡ x → eqb k (suc n) ≡ y → ltb (suc n) k ≡ z → ind x ≡ ind y + ind z
    go true true true p q r = absurd (omega (arith, eqb-true k (suc n) q, ltb-true (suc n) k r))
    go true true false p q r = refl
    go true false true p q r = refl
    go true false false p q r = absurd (eqb-false k (suc n) q (omega (arith, ltb-true n k p, ltb-false (suc n) k r)))
    go false true true p q r = absurd (omega (arith, ltb-false n k p, ltb-true (suc n) k r))
    go false true false p q r = absurd (omega (arith, ltb-false n k p, eqb-true k (suc n) q))
    go false false true p q r = absurd (omega (arith, ltb-false n k p, ltb-true (suc n) k r))
    go false false false p q r = refl

pub among_append : (k : ℕ) (l m : List Hyp) → among k (l ++ m) ≡ among k l + among k m
unfolding among
among_append k [] m = omega arith
among_append k (h ∷ l) m = omega (arith, among_append k l m)

pub among_map : (f : Hyp → Hyp) → ((h : Hyp) → (f h).serial ≡ h.serial) → (k : ℕ) (l : List Hyp) → among k (map f l) ≡ among k l
unfolding among
among_map f same k [] = refl
among_map f same k (h ∷ l) = omega (arith, among_map f same k l, ap (λ (n : ℕ). ind (eqb k n)) (same h))

pub among_set : (k : ℕ) (l : List Hyp) (i : ℕ) (h v : Hyp) → get_elem? l i ≡ some v
    → among k (set l i h) + ind (eqb k v.serial) ≡ among k l + ind (eqb k h.serial)
unfolding among
among_set k [] i h v e = no (cc)
among_set k (x ∷ l) zero h v e = let p : x ≡ v = cc in omega (arith, ap (λ (y : Hyp). ind (eqb k y.serial)) p)
among_set k (x ∷ l) (suc i) h v e = omega (arith, among_set k l i h v e)

pub in_among : (h : Hyp) (l : List Hyp) → Memᴰ h l → 1 ≤ among h.serial l
unfolding among
in_among h [] m = elim m [ ]
in_among h (x ∷ l) (Memᴰ.head e) = omega (arith, ind_eq h.serial x.serial (ap (λ (y : Hyp). y.serial) e))
in_among h (x ∷ l) (Memᴰ.tail m) = omega (arith, in_among h l m)

stayed : (k : ℕ) (o : Option Cause) (h : Hyp) (l : List Hyp) (m : List Departure)
    → among k (stay_if o h l) + gone k (leave_if o h m) ≡ ind (eqb k h.serial) + (among k l + gone k m)
unfolding among gone
stayed k none h l m = omega arith
stayed k (some c) h l m = omega arith

pub among_staying : (f : Hyp → Option Cause) (k : ℕ) (l : List Hyp) → among k (staying f l) + gone k (leaving f l) ≡ among k l
unfolding among gone staying leaving
among_staying f k [] = refl
among_staying f k (h ∷ l) = stayed k (f h) h (staying f l) (leaving f l) ∙ ap (λ (n : ℕ). ind (eqb k h.serial) + n) (among_staying f k l)

stayed_length : (o : Option Cause) (h : Hyp) (l : List Hyp) (m : List Departure) → length (stay_if o h l) + length (leave_if o h m) ≡ suc (length l + length m)
stayed_length none h l m = omega arith
stayed_length (some c) h l m = omega arith

pub length_staying : (f : Hyp → Option Cause) (l : List Hyp) → length (staying f l) + length (leaving f l) ≡ length l
unfolding staying leaving
length_staying f [] = refl
length_staying f (h ∷ l) = stayed_length (f h) h (staying f l) (leaving f l) ∙ ap suc (length_staying f l)

pub gone_append : (k : ℕ) (l m : List Departure) → gone k (l ++ m) ≡ gone k l + gone k m
unfolding gone
gone_append k [] m = omega arith
gone_append k (h ∷ l) m = omega (arith, gone_append k l m)

pub gone_cleared_law : (k : ℕ) (l : List Hyp) → gone k (map gone_cleared l) ≡ among k l
unfolding gone among
gone_cleared_law k [] = refl
gone_cleared_law k (h ∷ l) = omega (arith, gone_cleared_law k l)

one_cause : (c : Cause) → ind (is_cause Twin c) + ind (is_cause Outscored c) + ind (is_cause Aged c) + ind (is_cause Replaced c) + ind (is_cause Cleared c) ≡ 1
one_cause Twin = refl
one_cause Outscored = refl
one_cause Aged = refl
one_cause Replaced = refl
one_cause Cleared = refl

-- each departure has one of the five causes
pub by_cause : (l : List Departure) → of_cause Twin l + of_cause Outscored l + of_cause Aged l + of_cause Replaced l + of_cause Cleared l ≡ length l
unfolding of_cause
by_cause [] = refl
by_cause (d ∷ l) = omega (arith, one_cause d.cause, by_cause l)

pub cause_append : (c : Cause) (l m : List Departure) → of_cause c (l ++ m) ≡ of_cause c l + of_cause c m
unfolding of_cause
cause_append c [] m = omega arith
cause_append c (h ∷ l) m = omega (arith, cause_append c l m)
