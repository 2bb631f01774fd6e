-- Laws on lists and tests that the other files cite. Assumes nothing.
use mathlib.Core.Path.{◌≡◌, refl}
use mathlib.Core.Logic.{◌⊎◌, inl, inr}
use mathlib.Core.Bool.{Bool, true, false, cond, ◌&&◌, true≢false}
use mathlib.Core.List.Memᴰ
use mathlib.Core.List.{List, [], ◌∷◌, map, Memᴰ}
use mathlib.Core.Option.{some}
use Prim.Native.Nat.{ℕ, zero, suc}
use lib.ListN.{set, get_elem?}
use Rattle.tracker.proofs.Keeping as Keeping

-- both branches of a test, where the goal says what they are
pub by_cond : {A : Type 0} (P : A → Type 0) (b : Bool) {x y : A} → (b ≡ true → P x) → (b ≡ false → P y) → P (cond b x y)
by_cond P b {x} {y} f g = Keeping.by_cond P b x y f g

pub and_true : (a b : Bool) → (a && b) ≡ true → (a ≡ true) × (b ≡ true)
and_true true b e = (refl, e)
and_true false b e = (cc, cc)

pub no : {A : Type 0} → true ≡ false → A
no e = absurd (true≢false e)

module _ {A B : Type 0} (f : A → B) where
  pub in_map : (l : List A) {y : B} → Memᴰ y (map f l) → (x : A) × Memᴰ x l × (y ≡ f x)
  in_map [] m = absurd (Memᴰ.not-nil m)
  in_map (x ∷ l) {y} m = go (λ n. in_map l n) (Memᴰ.cases_cons m)
    where
      go : (Memᴰ y (map f l) → (z : A) × Memᴰ z l × (y ≡ f z)) → (y ≡ f x) ⊎ Memᴰ y (map f l) → (z : A) × Memᴰ z (x ∷ l) × (y ≡ f z)
      go below (inl e) = (x, Memᴰ.head refl, e)
      go below (inr n) = let r = below n in (r.0, Memᴰ.tail r.1, r.2)

module _ {A : Type 0} where
  pub in_set : (l : List A) (i : ℕ) (x : A) {y : A} → Memᴰ y (set l i x) → (y ≡ x) ⊎ Memᴰ y l
  in_set [] i x m = inr m
  in_set (z ∷ l) zero x {y} m = go (Memᴰ.cases_cons m)
    where
      go : (y ≡ x) ⊎ Memᴰ y l → (y ≡ x) ⊎ Memᴰ y (z ∷ l)
      go (inl e) = inl e
      go (inr n) = inr (Memᴰ.tail n)
  in_set (z ∷ l) (suc i) x {y} m = go (λ n. in_set l i x n) (Memᴰ.cases_cons m)
    where
      down : (y ≡ x) ⊎ Memᴰ y l → (y ≡ x) ⊎ Memᴰ y (z ∷ l)
      down (inl e) = inl e
      down (inr n) = inr (Memᴰ.tail n)

      go : (Memᴰ y (set l i x) → (y ≡ x) ⊎ Memᴰ y l) → (y ≡ z) ⊎ Memᴰ y (set l i x) → (y ≡ x) ⊎ Memᴰ y (z ∷ l)
      go below (inl e) = inr (Memᴰ.head e)
      go below (inr n) = down (below n)

  pub in_at : (l : List A) (i : ℕ) (x : A) → get_elem? l i ≡ some x → Memᴰ x l
  in_at [] i x e = no (cc)
  in_at (y ∷ l) zero x e = let p : x ≡ y = cc in Memᴰ.head p
  in_at (y ∷ l) (suc i) x e = Memᴰ.tail (in_at l i x e)
