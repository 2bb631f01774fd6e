-- The first entries of a list carried over, each by a function. Assumes nothing.
use Rattle.std.proofs.Common.{
  ◌≡◌,
  ℕ,
  zero,
  suc,
  ◌+◌,
  ◌≤◌,
  ◌<◌,
  Bool,
  ◌&&◌,
  List,
  [],
  ◌∷◌,
  map,
  min,
  length,
  take,
  get_or,
  set,
  replicate,
  refl,
  ap,
  sym,
  ◌∙◌,
  add-one,
  arith,
}
use Rattle.std.proofs.Math.Nat.{min-eq_left, min-eq_right}
use native.Mathlib.Decide.{dec_le}
use Rattle.marks.specs.Lists.{all}
use Rattle.plain_tracker.specs.Plain.{carried}

module _ {A B : Type 0} (f : A → B) (z : B) where
  -- ---- the loop: the first i are carried over
  pub carry_begins : (l : List A) (n : ℕ) → length l ≡ n → replicate n z ≡ carried f z 0 l
  unfolding carried
  carry_begins [] zero h = refl
  carry_begins [] (suc n) h = absurd (omega arith)
  carry_begins (x ∷ l) zero h = absurd (omega arith)
  carry_begins (x ∷ l) (suc n) h = ap (λ (r : List B). z ∷ r) (carry_begins l n (omega arith))

  put : (l : List A) (i : ℕ) (x : A) → i < length l → set (carried f z i l) i (f (get_or l i x)) ≡ carried f z (suc i) l
  unfolding carried
  put [] i x h = absurd (omega arith)
  put (y ∷ l) zero x h = refl
  put (y ∷ l) (suc i) x h = ap (λ (r : List B). f y ∷ r) (put l i x (omega arith))

  pub carry_turns : (l : List A) (out : List B) (i : ℕ) (y : A) (x : B) → i < length l → out ≡ carried f z i l
      → x ≡ f (get_or l i y) → set out i x ≡ carried f z (i + 1) l
  carry_turns l out i y x h v e = rw (v, e, add-one) (put l i y h)

  -- all of them
  pub carried_all : (l : List A) (n : ℕ) → length l ≤ n → carried f z n l ≡ map f l
  unfolding carried
  carried_all [] n h = refl
  carried_all (x ∷ l) zero h = absurd (omega arith)
  carried_all (x ∷ l) (suc n) h = ap (λ (r : List B). f x ∷ r) (carried_all l n (omega arith))

  -- a count that is cut at the list's length
  pub carry_ends : (l : List A) (n k : ℕ) → length l ≡ k → carried f z (min n k) l ≡ carried f z n l
  carry_ends l n k h = go (dec_le n k)
    where
      go : Dec (n ≤ k) → carried f z (min n k) l ≡ carried f z n l
      go (yes e) = ap (λ (i : ℕ). carried f z i l) (min-eq_left e)
      go (no e) =
          let b : k ≤ n = omega arith in
          ap (λ (i : ℕ). carried f z i l) (min-eq_right b) ∙ carried_all l k (omega arith)
          ∙ sym (carried_all l n (omega arith))

  pub carried_long : (l : List A) (n : ℕ) → length (carried f z n l) ≡ length l
  unfolding carried
  carried_long [] n = refl
  carried_long (x ∷ l) zero = ap suc (carried_long l zero)
  carried_long (x ∷ l) (suc n) = ap suc (carried_long l n)

  -- the first ones
  pub take_carried : (l : List A) (n : ℕ) → take n (carried f z n l) ≡ map f (take n l)
  unfolding carried
  take_carried [] zero = refl
  take_carried [] (suc n) = refl
  take_carried (x ∷ l) zero = refl
  take_carried (x ∷ l) (suc n) = ap (λ (r : List B). f x ∷ r) (take_carried l n)

-- ---- carried twice

-- there and back: what lies within the count, by u
pub carried_back : {A B : Type 0} (f : A → B) (g : B → A) (u : A → A) (z : B) (y : A) → ((x : A) → g (f x) ≡ u x)
    → (n : ℕ) (l : List A) → carried g y n (carried f z n l) ≡ carried u y n l
unfolding carried
carried_back f g u z y e n [] = refl
carried_back f g u z y e zero (x ∷ l) = ap (λ r. y ∷ r) (carried_back f g u z y e zero l)
carried_back f g u z y e (suc n) (x ∷ l) = λ i. e x i ∷ carried_back f g u z y e n l i

-- what lies within the count decides
pub carried_same : {A B : Type 0} (f : A → B) (z : B) (y : A) (n : ℕ) (l : List A)
    → carried f z n (carried (λ x. x) y n l) ≡ carried f z n l
unfolding carried
carried_same f z y n [] = refl
carried_same f z y zero (x ∷ l) = ap (λ r. z ∷ r) (carried_same f z y zero l)
carried_same f z y (suc n) (x ∷ l) = ap (λ r. f x ∷ r) (carried_same f z y n l)

-- also by u, where f takes no note of u
pub carried_by : {A B : Type 0} (f : A → B) (u : A → A) (z : B) (y : A) → ((x : A) → f (u x) ≡ f x)
    → (n : ℕ) (l : List A) → carried f z n (carried u y n l) ≡ carried f z n l
unfolding carried
carried_by f u z y e n [] = refl
carried_by f u z y e zero (x ∷ l) = ap (λ r. z ∷ r) (carried_by f u z y e zero l)
carried_by f u z y e (suc n) (x ∷ l) = λ i. e x i ∷ carried_by f u z y e n l i

pub map_by : {A B : Type 0} (f : A → B) (u : A → A) → ((x : A) → f (u x) ≡ f x) → (l : List A)
    → map f (map u l) ≡ map f l
map_by f u e [] = refl
map_by f u e (x ∷ l) = λ i. e x i ∷ map_by f u e l i

pub all_by : {A : Type 0} (p : A → Bool) (u : A → A) → ((x : A) → p (u x) ≡ p x) → (l : List A)
    → all p (map u l) ≡ all p l
all_by p u e [] = refl
all_by p u e (x ∷ l) = λ i. e x i && all_by p u e l i

-- and is kept
pub take_kept : {A : Type 0} (y : A) (n : ℕ) (l : List A) → take n (carried (λ x. x) y n l) ≡ take n l
unfolding carried
take_kept y zero [] = refl
take_kept y (suc n) [] = refl
take_kept y zero (x ∷ l) = refl
take_kept y (suc n) (x ∷ l) = ap (λ r. x ∷ r) (take_kept y n l)
