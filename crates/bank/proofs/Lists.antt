-- Loops over the first n places of an array, through a view of its elements: each element sent through a function, a
-- fold, a search. Assumes nothing.
use Rattle.std.proofs.Common.{
  ◌≡◌,
  ℕ,
  zero,
  suc,
  ◌+◌,
  ◌<◌,
  ◌≤◌,
  List,
  [],
  ◌∷◌,
  ◌++◌,
  map,
  length,
  get_or,
  take,
  drop,
  set,
  sym,
  refl,
  ap,
  ◌∙◌,
  add-one,
  arith,
  length-append,
  length-drop,
  drop_of_length-le,
  length-take,
  length-take-le,
  drop-cons,
  get_or-take,
  take-suc-set,
}
use lib.ListN.{length-map, get_or-map}
use lib.Seq.{take-set-lt}
use Rattle.std.specs.List.{AllByRecursion}

-- the first i are f of what they were
unfoldable pub up_to : {A : Type 0} → (A → A) → ℕ → List A → List A
up_to f i l = map f (take i l) ++ drop i l

module _ {A : Type 0} where
  pub all_set : (P : A → Type 0) (n : ℕ) (l : List A) (i : ℕ) (x : A) → P x → AllByRecursion P (take n l) →
      AllByRecursion P (take n (set l i x))
  all_set P zero l i x h a = tt
  all_set P (suc n) [] i x h a = tt
  all_set P (suc n) (y ∷ ys) zero x h a = (h, a.1)
  all_set P (suc n) (y ∷ ys) (suc i) x h a = (a.0, all_set P n ys i x h a.1)

  pub all_at : (P : A → Type 0) (n : ℕ) (l : List A) (i : ℕ) (z : A) → i < n → i < length l →
      AllByRecursion P (take n l) → P (get_or l i z)
  all_at P n [] i z h k a = absurd (omega arith)
  all_at P zero (y ∷ ys) i z h k a = absurd (omega arith)
  all_at P (suc n) (y ∷ ys) zero z h k a = a.0
  all_at P (suc n) (y ∷ ys) (suc i) z h k a = all_at P n ys i z (omega arith) (omega arith) a.1

  pub all_append : (P : A → Type 0) (l : List A) (x : A) → AllByRecursion P l → P x → AllByRecursion P (l ++ (x ∷ []))
  all_append P [] x a h = (h, tt)
  all_append P (y ∷ ys) x a h = (a.0, all_append P ys x a.1 h)

  pub all_none : (P : A → Type 0) → AllByRecursion P []
  all_none P = tt

  length_up_to : (f : A → A) (i : ℕ) (l : List A) → length (up_to f i l) ≡ length l
  unfolding up_to
  length_up_to f i l = simp (length-append, length-map, length-take, length-drop) (omega arith)

  up_to_suc : (f : A → A) (l : List A) (i : ℕ) (z : A) → i < length l →
      set (up_to f i l) i (f (get_or (up_to f i l) i z)) ≡ up_to f (suc i) l
  unfolding up_to
  up_to_suc f [] i z h = absurd (omega arith)
  up_to_suc f (x ∷ xs) zero z h = refl
  up_to_suc f (x ∷ xs) (suc i) z h = ap (λ (r : List A). f x ∷ r) (up_to_suc f xs i z (omega arith))

  up_to_all : (f : A → A) (l : List A) (n : ℕ) → length l ≤ n → up_to f n l ≡ map f l
  unfolding up_to
  up_to_all f [] zero h = refl
  up_to_all f [] (suc n) h = refl
  up_to_all f (x ∷ xs) zero h = absurd (omega arith)
  up_to_all f (x ∷ xs) (suc n) h = ap (λ (r : List A). f x ∷ r) (up_to_all f xs n (omega arith))

  pub up_to_zero : (f : A → A) (l : List A) → up_to f 0 l ≡ l
  unfolding up_to
  up_to_zero f l = refl

  -- a store at the count, and the count one more, is an append
  pub put_at_end : (l : List A) (n : ℕ) (d : A) → n < length l → take (n + 1) (set l n d) ≡ take n l ++ (d ∷ [])
  put_at_end l n d h = rw add-one (take-suc-set l n d h)

  pub append-nil : (l : List A) → l ++ [] ≡ l
  append-nil [] = refl
  append-nil (x ∷ xs) = ap (λ (r : List A). x ∷ r) (append-nil xs)

module _ {C M : Type 0} where
  pub map_set : (v : C → M) (l : List C) (i : ℕ) (x : C) → map v (set l i x) ≡ set (map v l) i (v x)
  map_set v [] i x = refl
  map_set v (y ∷ ys) zero x = refl
  map_set v (y ∷ ys) (suc i) x = ap (λ (r : List M). v y ∷ r) (map_set v ys i x)

  pub map_snoc : (f : C → M) (l : List C) (x : C) → map f (l ++ (x ∷ [])) ≡ map f l ++ (f x ∷ [])
  map_snoc f [] x = refl
  map_snoc f (y ∷ ys) x = ap (λ (r : List M). f y ∷ r) (map_snoc f ys x)

  pub view_length : (v : C → M) (n : ℕ) (l : List C) → n ≤ length l → length (map v (take n l)) ≡ n
  view_length v n l h = length-map (take n l) v ∙ length-take-le n l h

  pub view_at : (v : C → M) (n : ℕ) (l : List C) (i : ℕ) (z : C) → i < n → get_or (map v (take n l)) i (v z)
      ≡ v (get_or l i z)
  view_at v n l i z h = get_or-map v (take n l) i z ∙ ap v (get_or-take n l i z h)

  -- one turn: `cur` is the array, `l` the view of its first n places as the loop began, and `g` what is stored at i
  pub turn : (v : C → M) (f : M → M) (l : List M) (cur : List C) (n i : ℕ) (z g : C) → i < n → n ≤ length cur →
      map v (take n cur) ≡ up_to f i l → v g ≡ f (v (get_or cur i z)) → map v (take n (set cur i g)) ≡ up_to f (i + 1) l
  turn v f l cur n i z g hi hn e eg =
      let s : map v (take n (set cur i g)) ≡ set (map v (take n cur)) i (v g) =
      rw (take-set-lt n cur i g hi) (map_set v (take n cur) i g) in
      let k : f (v (get_or cur i z)) ≡ f (get_or (map v (take n cur)) i (v z)) = ap f (sym (view_at v n cur i z hi)) in
      let len : length l ≡ n = sym (length_up_to f i l) ∙ ap length (sym e) ∙ view_length v n cur hn in
      s ∙ rw (eg, k, e, add-one) (up_to_suc f l i (v z) (omega arith))

  -- at the end
  pub done : (v : C → M) (f : M → M) (l : List M) (cur : List C) (n : ℕ) → n ≤ length cur → map v (take n cur)
      ≡ up_to f n l → map v (take n cur) ≡ map f l
  done v f l cur n hn e =
      let len : length l ≡ n = sym (length_up_to f n l) ∙ ap length (sym e) ∙ view_length v n cur hn in
      e ∙ up_to_all f l n (omega arith)

  -- ---- a fold: `acc` has the first i, and what is left to fold is the rest
  module _ {B R : Type 0} (F : ℕ → B → List M → R) (v : C → M) (l : List C) where
    pub record Folding (acc₀ acc : B) (i : ℕ) : Type 0 where
      pub upto : i ≤ length l
      pub is : F 0 acc₀ (map v l) ≡ F i acc (drop i (map v l))

    pub fold_begins : (acc : B) → Folding acc acc 0
    fold_begins acc = record { upto = omega arith; is = refl }

    rest : (i : ℕ) (z : C) → i < length l → drop i (map v l) ≡ v (get_or l i z) ∷ drop (suc i) (map v l)
    rest i z h =
        let e = length-map l v in
        drop-cons (map v l) i (v z) (omega arith) ∙ ap (λ (x : M). x ∷ drop (suc i) (map v l)) (get_or-map v l i z)

    pub fold_turns : (acc₀ acc acc' : B) (i : ℕ) (z : C) → i < length l → Folding acc₀ acc i →
        ((r : List M) → F i acc (v (get_or l i z) ∷ r) ≡ F (suc i) acc' r) → Folding acc₀ acc' (i + 1)
    fold_turns acc₀ acc acc' i z h w s = record {
      upto = omega arith;
      is = w.is ∙ ap (F i acc) (rest i z h) ∙ s (drop (suc i) (map v l)) ∙ rw add-one;
    }

    pub fold_ends : (acc₀ acc : B) (i : ℕ) → length l ≤ i → Folding acc₀ acc i → F 0 acc₀ (map v l) ≡ F i acc []
    fold_ends acc₀ acc i h w =
        let e = length-map l v in
        w.is ∙ ap (F i acc) (drop_of_length-le (map v l) {i = i} (omega arith))
