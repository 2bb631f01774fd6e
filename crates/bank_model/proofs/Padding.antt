-- Departures: those that left, and then no one. Assumes nothing.
use Rattle.std.proofs.Common.{
  ◌≡◌,
  ℕ,
  zero,
  suc,
  ◌+◌,
  ◌<◌,
  List,
  [],
  ◌∷◌,
  ◌++◌,
  length,
  take,
  set,
  sym,
  refl,
  ap,
  ◌∙◌,
  add-one,
  arith,
  length-take-le,
  take-suc-set,
}
use Rattle.bank_model.specs.declared.Departure.{Departure}
use Rattle.bank_model.specs.Departures.{most_left, padded, Listed}

pub pad_length : (n : ℕ) (l : List Departure) → length (padded n l) ≡ n
unfolding padded
pad_length zero l = refl
pad_length (suc n) [] = ap suc (pad_length n [])
pad_length (suc n) (d ∷ l) = ap suc (pad_length n l)

-- one more is noted behind those of the list
pad_put : (n : ℕ) (l : List Departure) (d : Departure) → length l < n
    → set (padded n l) (length l) d ≡ padded n (l ++ (d ∷ []))
unfolding padded
pad_put zero l d h = absurd (omega arith)
pad_put (suc n) [] d h = refl
pad_put (suc n) (x ∷ l) d h = ap (λ (r : List Departure). x ∷ r) (pad_put n l d (omega arith))

module _ (left : List Departure) (n : ℕ) (k : Listed left n) where
  pub listed_long : length left ≡ most_left
  listed_long = ap length k.whole ∙ pad_length most_left (take n left)

  -- the count is the number of those that are listed
  pub listed_length : length (take n left) ≡ n
  listed_length = let e = listed_long in let f = k.few in length-take-le n left (omega arith)

  pub one_more : (d : Departure) → n < most_left → Listed (set left n d) (n + 1)
  one_more d h =
      let e = listed_long in
      let m = listed_length in
      let end : take (n + 1) (set left n d) ≡ take n left ++ (d ∷ []) = rw add-one (take-suc-set left n d (omega arith))
      in
      record {
        few = omega arith;
        whole =
            ap (λ (l : List Departure). set l n d) k.whole
            ∙ ap (λ (i : ℕ). set (padded most_left (take n left)) i d) (sym m)
            ∙ pad_put most_left (take n left) d (omega arith) ∙ ap (padded most_left) (sym end);
      }
