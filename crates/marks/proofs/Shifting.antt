-- An array that holds the last n of a list: a store at the count while there is room, else everything moves down by one place. Assumes nothing.
use mathlib.Core.Path.{◌≡◌, ap, sym, ◌∙◌}
use mathlib.Core.List.{List, [], ◌∷◌, ◌++◌, map}
use Prim.Native.Nat.{ℕ, ◌+◌, ◌-◌, ◌≤◌, ◌<◌}
use native.Mathlib.Numerals.{add-one}
use native.Mathlib.Omega.{arith}
use lib.ListN.{length, take, drop, set, length-append, length-drop, length-map}
use lib.Seq.{take-suc-set, length-take-le, take_all, drop-append-le}
use Rattle.marks.specs.Lists.{pushed}

module _ {A : Type 0} where
  -- there is room
  pub push_room : (k : ℕ) (l : List A) (n : ℕ) (d : A) → n < length l → n < k
      → take (n + 1) (set l n d) ≡ pushed k (take n l) d
  push_room k l n d h hk =
      let e : length (take n l ++ (d ∷ [])) - k ≡ 0 = rw (length-append, length-take-le n l (omega arith)) (omega arith) in
      rw add-one (take-suc-set l n d h) ∙ ap (λ (j : ℕ). drop j (take n l ++ (d ∷ []))) (sym e)

  -- there is none
  pub push_full : (k : ℕ) (l s : List A) (n : ℕ) (d : A) → length l ≡ k → n ≡ k → 0 < k → s ≡ drop 1 l ++ (d ∷ [])
      → take n s ≡ pushed k (take n l) d
  push_full k l s n d h e p q =
      let t : take n l ≡ l = take_all n l (omega arith) in
      let j : length (l ++ (d ∷ [])) - k ≡ 1 = rw length-append (omega arith) in
      let g : length (drop 1 l) ≡ length l - 1 = length-drop 1 l in
      let w : length s ≤ n = rw (q, length-append) (omega arith) in
      take_all n s w ∙ q ∙ sym (drop-append-le 1 l (d ∷ []) (omega arith)) ∙ rw (t, j)

-- what owning an array of structs tells of its length stands at a `map` of the list
pub unmapped : {X Y : Type 0} (f : X → Y) (l : List X) (n : ℕ) → length (map f l) ≡ n → length l ≡ n
unmapped f l n h = sym (length-map l f) ∙ h
