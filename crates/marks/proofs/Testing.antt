-- A loop that tests each entry of a list and stops at the first that fails. Assumes nothing.
use mathlib.Core.Path.{◌≡◌, refl, sym, ◌∙◌}
use mathlib.Core.Bool.{Bool, true, false, not, ◌&&◌}
use mathlib.Core.List.{List}
use Prim.Native.Nat.{ℕ, suc, ◌+◌, ◌≤◌, ◌<◌}
use native.Mathlib.Numerals.{add-one}
use native.Mathlib.Omega.{arith}
use lib.ListN.{length, drop, get_or, drop_of_length-le}
use lib.Seq.{drop-cons}
use Rattle.marks.specs.Lists.{all}

-- a test by `!`
pub not_taken : (b : Bool) → not b ≡ true → b ≡ false
not_taken true e = sym e
not_taken false e = refl

pub not_left : (b : Bool) → not b ≡ false → b ≡ true
not_left true e = refl
not_left false e = sym e

module _ {A : Type 0} (p : A → Bool) (l : List A) where
  -- the first i passed
  pub record Testing (i : ℕ) : Type 0 where
    pub upto : i ≤ length l
    pub is : all p l ≡ all p (drop i l)

  pub test_begins : Testing 0
  test_begins = record { upto = omega arith; is = refl }

  next : (i : ℕ) (z : A) (x : Bool) → i < length l → p (get_or l i z) ≡ x
      → all p (drop i l) ≡ (x && all p (drop (suc i) l))
  next i z x h e = rw (drop-cons l i z h, e)

  -- b is what the test of entry i said
  pub test_turns : (i : ℕ) (z : A) (b : Bool) → i < length l → Testing i → b ≡ p (get_or l i z) → not b ≡ false
      → Testing (i + 1)
  test_turns i z b h v e t =
      record { upto = omega arith; is = v.is ∙ next i z true h (sym e ∙ not_left b t) ∙ rw add-one }

  pub test_fails : (i : ℕ) (z : A) (b : Bool) → i < length l → Testing i → b ≡ p (get_or l i z) → not b ≡ true
      → false ≡ all p l
  test_fails i z b h v e t = sym (v.is ∙ next i z false h (sym e ∙ not_taken b t))

  pub test_ends : (i : ℕ) → length l ≤ i → Testing i → true ≡ all p l
  test_ends i h v = sym (v.is ∙ rw (drop_of_length-le l {i = i} h))
