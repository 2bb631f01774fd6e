-- Fields of one byte. Assumes nothing.
use mathlib.Core.Bool.{true, false}
use mathlib.Core.Path.{◌≡◌, refl, ap, ◌∙◌}
use mathlib.Core.List.{List, [], ◌∷◌, ◌++◌}
use Prim.Native.Nat.{ℕ}
use native.Mathlib.Omega.{arith}
use lib.ListN.{length, get_or}
use borrow.Author.Tests.{ne_eqb}
use Rattle.std.specs.Prelude.{Some, None}
use Rattle.line_in.specs.Fields.{field, after_tab}
use Rattle.line_in.specs.Form.{flag}
use Rattle.line_in.proofs.Parting.{Parted}

pub single : (l : List ℕ) → length l ≡ 1 → l ≡ get_or l 0 0 ∷ []
single [] e = absurd (omega arith)
single (b ∷ []) e = refl
single (b ∷ d ∷ l) e = absurd (omega arith)

-- ---- flags

pub off : (l : List ℕ) → length l ≡ 1 → get_or l 0 0 ≡ 48 → flag l ≡ Some false
unfolding flag
off l e h = ap flag (single l e) ∙ rw h

pub on : (l : List ℕ) → length l ≡ 1 → get_or l 0 0 ≡ 49 → flag l ≡ Some true
unfolding flag
on l e h = ap flag (single l e) ∙ rw h

pub neither : (l : List ℕ) → length l ≡ 1 → (get_or l 0 0 ≡ 48 → ⊥) → (get_or l 0 0 ≡ 49 → ⊥) → flag l ≡ None
unfolding flag
neither l e h k = ap flag (single l e) ∙ rw (ne_eqb (get_or l 0 0) 48 h, ne_eqb (get_or l 0 0) 49 k)

-- a field of another length is no flag, and neither is what has a tab
pub unflagged : (l : List ℕ) → (length l ≡ 1 → ⊥) → flag l ≡ None
unfolding flag
unflagged [] n = refl
unflagged (b ∷ []) n = absurd (n refl)
unflagged (b ∷ d ∷ l) n = refl

around : (f a : List ℕ) → flag (f ++ (9 ∷ a)) ≡ None
unfolding flag
around [] [] = refl
around [] (x ∷ a) = refl
around (x ∷ []) a = refl
around (x ∷ y ∷ f) a = refl

pub parted_flag : (l : List ℕ) → Parted l → flag l ≡ None
parted_flag l p = ap flag p.joined ∙ around (field l) (after_tab l)
