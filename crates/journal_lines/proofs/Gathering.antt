-- The bytes of a line, as they come. Assumes nothing.
use mathlib.Core.Path.{◌≡◌, refl, ap, sym, ◌∙◌}
use mathlib.Core.Bool.{Bool, true, false}
use mathlib.Core.List.{List, [], ◌∷◌, ◌++◌, append-nil, append_assoc}
use Prim.Native.Nat.{ℕ, zero, suc, ◌+◌, ◌-◌, ◌≤◌, ◌<◌}
use native.Mathlib.Omega.{arith}
use borrow.Author.Tests.{ltb-true, ltb-false}
use lib.Dec.{eqb, ltb}
use lib.ListN.{length, take, length-append}
use lib.Seq.{take-nil, take_all}
use Rattle.std.specs.Prelude.{Some, None, cond, position}
use Rattle.std.specs.List.{position_or_len}
use Rattle.journal_lines.specs.Pieces.{hold}
use Rattle.journal_lines.specs.Parts.{Gathers, has_newline, keeps, up_to_newline}

abbrev is_newline : ℕ → Bool
is_newline b = eqb b 10

-- where the first newline is, or the end
abbrev at : List ℕ → ℕ
at l = position_or_len is_newline l

first : (b : ℕ) (l : List ℕ) → is_newline b ≡ true → at (b ∷ l) ≡ 0
first b l e = rw e

later : (b : ℕ) (l : List ℕ) → is_newline b ≡ false → at (b ∷ l) ≡ suc (at l)
later b l e = rw e (omega arith)

-- there is one
record Ended (l : List ℕ) : Type 0 where
  there : has_newline l ≡ true
  many : up_to_newline l ≡ suc (at l)

ended : (l : List ℕ) → at l < length l → Ended l
unfolding has_newline up_to_newline
ended [] h = absurd (omega arith)
ended (b ∷ l) h = go (is_newline b) refl (ended l)
  where
    go : (c : Bool) → is_newline b ≡ c → (at l < length l → Ended l) → Ended (b ∷ l)
    go true e below = record { there = rw e; many = rw e }
    go false e below =
        let r = below (let q = later b l e in omega arith) in
        record { there = rw e r.there; many = rw e (omega (arith, r.many)) }

-- there is none
record Unended (l : List ℕ) : Type 0 where
  none : has_newline l ≡ false
  all : up_to_newline l ≡ length l
  end : at l ≡ length l

unended : (l : List ℕ) → length l ≤ at l → Unended l
unfolding has_newline up_to_newline
unended [] h = record { none = refl; all = refl; end = refl }
unended (b ∷ l) h = go (is_newline b) refl (unended l)
  where
    go : (c : Bool) → is_newline b ≡ c → (length l ≤ at l → Unended l) → Unended (b ∷ l)
    go true e below = absurd (let q = first b l e in omega arith)
    go false e below =
        let r = below (let q = later b l e in omega arith) in
        record { none = rw e r.none; all = rw e (ap suc r.all); end = rw (later b l e) (ap suc r.end) }

-- what is held: as many of the bytes before the newline as there is room for
keeps_first : (h l : List ℕ) → keeps h l ≡ h ++ take (80 - length h) (take (at l) l)
unfolding keeps
keeps_first h [] = rw take-nil (sym (append-nil h))
keeps_first h (b ∷ l) = go (is_newline b) refl (keeps_first (hold h b) l) (ltb (length h) 80) refl
  where
    go : (c : Bool) → is_newline b ≡ c → keeps (hold h b) l ≡ hold h b ++ take (80 - length (hold h b)) (take (at l) l)
        → (d : Bool) → ltb (length h) 80 ≡ d → keeps h (b ∷ l) ≡ h ++ take (80 - length h) (take (at (b ∷ l)) (b ∷ l))
    go true e below d f = rw (e, take-nil) (sym (append-nil h))
    go false e below true f =
        let s : 1 + at l ≡ suc (at l) = omega arith in
        let n : 80 - length h ≡ suc (80 - length (h ++ (b ∷ []))) =
        omega (arith, length-append h (b ∷ []), ltb-true (length h) 80 f) in
        rw (e, s, n) (below ∙ rw f (append_assoc h (b ∷ []) (take (80 - length (h ++ (b ∷ []))) (take (at l) l))))
    go false e below false f =
        let s : 1 + at l ≡ suc (at l) = omega arith in
        let n : 80 - length h ≡ 0 = omega (arith, ltb-false (length h) 80 f) in
        rw (e, s, n) (below ∙ rw (f, n))

-- ---- what is gathered

pub gather_line : (left : ℕ) (h l h' : List ℕ) (n : ℕ) → (left ≡ 0 → ⊥) → position is_newline l ≡ Some n
    → h' ≡ h ++ take (80 - length h) (take n l) → Gathers left h l h' (Some (n + 1))
gather_line zero h l h' n z e k = absurd (z refl)
gather_line (suc m) h l h' n z e k = go (ltb (at l) (length l)) refl e
  where
    go : (c : Bool) → ltb (at l) (length l) ≡ c → cond c (Some (at l)) None ≡ Some n
        → Gathers (suc m) h l h' (Some (n + 1))
    go false f q = cc
    go true f q =
        let i : n ≡ at l = cc in
        let d = ended l (ltb-true (at l) (length l) f) in
        let s : n + 1 ≡ suc (at l) = omega arith in
        record { held = k ∙ rw i (sym (keeps_first h l)); took = rw (d.there, d.many, s) }

pub gather_part : (left : ℕ) (h l h' : List ℕ) → (left ≡ 0 → ⊥) → position is_newline l ≡ None
    → h' ≡ h ++ take (80 - length h) l → Gathers left h l h' None
gather_part zero h l h' z e k = absurd (z refl)
gather_part (suc m) h l h' z e k = go (ltb (at l) (length l)) refl e
  where
    go : (c : Bool) → ltb (at l) (length l) ≡ c → cond c (Some (at l)) None ≡ None → Gathers (suc m) h l h' None
    go true f q = cc
    go false f q =
        let d = unended l (ltb-false (at l) (length l) f) in
        record { held = k ∙ sym (rw (keeps_first h l, take_all (at l) l (omega (arith, d.end)))); took = rw d.none }
