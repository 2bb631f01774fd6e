-- What a line says, from its first field and what follows the tab. Assumes nothing.
use mathlib.Core.Bool.{Bool, true, false}
use mathlib.Core.Path.{◌≡◌, refl, sym, ap, ◌∙◌}
use mathlib.Core.List.{List, [], ◌∷◌}
use mathlib.Core.Logic.{◌⊎◌, inl, inr}
use Prim.Native.Nat.{ℕ, ◌-◌, ◌≤◌, ◌<◌}
use native.Mathlib.Omega.{arith}
use lib.ListN.{length, take, drop, get_or}
use lib.Seq.{take_all}
use borrow.Author.Tests.{eqb-true, lt-ltb, le-ltb}
use Rattle.std.specs.Prelude.{Option, Some, None, cond}
use Rattle.line_in.specs.Fields.{is_tab, field, after_tab, fields}
use Rattle.line_in.specs.Form.{number, flag, one, two, numbered, flagged, said, entry}
use Rattle.line_in.proofs.Parting.{Lone, Parted, parting, parted, lone, field_within, before_tab}
use Rattle.line_in.proofs.Letters.{parted_flag}

-- a line has at least one field
pub record Headed (l : List ℕ) : Type 0 where
  pub more : List (List ℕ)
  pub is : fields l ≡ field l ∷ more

pub headed : (l : List ℕ) → Headed l
headed l = go (parting l)
  where
    go : Lone l ⊎ Parted l → Headed l
    go (inl p) = record { more = []; is = p.one ∙ ap (λ (x : List ℕ). x ∷ []) (sym p.all) }
    go (inr p) = record { more = fields (after_tab l); is = p.more }

-- ---- the second field, where l is the line after the first tab: what its first k bytes are read as

pub second : (l : List ℕ) (k : ℕ) (r : Option ℕ) → k ≡ length (field l) → r ≡ number (take k l) → number (field l) ≡ r
second l k r e h = ap number (sym (before_tab l) ∙ ap (λ (x : ℕ). take x l) (sym e)) ∙ sym h

-- ---- a second field that is no number

unnumbered_at : (f n : List ℕ) (m : List (List ℕ)) → number n ≡ None → said (f ∷ n ∷ m) ≡ None
unfolding said
unnumbered_at f n [] e = rw e
unnumbered_at f n (b ∷ []) e = rw e
unnumbered_at f n (b ∷ d ∷ l) e = refl

pub unnumbered : (f l : List ℕ) → number (field l) ≡ None → said (f ∷ fields l) ≡ None
unnumbered f l e = let h = headed l in rw h.is (unnumbered_at f (field l) h.more e)

-- ---- a number at the end of the line

pub numbered_last : (f l : List ℕ) (n : ℕ) → length l ≤ length (field l) → number (field l) ≡ Some n
    → said (f ∷ fields l) ≡ two f n
unfolding said
numbered_last f l n h e = let p = lone l h in rw p.one (rw (sym p.all) (rw e refl))

-- ---- a number and a tab

four : (f n b : List ℕ) (l : List ℕ) → said (f ∷ n ∷ b ∷ fields l) ≡ None
unfolding said
four f n b l = let h = headed l in rw h.is

flagged_at : (f n l : List ℕ) (v : ℕ) → number n ≡ Some v → Lone l ⊎ Parted l
    → said (f ∷ n ∷ fields l) ≡ flagged f (Some v) (flag l)
unfolding said
flagged_at f n l v e (inl p) = rw (p.one, e)
flagged_at f n l v e (inr p) = rw (parted_flag l p, p.more) (four f n (field l) (after_tab l))

pub numbered_more : (f l : List ℕ) (n : ℕ) → length (field l) < length l → number (field l) ≡ Some n
    → said (f ∷ fields l) ≡ flagged f (Some n) (flag (after_tab l))
numbered_more f l n h e = rw (parted l h).more (flagged_at f (field l) (after_tab l) n e (parting (after_tab l)))

-- ---- a first field that is no letter

numbered_none : (f : List ℕ) → (length f ≡ 1 → ⊥) → (r : Option ℕ) → numbered f r ≡ None
numbered_none [] n (Some k) = refl
numbered_none [] n None = refl
numbered_none (b ∷ []) n r = absurd (n refl)
numbered_none (b ∷ d ∷ l) n (Some k) = refl
numbered_none (b ∷ d ∷ l) n None = refl

flagged_none : (f : List ℕ) → (length f ≡ 1 → ⊥) → (r : Option ℕ) (s : Option Bool) → flagged f r s ≡ None
flagged_none [] n (Some k) (Some on) = refl
flagged_none [] n (Some k) None = refl
flagged_none [] n None s = refl
flagged_none (b ∷ []) n r s = absurd (n refl)
flagged_none (b ∷ d ∷ l) n (Some k) (Some on) = refl
flagged_none (b ∷ d ∷ l) n (Some k) None = refl
flagged_none (b ∷ d ∷ l) n None s = refl

one_none : (f : List ℕ) → (length f ≡ 1 → ⊥) → one f ≡ None
one_none [] n = refl
one_none (b ∷ []) n = absurd (n refl)
one_none (b ∷ d ∷ l) n = refl

unlettered_at : (f : List ℕ) (m : List (List ℕ)) → (length f ≡ 1 → ⊥) → said (f ∷ m) ≡ None
unfolding said
unlettered_at f [] n = one_none f n
unlettered_at f (r ∷ []) n = numbered_none f n (number r)
unlettered_at f (r ∷ s ∷ []) n = flagged_none f n (number r) (flag s)
unlettered_at f (r ∷ s ∷ d ∷ l) n = refl

-- ---- a line

pub too_long : (l : List ℕ) → 79 < length l → entry l ≡ None
unfolding entry
too_long l h = rw (lt-ltb 79 (length l) h)

short : (l : List ℕ) → length l ≤ 79 → entry l ≡ said (fields l)
unfolding entry
short l h = rw (le-ltb 79 (length l) h)

pub unlettered : (l : List ℕ) → length l ≤ 79 → (length (field l) ≡ 1 → ⊥) → entry l ≡ None
unlettered l h n = let p = headed l in short l h ∙ rw p.is (unlettered_at (field l) p.more n)

-- the first field of a line whose second byte is no tab
longer_first : (b d : ℕ) (l : List ℕ) → (d ≡ 9 → ⊥) → length (field (b ∷ d ∷ l)) ≡ 1 → ⊥
unfolding field
longer_first b d l n = go (is_tab b) (is_tab d) refl
  where
    go : (s t : Bool) → is_tab d ≡ t → length (cond s [] (b ∷ cond t [] (d ∷ field l))) ≡ 1 → ⊥
    go true t e h = omega arith
    go false true e h = n (eqb-true d 9 e)
    go false false e h = omega arith

-- a tab is no letter
tabbed : (m : List (List ℕ)) → said ((9 ∷ []) ∷ m) ≡ None
unfolding said
tabbed [] = refl
tabbed (n ∷ []) = go (number n)
  where
    go : (r : Option ℕ) → numbered (9 ∷ []) r ≡ None
    go (Some k) = refl
    go None = refl
tabbed (n ∷ b ∷ []) = go (number n) (flag b)
  where
    go : (r : Option ℕ) (s : Option Bool) → flagged (9 ∷ []) r s ≡ None
    go (Some k) (Some on) = refl
    go (Some k) None = refl
    go None s = refl
tabbed (n ∷ b ∷ d ∷ l) = refl

-- a first byte, and what follows a tab after it
first_tabbed : (b : ℕ) (l : List ℕ) → said (fields (b ∷ 9 ∷ l)) ≡ said ((b ∷ []) ∷ fields l)
unfolding fields
first_tabbed b l = go (is_tab b) refl
  where
    go : (t : Bool) → is_tab b ≡ t
        → said (cond t ([] ∷ [] ∷ fields l) ((b ∷ []) ∷ fields l)) ≡ said ((b ∷ []) ∷ fields l)
    go true e = unlettered_at [] ([] ∷ fields l) (λ k. omega arith) ∙ sym (rw (eqb-true b 9 e) (tabbed (fields l)))
    go false e = refl

pub letter_first : (l : List ℕ) → 2 ≤ length l → length l ≤ 79 → get_or l 1 0 ≡ 9 →
    entry l ≡ said ((get_or l 0 0 ∷ []) ∷ fields (take (length l - 2) (drop 2 l)))
letter_first [] h k e = absurd (omega arith)
letter_first (b ∷ []) h k e = absurd (omega arith)
letter_first (b ∷ t ∷ l) h k e =
    short (b ∷ t ∷ l) k ∙ rw (e, take_all (length (b ∷ t ∷ l) - 2) l (omega arith)) (first_tabbed b l)

alone : (b : ℕ) (t : Bool) → is_tab b ≡ t → said (cond t ([] ∷ [] ∷ []) ((b ∷ []) ∷ [])) ≡ one (b ∷ [])
unfolding said
alone b true e = unlettered_at [] ([] ∷ []) (λ k. omega arith) ∙ sym (rw (eqb-true b 9 e) (tabbed []))
alone b false e = refl

pub letter_alone : (l : List ℕ) → length l ≡ 1 → entry l ≡ one (get_or l 0 0 ∷ [])
unfolding fields
letter_alone [] h = absurd (omega arith)
letter_alone (b ∷ []) h = short (b ∷ []) (omega arith) ∙ alone b (is_tab b) refl
letter_alone (b ∷ d ∷ l) h = absurd (omega arith)

-- a first field of two bytes or more is no letter
pub letter_none : (l : List ℕ) → 2 ≤ length l → length l ≤ 79 → (get_or l 1 0 ≡ 9 → ⊥) → entry l ≡ None
letter_none [] h k n = absurd (omega arith)
letter_none (b ∷ []) h k n = absurd (omega arith)
letter_none (b ∷ d ∷ l) h k n = unlettered (b ∷ d ∷ l) k (longer_first b d l n)

pub empty_line : (l : List ℕ) → length l < 1 → entry l ≡ None
empty_line l h = unlettered l (omega arith) (λ e. omega (arith, field_within l))
