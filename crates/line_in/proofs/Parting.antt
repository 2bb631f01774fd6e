-- The first tab of a line, if there is one, parts its first field from the rest. Assumes nothing.
use mathlib.Core.Path.{◌≡◌, refl, sym, ap, ◌∙◌}
use mathlib.Core.Bool.{Bool, true, false}
use mathlib.Core.List.{List, [], ◌∷◌, ◌++◌}
use mathlib.Core.Logic.{◌⊎◌, inl, inr}
use Prim.Native.Nat.{ℕ, suc, ◌+◌, ◌-◌, ◌≤◌, ◌<◌}
use native.Mathlib.Omega.{arith}
use lib.ListN.{length, take, drop, length-append, length-drop}
use lib.Seq.{take_all, take-length, take-append_seam, drop-append-add}
use borrow.Author.Tests.{eqb-true, ltb-true, ltb-false}
use Rattle.std.specs.Prelude.{Some, None, unwrap_or, cond, position, ltb}
use Rattle.std.specs.List.{position_or_len}
use Rattle.std.proofs.lemmas.List.Recursion.{is_position_or_len}
use Rattle.line_in.specs.Fields.{is_tab, field, after_tab, fields}

-- a line without a tab, and one with
pub record Lone (l : List ℕ) : Type 0 where
  pub all : field l ≡ l
  pub none : after_tab l ≡ []
  pub one : fields l ≡ l ∷ []

pub record Parted (l : List ℕ) : Type 0 where
  pub joined : l ≡ field l ++ (9 ∷ after_tab l)
  pub more : fields l ≡ field l ∷ fields (after_tab l)

further : (b : ℕ) (l : List ℕ) → is_tab b ≡ false → Lone l ⊎ Parted l → Lone (b ∷ l) ⊎ Parted (b ∷ l)
unfolding field after_tab fields
further b l e (inl p) =
    inl (record { all = rw e (ap (λ (x : List ℕ). b ∷ x) p.all); none = rw e p.none; one = rw (e, p.one) })
further b l e (inr p) = inr (record { joined = rw e (ap (λ (x : List ℕ). b ∷ x) p.joined); more = rw (e, p.more) })

here : (b : ℕ) (l : List ℕ) → is_tab b ≡ true → Parted (b ∷ l)
unfolding field after_tab fields
here b l e = record { joined = rw e (ap (λ (x : ℕ). x ∷ l) (eqb-true b 9 e)); more = rw e }

first : (b : ℕ) (l : List ℕ) (t : Bool) → is_tab b ≡ t → Lone l ⊎ Parted l → Lone (b ∷ l) ⊎ Parted (b ∷ l)
first b l true e p = inr (here b l e)
first b l false e p = further b l e p

pub parting : (l : List ℕ) → Lone l ⊎ Parted l
unfolding field after_tab fields
parting [] = inl (record { all = refl; none = refl; one = refl })
parting (b ∷ l) = first b l (is_tab b) refl (parting l)

-- ---- which of the two it is, by the length of the first field

longer : (l : List ℕ) → Parted l → length l ≡ length (field l) + suc (length (after_tab l))
longer l p = ap length p.joined ∙ length-append (field l) (9 ∷ after_tab l)

pub parted : (l : List ℕ) → length (field l) < length l → Parted l
parted l h = go (parting l)
  where
    go : Lone l ⊎ Parted l → Parted l
    go (inl p) = absurd (omega (arith, ap length p.all))
    go (inr p) = p

pub lone : (l : List ℕ) → length l ≤ length (field l) → Lone l
lone l h = go (parting l)
  where
    go : Lone l ⊎ Parted l → Lone l
    go (inl p) = p
    go (inr p) = absurd (omega (arith, longer l p))

pub field_within : (l : List ℕ) → length (field l) ≤ length l
field_within l = go (parting l)
  where
    go : Lone l ⊎ Parted l → length (field l) ≤ length l
    go (inl p) = omega (arith, ap length p.all)
    go (inr p) = omega (arith, longer l p)

-- ---- the parts of the line

pub before_tab : (l : List ℕ) → take (length (field l)) l ≡ field l
before_tab l = go (parting l)
  where
    go : Lone l ⊎ Parted l → take (length (field l)) l ≡ field l
    go (inl p) = rw p.all (take-length l)
    go (inr p) = ap (take (length (field l))) p.joined ∙ take-append_seam (field l) (9 ∷ after_tab l)

pub after_tab_law : (l : List ℕ) → Parted l → drop (length (field l) + 1) l ≡ after_tab l
after_tab_law l p = ap (drop (length (field l) + 1)) p.joined ∙ drop-append-add (field l) (9 ∷ after_tab l) 1

-- ---- a search for the first tab

-- the length of the first field is where the first tab is, or the length of the line
to_tab : (l : List ℕ) → length (field l) ≡ position_or_len is_tab l
unfolding field
to_tab l = is_position_or_len (λ (x : List ℕ). length (field x)) is_tab refl (λ b x. step b x (is_tab b)) l
  where
    step : (b : ℕ) (x : List ℕ) (t : Bool) → length (cond t [] (b ∷ field x)) ≡ cond t 0 (1 + length (field x))
    step b x true = refl
    step b x false = omega arith

pub searched : (l : List ℕ) → unwrap_or (position is_tab l) (length l) ≡ length (field l)
searched l = rw (sym (to_tab l)) (go (ltb (length (field l)) (length l)) refl)
  where
    go : (t : Bool) → ltb (length (field l)) (length l) ≡ t
        → unwrap_or (cond t (Some (length (field l))) None) (length l) ≡ length (field l)
    go true e = refl
    go false e = omega (arith, ltb-false (length (field l)) (length l) e, field_within l)

-- ---- what `after_tab` hands on

found : (l : List ℕ) (n : ℕ) → position is_tab l ≡ Some n → (n ≡ length (field l)) × (n < length l)
found l n e = go (ltb (length (field l)) (length l)) refl (rw (sym (to_tab l)) at e)
  where
    go : (t : Bool) → ltb (length (field l)) (length l) ≡ t → cond t (Some (length (field l))) None ≡ Some n
        → (n ≡ length (field l)) × (n < length l)
    go true h k = let i : n ≡ length (field l) = cc in (i, omega (arith, ltb-true (length (field l)) (length l) h))
    go false h k = cc

pub handed : (l : List ℕ) (n : ℕ) → position is_tab l ≡ Some n
    → take (length l - (n + 1)) (drop (n + 1) l) ≡ after_tab l
handed l n e =
    let f = found l n e in
    let p : Parted l = parted l (omega arith) in
    take_all (length l - (n + 1)) (drop (n + 1) l) (simp length-drop (omega arith)) ∙ ap (λ (x : ℕ). drop (x + 1) l) f.0
    ∙ after_tab_law l p

pub nothing_handed : (l : List ℕ) → position is_tab l ≡ None → after_tab l ≡ []
nothing_handed l e = (lone l (go (ltb (length (field l)) (length l)) refl (rw (sym (to_tab l)) at e))).none
  where
    go : (t : Bool) → ltb (length (field l)) (length l) ≡ t → cond t (Some (length (field l))) None ≡ None
        → length l ≤ length (field l)
    go true h k = cc
    go false h k = ltb-false (length (field l)) (length l) h
