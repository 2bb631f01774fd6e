-- The place that the bank keeps is that of the challenger which the rule names. Assumes nothing.
use mathlib.Core.Path.{◌≡◌, refl, sym, ap, subst, ◌∙◌}
use mathlib.Core.Bool.{Bool, true, false, cond}
use mathlib.Core.List.{List, [], ◌∷◌, ◌++◌, append_assoc, Memᴰ}
use mathlib.Core.Option.{Option, none, some}
use Prim.Native.Nat.{ℕ, suc, ◌+◌, ◌<◌}
use native.Mathlib.Omega.{arith}
use lib.ListN.{length, get_elem?, length-append}
use Rattle.std.specs.Prelude.{None, Some}
use Rattle.bank_model.specs.Model.{Hyp}
use Rattle.bank_model.specs.Scores.{above}
use Rattle.bank_model.specs.Steps.{Best, Before, place, higher, highest_from}
use Rattle.bank_model.proofs.Places.{highest_before}
use Rattle.station_model.specs.Watch.{first_highest, higher_of}
use Rattle.station_model.proofs.Lists.{no}

abbrev pub at : Option ℕ → List Hyp → Option Hyp
at none l = none
at (some i) l = get_elem? l i

-- the place and the challenger that two walks hold
data Same (l : List Hyp) : Best → Option Hyp → Type 0 where
  neither : Same l None none
  both : {i : ℕ} {h : Hyp} → get_elem? l i ≡ some h → Same l (Some (i, h.score)) (some h)

same_at : (l : List Hyp) (b : Best) (o : Option Hyp) → Same l b o → at (place b) l ≡ o
same_at l b o neither = refl
same_at l b o (both e) = e

same_higher : (l : List Hyp) (i : ℕ) (h : Hyp) (b : Best) (o : Option Hyp) → get_elem? l i ≡ some h → Same l b o → Same l (higher i h.score b) (higher_of o h)
same_higher l i h b o e neither = both e
same_higher l i h b o e (both {i = j} {h = g} f) = go (above h.score g.score) refl
  where
    go : (x : Bool) → above h.score g.score ≡ x → Same l (cond (above h.score g.score) (Some (i, h.score)) (Some (j, g.score))) (cond (above h.score g.score) (some h) (some g))
    go true p = rw p (both e)
    go false p = rw p (both f)

same_if : (l : List Hyp) (i : ℕ) (h : Hyp) (x : Bool) (b : Best) (o : Option Hyp) → get_elem? l i ≡ some h → Same l b o
    → Same l (cond x (higher i h.score b) b) (cond x (higher_of o h) o)
same_if l i h true b o e s = same_higher l i h b o e s
same_if l i h false b o e s = s

at_seam : (l : List Hyp) (h : Hyp) (m : List Hyp) → get_elem? (l ++ (h ∷ m)) (length l) ≡ some h
at_seam [] h m = refl
at_seam (x ∷ l) h m = at_seam l h m

walk : (q : Hyp → Bool) (done rest : List Hyp) (i : ℕ) (b : Best) (o : Option Hyp) → i ≡ length done → Same (done ++ rest) b o
    → Same (done ++ rest) (highest_from q i b rest) (first_highest q o rest)
unfolding highest_from first_highest
walk q done [] i b o e s = s
walk q done (h ∷ rest) i b o e s =
    let a : (done ++ (h ∷ [])) ++ rest ≡ done ++ (h ∷ rest) = append_assoc done (h ∷ []) rest in
    let here : get_elem? (done ++ (h ∷ rest)) i ≡ some h = rw e (at_seam done h rest) in
    let next : suc i ≡ length (done ++ (h ∷ [])) = simp length-append (omega arith) in
    subst (λ (l : List Hyp). Same l (highest_from q (suc i) (cond (q h) (higher i h.score b) b) rest) (first_highest q (cond (q h) (higher_of o h) o) rest)) a
    (walk q (done ++ (h ∷ [])) rest (suc i) _ _ next (subst (λ (l : List Hyp). Same l (cond (q h) (higher i h.score b) b) (cond (q h) (higher_of o h) o)) (sym a) (same_if (done ++ (h ∷ rest)) i h (q h) b o here s)))

pub picks : (q : Hyp → Bool) (l : List Hyp) → at (place (highest_from q 0 None l)) l ≡ first_highest q none l
picks q l = same_at l _ _ (walk q [] l 0 None none refl neither)

-- the place is one of the list's
pub picks_inside : (q : Hyp → Bool) (l : List Hyp) (i : ℕ) → place (highest_from q 0 None l) ≡ some i → i < length l
picks_inside q l i e = go (highest_from q 0 None l) (highest_before q 0 None l tt) e
  where
    go : (b : Best) → Before (0 + length l) b → place b ≡ some i → i < length l
    go None w p = no (cc)
    go (Some f) w p = let r : f.0 ≡ i = cc in omega arith

-- two tests that agree on the list pick the same
pub picks_same : (q r : Hyp → Bool) (l : List Hyp) (o : Option Hyp) → ((h : Hyp) → Memᴰ h l → q h ≡ r h) → first_highest q o l ≡ first_highest r o l
unfolding first_highest
picks_same q r [] o f = refl
picks_same q r (h ∷ l) o f =
    ap (λ (x : Bool). first_highest q (cond x (higher_of o h) o) l) (f h (Memᴰ.head refl))
    ∙ picks_same q r l (cond (r h) (higher_of o h) o) (λ g m. f g (Memᴰ.tail m))
