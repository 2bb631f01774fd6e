-- The serials of a station: collected, tested, and counted. Assumes nothing.
use mathlib.Core.Path.{◌≡◌, refl, ap, sym, subst}
use mathlib.Core.Bool.{Bool, true, false, not}
use mathlib.Core.List.{List, [], ◌∷◌, map}
use Prim.Native.Nat.{ℕ, ◌+◌, ◌≤◌, ◌<◌}
use native.Mathlib.Omega.{arith}
use borrow.Author.Tests.{ltb-true, ltb-false, eqb-true, eq-eqb, ne_eqb}
use lib.Dec.{T, ltb, eqb, leb→le, le→leb}
use Rattle.marks.specs.Lists.{all}
use Rattle.marks.proofs.Bounds.{both, join}
use Rattle.rival.specs.declared.TimingHypothesis.{TimingHypothesis}
use Rattle.rival.specs.View.{view_hyp}
use Rattle.station_model.specs.Station.{ind}
use Rattle.station_model.specs.Watch.{among}
use Rattle.station.specs.Sound.{serial_of, up_to, differs, distinct, held_once}

-- ---- how often a serial stands in a list
unfoldable pub times : ℕ → List ℕ → ℕ
times n [] = 0
times n (x ∷ l) = ind (eqb n x) + times n l

pub times_among : (n : ℕ) (l : List TimingHypothesis) → times n (map serial_of l) ≡ among n (map view_hyp l)
unfolding times among
times_among n [] = refl
times_among n (h ∷ l) = omega (arith, times_among n l)

times_none : (n : ℕ) (l : List ℕ) → T (all (differs n) l) → times n l ≡ 0
unfolding times
times_none n [] t = refl
times_none n (x ∷ l) t = let b = both (differs n x) (all (differs n) l) t in omega (arith, times_none n l b.1, go (eqb n x) b.0)
  where
    go : (e : Bool) → T (not e) → ind e ≡ 0
    go true t = absurd t
    go false t = refl

none_times : (n : ℕ) (l : List ℕ) → times n l ≡ 0 → T (all (differs n) l)
unfolding times
none_times n [] e = tt
none_times n (x ∷ l) e = join (differs n x) (all (differs n) l) (go (eqb n x) (omega arith)) (none_times n l (omega arith))
  where
    go : (b : Bool) → ind b ≡ 0 → T (not b)
    go true z = absurd (omega arith)
    go false z = tt

times_one : (n : ℕ) (l : List ℕ) → T (distinct l) → times n l ≤ 1
unfolding times
times_one n [] t = omega arith
times_one n (x ∷ l) t = let rest = both (all (differs x) l) (distinct l) t in go (times_none x l rest.0) (times_one n l rest.1) (eqb n x) refl
  where
    go : times x l ≡ 0 → times n l ≤ 1 → (b : Bool) → eqb n x ≡ b → ind b + times n l ≤ 1
    go none few true e = omega (arith, subst (λ (m : ℕ). times m l ≡ 0) (sym (eqb-true n x e)) none)
    go none few false e = omega arith

times_above : (n most : ℕ) (l : List ℕ) → most < n → T (all (up_to most) l) → times n l ≡ 0
unfolding times
times_above n most [] h t = refl
times_above n most (x ∷ l) h t =
    let b = both (up_to most x) (all (up_to most) l) t in
    let le = leb→le x most b.0 in
    let d : eqb n x ≡ false = ne_eqb n x (λ e. omega arith) in
    omega (arith, times_above n most l h b.1, ap ind d)

-- what the test finds, and what it passes
pub once_of : (most : ℕ) (l : List ℕ) → T (held_once most l) → (n : ℕ) → times n l + ind (ltb most n) ≤ 1
once_of most l t n = go (ltb most n) refl
  where
    parts : T (all (up_to most) l) × T (distinct l)
    parts = both (all (up_to most) l) (distinct l) t

    go : (b : Bool) → ltb most n ≡ b → times n l + ind b ≤ 1
    go true e = omega (arith, times_above n most l (ltb-true most n e) parts.0)
    go false e = omega (arith, times_one n l parts.1)

ind_none : (b : Bool) → ind b ≡ 0 → b ≡ false
ind_none true e = absurd (omega arith)
ind_none false e = refl

pub of_once : (most : ℕ) (l : List ℕ) → ((n : ℕ) → times n l + ind (ltb most n) ≤ 1) → T (all (up_to most) l) × T (distinct l)
unfolding times
of_once most [] f = (tt, tt)
of_once most (x ∷ l) f =
    let here = f x in
    let same : ind (eqb x x) ≡ 1 = ap ind (eq-eqb x x refl) in
    let below = ltb-false most x (ind_none (ltb most x) (omega arith)) in
    let r = of_once most l (λ n. omega (arith, f n)) in (
      join (up_to most x) (all (up_to most) l) (le→leb x most below) r.0,
      join (all (differs x) l) (distinct l) (none_times x l (omega arith)) r.1,
    )
