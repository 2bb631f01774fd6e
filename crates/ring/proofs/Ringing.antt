-- An array that is mapped, and what a sound ring gives. Assumes nothing.
use mathlib.Core.Path.{◌≡◌, sym, subst, ◌∙◌}
use mathlib.Core.Bool.{true, false, not}
use mathlib.Core.List.{List, [], ◌∷◌, map}
use Prim.Native.Nat.{ℕ, ◌<◌}
use native.Mathlib.Omega.{arith}
use lib.Dec.{T}
use lib.ListN.{length, get_or, length-map, get_or-map}
use lib.Seq.{ext_get_or}
use denote.Param.Members.{Mut, Called}
use Rattle.std.specs.Array.{IsMapOf}
use lib.Ieee.{Float, is_nan, of_bits}
use Rattle.ranges.specs.Settings.{Settings, standard}
use Rattle.ranges.specs.Limits.{duration_min, duration_max, dah_min, dah_max}
use Rattle.ranges.specs.Interval.{In, AllIn, within}
use Rattle.ranges.proofs.Signed.{finite_number}
use Rattle.ranges.proofs.Interval.{in_finite}
use Rattle.ring.specs.declared.RingEntry.{RingEntry}
use Rattle.ring.specs.Ring.{durations, all_classed, anchor, entry_sound, ring_sound}
use Rattle.marks.specs.Lists.{duration, all_durations}
use Rattle.pair.specs.Sound.{centroids}
use Rattle.marks.proofs.Bounds.{both, inside, join, durations_in}

-- ---- an array mapped by a closure that computes h
pub mapped : {F A B : Type 0} {g : Mut F (A × Unit {0}) B} {f : F} (h : A → B) (d : A) (xs : List A) (ys : List B) (n : ℕ)
    → IsMapOf g f xs ys n → length xs ≡ n
    → ((x : A) (y : B) (p q : F) → Called g p (x, tt) y q → y ≡ h x) → ys ≡ map h xs
mapped h d xs ys n m l e =
    ext_get_or (h d) ys (map h xs) (m.long ∙ sym (length-map xs h ∙ l)) (λ i b.
    let c = m.at i d (h d) (subst (λ (k : ℕ). i < k) m.long b) in
    e (get_or xs i d) (get_or ys i (h d)) c.0 c.1 c.2 ∙ sym (get_or-map h xs i d))

-- ---- what a sound ring gives
module _ (k : Settings) where
  pub ring_held : (l : List RingEntry) → T (ring_sound k l) → T (all_durations (durations l))
  ring_held [] t = tt
  ring_held (e ∷ es) t =
      let p = both (entry_sound k e) (ring_sound k es) t in
      let q = both (duration e.dur_ms) (centroids k e.pre_lo e.pre_hi) p.0 in
      join (duration e.dur_ms) (all_durations (durations es)) q.0 (ring_held es p.1)

  pub ring_in : (l : List RingEntry) → T (ring_sound k l) → AllIn duration_min duration_max (durations l)
  ring_in l t = durations_in (durations l) (ring_held l t)

  pub first_sound : (l : List RingEntry) (z : RingEntry) → 0 < length l → T (ring_sound k l)
      → In k.dit_min k.dit_max (get_or l 0 z).pre_lo × In dah_min dah_max (get_or l 0 z).pre_hi
  first_sound [] z h t = absurd (omega arith)
  first_sound (e ∷ es) z h t =
      let p = both (entry_sound k e) (ring_sound k es) t in
      let q = both (duration e.dur_ms) (centroids k e.pre_lo e.pre_hi) p.0 in
      let r = both (within k.dit_min k.dit_max e.pre_lo) (within dah_min dah_max e.pre_hi) q.1 in
      (inside k.dit_min k.dit_max e.pre_lo r.0, inside dah_min dah_max e.pre_hi r.1)

pub anchor_lo : (l : List RingEntry) (z : RingEntry) → 0 < length l → all_classed true l ≡ true
    → (get_or l 0 z).pre_lo ≡ anchor l
unfolding anchor
anchor_lo [] z h e = absurd (omega arith)
anchor_lo (x ∷ xs) z h e = rw e

pub anchor_hi : (l : List RingEntry) (z : RingEntry) → 0 < length l → all_classed true l ≡ false
    → (get_or l 0 z).pre_hi ≡ anchor l
unfolding anchor
anchor_hi [] z h e = absurd (omega arith)
anchor_hi (x ∷ xs) z h e = rw e

pub dit_number : (x : Float) → In standard.dit_min standard.dit_max x → T (not (is_nan x))
unfolding of_bits
dit_number x i = finite_number x (in_finite standard.dit_min standard.dit_max x tt tt i)

pub dah_number : (x : Float) → In dah_min dah_max x → T (not (is_nan x))
unfolding of_bits
dah_number x i = finite_number x (in_finite dah_min dah_max x tt tt i)
