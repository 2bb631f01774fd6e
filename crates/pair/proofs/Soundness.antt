-- What soundness says of a pair, and how it is put together again. Assumes nothing.
use mathlib.Core.Path.{◌≡◌, sym, subst}
use mathlib.Core.Bool.{Bool, true, false, cond, ◌&&◌}
use Prim.Native.Nat.{◌≤◌}
use lib.Dec.{T, leb, leb→le, le→leb}
use lib.ListN.{length}
use Rattle.ranges.specs.Settings.{Settings}
use Rattle.ranges.specs.Limits.{dah_min, dah_max}
use Rattle.ranges.specs.Interval.{In, within}
use Rattle.pair.specs.Model.{Pair}
use Rattle.marks.specs.Lists.{all_durations}
use Rattle.pair.specs.Sound.{centroids, plus_zero, pair_sound}
use Rattle.marks.proofs.Bounds.{both, inside, join, outside}

-- ---- a sound pair
module _ (k : Settings) (p : Pair) where
  abbrev still : Bool
  still = plus_zero p.lo && (plus_zero p.hi && leb (length p.init) 4)

  abbrev state : Bool → Bool
  state b = cond b (centroids k p.lo p.hi) still

  pub pair_init : T (pair_sound k p) → T (all_durations p.init)
  pair_init t = (both (state p.ready) (all_durations p.init) t).1

  state_at : (b : Bool) → p.ready ≡ b → T (pair_sound k p) → T (state b)
  state_at b e t = subst (λ (r : Bool). T (state r)) e (both (state p.ready) (all_durations p.init) t).0

  pub ready_centroids : p.ready ≡ true → T (pair_sound k p) → T (centroids k p.lo p.hi)
  ready_centroids e t = state_at true e t

  pub ready_in : p.ready ≡ true → T (pair_sound k p) → In k.dit_min k.dit_max p.lo × In dah_min dah_max p.hi
  ready_in e t =
      let b = both (within k.dit_min k.dit_max p.lo) (within dah_min dah_max p.hi) (ready_centroids e t) in
      (inside k.dit_min k.dit_max p.lo b.0, inside dah_min dah_max p.hi b.1)

  unready : p.ready ≡ false → T (pair_sound k p) → T still
  unready e t = state_at false e t

  pub unready_zero : p.ready ≡ false → T (pair_sound k p) → T (plus_zero p.lo) × T (plus_zero p.hi)
  unready_zero e t =
      let a = both (plus_zero p.lo) (plus_zero p.hi && leb (length p.init) 4) (unready e t) in
      (a.0, (both (plus_zero p.hi) (leb (length p.init) 4) a.1).0)

  pub unready_few : p.ready ≡ false → T (pair_sound k p) → length p.init ≤ 4
  unready_few e t =
      let a = both (plus_zero p.lo) (plus_zero p.hi && leb (length p.init) 4) (unready e t) in
      leb→le (length p.init) 4 (both (plus_zero p.hi) (leb (length p.init) 4) a.1).1

  pub ready_sound : p.ready ≡ true → In k.dit_min k.dit_max p.lo → In dah_min dah_max p.hi → T (all_durations p.init)
      → T (pair_sound k p)
  ready_sound e i j m =
      join (state p.ready) (all_durations p.init)
      (subst (λ (r : Bool). T (state r)) (sym e) (join (within k.dit_min k.dit_max p.lo) (within dah_min dah_max p.hi) (outside k.dit_min k.dit_max p.lo i) (outside dah_min dah_max p.hi j))) m

  pub unready_sound : p.ready ≡ false → T (plus_zero p.lo) → T (plus_zero p.hi) → length p.init ≤ 4
      → T (all_durations p.init) → T (pair_sound k p)
  unready_sound e i j h m =
      join (state p.ready) (all_durations p.init)
      (subst (λ (r : Bool). T (state r)) (sym e) (join (plus_zero p.lo) (plus_zero p.hi && leb (length p.init) 4) i (join (plus_zero p.hi) (leb (length p.init) 4) j (le→leb (length p.init) 4 h)))) m
