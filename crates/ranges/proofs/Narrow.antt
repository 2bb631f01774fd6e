-- f64 to f32 keeps the order, and leaves an f32 as it is. Assumes nothing.
use mathlib.Core.Path.{◌≡◌, refl, sym}
use mathlib.Core.Bool.{true, false}
use Prim.Native.Nat.{◌*◌}
use native.Mathlib.Omega.{arith}
use lib.Dec.{T}
use lib.Ieee.{Float, nan, inf, fin, binary32, up, down, le, fits}
use lib.Ieee.Fits.{down_pos, round-fits}
use lib.Ieee.Scale.{finite}
use lib.Ieee.Positive.{den}
use Rattle.numbers.specs.Values.{narrow}
use Rattle.ranges.specs.Interval.{In}
use Rattle.ranges.proofs.Signed.{ps, ng, le→signed}
use Rattle.ranges.proofs.Rounded.{Rounded, rounded_mono}
use Rattle.ranges.proofs.Own.{own_rounding}
use Rattle.ranges.proofs.Interval.{in_finite}

-- ---- it keeps the order
pub narrow_rounded : (x : Float) → T (finite x) → Rounded binary32 (narrow x) (ps x) (ng x) (den x)
unfolding narrow
narrow_rounded nan p = absurd p
narrow_rounded (inf s) p = absurd p
narrow_rounded (fin false m e) p = (false, m * up e, refl, omega arith, down_pos e)
narrow_rounded (fin true m e) p = (true, m * up e, refl, omega arith, down_pos e)

pub narrow_mono : (x y : Float) → T (finite x) → T (finite y) → T (le x y) → T (le (narrow x) (narrow y))
narrow_mono x y p q h = rounded_mono binary32 (narrow x) (narrow y) _ _ _ _ _ _ (narrow_rounded x p) (narrow_rounded y q) (le→signed x y p q h)

pub narrow_in : (lo hi x : Float) → T (finite lo) → T (finite hi) → In lo hi x → In (narrow lo) (narrow hi) (narrow x)
narrow_in lo hi x p q i =
    let r = in_finite lo hi x p q i in
    (narrow_mono lo x p r i.0, narrow_mono x hi r q i.1)

pub narrow_fits : (x : Float) → T (fits binary32 (narrow x))
unfolding narrow
narrow_fits nan = unfold fits in tt
narrow_fits (inf s) = unfold fits in tt
narrow_fits (fin s m e) = round-fits binary32 s (m * up e) (down e)

-- an f32 is its own nearest f32
pub narrow_own : (x : Float) → T (fits binary32 x) → narrow x ≡ x
unfolding narrow
narrow_own nan h = refl
narrow_own (inf s) h = refl
narrow_own (fin s m e) h = sym (own_rounding binary32 s m e h)

-- so what lies between two values of f32 still lies there
pub narrow_between : (lo hi x : Float) → T (fits binary32 lo) → T (fits binary32 hi) → T (finite lo) → T (finite hi) → In lo hi x → In lo hi (narrow x)
narrow_between lo hi x l h p q i = rw (narrow_own lo l, narrow_own hi h) at (narrow_in lo hi x p q i)
