-- An array of one value, with another in its last place. Assumes nothing.
use mathlib.Core.Path.{◌≡◌, refl, ap, ◌∙◌}
use mathlib.Core.List.{◌∷◌}
use Prim.Native.Nat.{ℕ, zero, suc, ◌+◌, ◌-◌, ◌<◌}
use native.Mathlib.Omega.{arith}
use lib.ListN.{replicate, set}
use Rattle.hullathan.specs.Layout.{bytes, ending}

last_set : {A : Type 0} (x z : A) (m : ℕ) → set (replicate (suc m) x) m z ≡ ending m x z
unfolding ending
last_set x z zero = refl
last_set x z (suc m) = ap (λ l. x ∷ l) (last_set x z m)

pub ending_set : {A : Type 0} (x z : A) (n : ℕ) → 0 < n → set (replicate n x) (n - 1) z ≡ ending (n - 1) x z
ending_set x z n h =
    let e : n ≡ suc (n - 1) = omega arith in
    ap (λ k. set (replicate k x) (n - 1) z) e ∙ last_set x z (n - 1)

bytes_after : (m at : ℕ) → ending m at (100 + at) ≡ bytes (suc m) at
unfolding ending bytes
bytes_after zero at = refl
bytes_after (suc m) at = ap (λ l. at ∷ l) (bytes_after m at)

pub bytes_ending : (n at : ℕ) → 0 < n → ending (n - 1) at (100 + at) ≡ bytes n at
bytes_ending n at h =
    let e : suc (n - 1) ≡ n = omega arith in
    bytes_after (n - 1) at ∙ ap (λ k. bytes k at) e
