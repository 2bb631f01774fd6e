-- A wrapper hands on what its callee answered, a value or a refusal. Assumes nothing.
use mathlib.Core.Path.{◌≡◌, sym, ap}
use Prim.Native.Nat.{ℕ}
use lib.Ieee.{Float}
use Rattle.numbers.specs.Answers.{Said, value, refused}
use Rattle.exports.specs.Answers.{code, left}

-- what the contracts say of an answer d: the result n, and y behind the reference where `old` stood
abbrev pub Handed : Said → ℕ → Float → Float → Type 0
Handed d n y old = (n ≡ code d) × (y ≡ left d old)

pub done : {d : Said} {x : Float} (old : Float) → d ≡ value x → Handed d 0 x old
unfolding code left
done old e = (ap code (sym e), ap (λ (a : Said). left a old) (sym e))

pub declined : {d : Said} {n : ℕ} (old : Float) → d ≡ refused n → Handed d n old old
unfolding code left
declined old e = (ap code (sym e), ap (λ (a : Said). left a old) (sym e))
