-- What the tests at the door say: the soundness of a class, and the refusal of `observe`. Assumes nothing.
use mathlib.Core.Path.{◌≡◌, refl, sym, ap, ap₂, ◌∙◌}
use mathlib.Core.Bool.{Bool, true, false, ◌&&◌, cond}
use Prim.Native.Nat.{ℕ, zero, suc}
use native.Mathlib.Omega.{arith}
use lib.Dec.{T}
use lib.Ieee.{Float, le}
use lib.Ieee.Scale.{finite}
use Rattle.ranges.specs.Interval.{In, within}
use Rattle.ranges.specs.Limits.{nought, class_min, class_max, duration_min, duration_max, duration_refusal}
use Rattle.ranges.proofs.Compare.{within_in}
use Rattle.ranges.proofs.Door.{unrefused_in}
use Rattle.sender.specs.Constants.{dit_min, dit_max}
use Rattle.sender.specs.Model.{Timing, sampled}
use Rattle.sender.specs.Sound.{class_sound, sound}
use Rattle.sender.specs.Answers.{first_of, observe_refusal}
use Rattle.sender.proofs.Views.{some_at}

pub class_sound_is : (m v : Float) (n : ℕ) (a b f : Bool) → (n ≡ 0 → ⊥) → a ≡ within class_min class_max m → le nought v ≡ b → f ≡ finite v → (a && (b && f)) ≡ class_sound (sampled m v n)
unfolding class_sound
class_sound_is m v n a b f e p q r =
    ap (λ (z : Bool). z && (b && f)) p ∙ ap₂ (λ (y z : Bool). within class_min class_max m && (y && z)) (sym q) r ∙ sym (ap class_sound (some_at m v n e))

never : (n : ℕ) → suc n ≡ 0 → ⊥
never n e = omega arith

pub refusal_is : (t : Timing) (dur dit : Float) (a b : Bool) (n : ℕ) → a ≡ sound t → n ≡ duration_refusal dur → b ≡ within dit_min dit_max dit → first_of (cond a 0 1) (first_of n (cond b 0 9)) ≡ observe_refusal t dur dit
refusal_is t dur dit a b n p q r =
    ap (λ (z : Bool). first_of (cond z 0 1) (first_of n (cond b 0 9))) p ∙ ap₂ (λ (k : ℕ) (z : Bool). first_of (cond (sound t) 0 1) (first_of k (cond z 0 9))) q r

-- what it means that `observe` is not refused
pub record Unrefused (t : Timing) (dur dit : Float) : Type 0 where
  pub state : T (sound t)
  pub duration : In duration_min duration_max dur
  pub of_dit : In dit_min dit_max dit

pub unrefused : (t : Timing) (dur dit : Float) → observe_refusal t dur dit ≡ 0 → Unrefused t dur dit
unrefused t dur dit e =
    let w = go (sound t) (duration_refusal dur) (within dit_min dit_max dit) e in
    record { state = w.0; duration = unrefused_in dur w.1; of_dit = within_in dit_min dit_max dit w.2 }
  where
    go : (a : Bool) (n : ℕ) (b : Bool) → ◌≡◌ {A = ℕ} (first_of (cond a 0 1) (first_of n (cond b 0 9))) 0 → T a × (n ≡ 0) × T b
    go true zero true e = (tt, refl, tt)
    go true zero false e = absurd (never 8 e)
    go true (suc n) b e = absurd (never n e)
    go false n b e = absurd (never 0 e)
