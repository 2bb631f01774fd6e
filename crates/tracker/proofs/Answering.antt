-- What the refusals say of a number they let pass, what an option says of its test, and what a call says that leaves a
-- tracker as it is. Assumes nothing.
use Rattle.std.proofs.Common.{
  ◌≡◌,
  ℕ,
  ◌≤◌,
  Bool,
  true,
  false,
  cond,
  T,
  leb,
  List,
  length,
  arith,
  refl,
  sym,
  ap,
  ◌∙◌,
  Option as Given,
  Some,
  None,
  leb→le,
}
use Rattle.std.proofs.Math.Option.{none, some, none-ne-some, some-ne-none, some-injective}
use Rattle.std.specs.Option.{unwrap_or}
use lib.Ieee.{Float}
use lib.Ieee.Positive.{positive}
use Rattle.ranges.specs.Limits.{duration_min, duration_max, duration_refusal}
use Rattle.ranges.proofs.Door.{unrefused_in}
use Rattle.marks.specs.Lists.{duration, list_refusal}
use Rattle.marks.proofs.Bounds.{outside}
use Rattle.ranges.specs.Settings.{standard}
use Rattle.tracker.specs.declared.SpeedTracker.{SpeedTracker}
use Rattle.tracker.specs.declared.sound_tracker.SoundTracker.{SoundTracker}
use Rattle.tracker.specs.Model.{Tracker, view}
use Rattle.tracker.specs.Parts.{other}
use Rattle.tracker.specs.Sound.{sound}
use Rattle.tracker.specs.Answers.{Answer, Answers, unless, speed_refusal}

eight : ◌≡◌ {A = ℕ} 8 0 → ⊥
eight e = omega arith

four : ◌≡◌ {A = ℕ} 4 0 → ⊥
four e = omega arith

pub good_duration : (d : Float) → duration_refusal d ≡ 0 → T (duration d)
good_duration d e = outside duration_min duration_max d (unrefused_in d e)

pub good_speed : (v : Float) → speed_refusal v ≡ 0 → T (positive v)
good_speed v e = go (positive v) e
  where
    go : (b : Bool) → ◌≡◌ {A = ℕ} (cond b 0 8) 0 → T b
    go true e = tt
    go false e = absurd (eight e)

pub good_list : (l : List Float) → list_refusal l ≡ 0 → length l ≤ 12
good_list l e = leb→le (length l) 12 (go (leb (length l) 12) e)
  where
    go : (b : Bool) → ◌≡◌ {A = ℕ} (cond b 0 4) 0 → T b
    go true e = tt
    go false e = absurd (four e)

module _ {A : Type 0} (b : Bool) (x : A) where
  pub some_when : (r : A) → b ≡ true → r ≡ x → some r ≡ cond b (some x) none
  some_when r e q = rw (e, q)

  pub none_when : b ≡ false → none ≡ cond b (some x) none
  none_when e = rw e

pub none_of : {A : Type 0} (b : Bool) (x : A) → none ≡ cond b (some x) none → b ≡ false
none_of true x e = absurd (none-ne-some x e)
none_of false x e = refl

-- a tracker that stays where there is no other
pub or_same : (b : Bool) (x : Tracker) (o : Given SoundTracker) (t : SoundTracker)
    → other o ≡ cond b (some x) none → (b ≡ false → view t.tracker ≡ x) → view (unwrap_or o t).tracker ≡ x
or_same true x (Some u) t e h = some-injective (view u.tracker) x e
or_same false x (Some u) t e h = absurd (some-ne-none (view u.tracker) e)
or_same true x None t e h = absurd (none-ne-some x e)
or_same false x None t e h = h refl

-- a sound tracker that stays as it is
pub as_it_was : (t : SpeedTracker) (n : ℕ) (a said : Answer) (m : Tracker) → T (sound standard t) → n ≡ 0 → said ≡ a
    → view t ≡ m → Answers standard n t a said m t
as_it_was t n a said m s z e v =
    record {
      says = e ∙ sym (ap (λ (i : ℕ). unless i a) z);
      kept = λ h. refl;
      state = λ h. v;
      still = λ h. s;
    }
