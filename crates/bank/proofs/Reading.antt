-- The other reading of a bootstrap. Assumes nothing.
use Rattle.std.proofs.Common.{
  ◌≡◌,
  ℕ,
  ◌≤◌,
  Bool,
  true,
  false,
  cond,
  ◌&&◌,
  eqb,
  leb,
  List,
  [],
  sym,
  refl,
  ap,
  ◌∙◌,
  subst,
  leb→le,
}
use mathlib.Core.Option.{Option, none, some}
use Rattle.ranges.proofs.Compare.{passed}
use Rattle.bank_model.proofs.Tests.{and_right}
use lib.Ieee.{Float}
use Rattle.ranges.specs.Settings.{standard}
use Rattle.tracker.specs.declared.SpeedTracker.{SpeedTracker}
use Rattle.tracker.specs.Model.{Tracker}
use Rattle.tracker.specs.Model as Tracked
use Rattle.tracker.specs.Steps.{from_marks, three_to_one}
use Rattle.bank_model.specs.declared.Origin.TheVariants.{Bootstrap}
use Rattle.bank_model.specs.declared.logs.LogPair.{LogPair}
use Rattle.bank_model.specs.Model.{Bank, Told, stay}
use Rattle.bank_model.specs.Scores.{ln_dit, ln_dah}
use Rattle.bank_model.specs.Steps.{least_place, without, lone, spawned_at, spawned_if_at, on_ready}
use Rattle.bank_model.specs.Steps as Steps
use Rattle.bank_model.proofs.Ready.{from_ready, turned_ready}

abbrev pick : Tracker → Option Tracker → Tracker
pick d none = d
pick d (some x) = x

module _ (p : Tracker) (l : List Float) where
  abbrev by : Bool → Bool → Option Tracker
  by c o = cond c (cond o (some (from_marks standard (without (least_place l) l) [])) none) (three_to_one standard p)

  pub other_by : (c o : Bool) → p.pair.confirmed ≡ c → lone p l ≡ o → by c o ≡ Steps.other standard p l
  unfolding Steps.other
  other_by c o ec eo = sym (ap (λ (z : Bool). by z (lone p l)) ec ∙ ap (by c) eo)

  ready_if : (c o : Bool) (t : Tracker) → by c o ≡ some t → t.pair.ready ≡ true
  ready_if true true t e =
      subst (λ (x : Tracker). x.pair.ready ≡ true) (ap (pick p) e) (from_ready (without (least_place l) l) [])
  ready_if true false t e = cc
  ready_if false o t e = turned_ready standard p t e

  pub other_ready : (t : SpeedTracker) → some (Tracked.view t) ≡ Steps.other standard p l → t.pair.ready ≡ true
  other_ready t o =
      ready_if p.pair.confirmed (lone p l) (Tracked.view t) (other_by p.pair.confirmed (lone p l) refl refl ∙ sym o)

module _ (b : Bank) (p : Tracker) (l : List Float) where
  abbrev ready_by : Bool → Option Tracker → Told
  ready_by w o = cond w (spawned_if_at b (ln_dit p) (ln_dah p) Bootstrap o) (stay b)

  pub ready_off : leb 2 b.width ≡ false → stay b ≡ on_ready standard b p l
  unfolding on_ready
  ready_off e = ap (λ (z : Bool). ready_by z (Steps.other standard p l)) (sym e)

  pub ready_on : (k : LogPair) (o : Option Tracker) → leb 2 b.width ≡ true → (k.lo ≡ ln_dit p) × (k.hi ≡ ln_dah p) → o
      ≡ Steps.other standard p l → spawned_if_at b k.lo k.hi Bootstrap o ≡ on_ready standard b p l
  unfolding on_ready
  ready_on k o e el eo =
      ap (λ (z : Float). spawned_if_at b z k.hi Bootstrap o) el.0
      ∙ ap (λ (z : Float). spawned_if_at b (ln_dit p) z Bootstrap o) el.1 ∙ ap (ready_by true) eo
      ∙ ap (λ (z : Bool). ready_by z (Steps.other standard p l)) (sym e)

  pub ready_none : leb 2 b.width ≡ true → none ≡ Steps.other standard p l → stay b ≡ on_ready standard b p l
  ready_none e eo = ready_on (record { lo = ln_dit p; hi = ln_dah p }) none e (refl, refl) eo

-- a lone lock has three marks at least
pub lone_three : (n m : ℕ) → (eqb n 1 && leb 3 m) ≡ true → 3 ≤ m
lone_three n m e = leb→le 3 m (passed (and_right (eqb n 1) (leb 3 m) e))
