-- A call of a bank, and so one of a station, starts one hypothesis at most. Assumes nothing.
use mathlib.Core.Bool.{Bool, true, false}
use mathlib.Core.List.{List}
use mathlib.Core.Option.{Option, none, some}
use Prim.Native.Nat.{ℕ, suc, ◌≤◌}
use native.Mathlib.Omega.{arith}
use lib.ListN.{get_elem?}
use lib.Ieee.{Float}
use Rattle.ranges.specs.Settings.{Settings}
use Rattle.tracker.specs.Model.{Tracker}
use Rattle.tracker.specs.Steps.{can_begin, bootstrapped}
use Rattle.tracker.specs.Steps as Tracking
use Rattle.bank_model.specs.declared.Origin.{Origin}
use Rattle.bank_model.specs.declared.Origin.TheVariants.{Bootstrap, Streak}
use Rattle.bank_model.specs.Model.{Hyp, Evidence, Bank, Told, with_evidence}
use Rattle.bank_model.specs.Scores.{ln_dit, ln_dah}
use Rattle.bank_model.specs.Steps.{on, hears, duplicate_at, roomy, newborn, victim, replaced_by, replacing, spawned_at, spawned_if_at, other, on_ready, scored, streak_on, emptied, candidate_at, short, streak_end, streak_at, high, pruned_at, qualified, on_mark, pausing, on_gap, clear}
use Rattle.station_model.specs.declared.Event.{Event}
use Rattle.station_model.specs.declared.Event.TheVariants.{Mark, Gap, Finish, Seed, Hint, Clear, Switch}
use Rattle.station_model.specs.Station.{Station, Act, ready, acted}
use Rattle.station_model.proofs.Lists.{by_cond}
use Rattle.station_model.proofs.Books.{following_le}
use Rattle.station_model.proofs.Fair.{fair_take}

abbrev pub One : Bank → Bank → Type 0
One b c = c.started ≤ suc b.started

one_replaced_by : (b : Bank) (h : Hyp) (i : ℕ) (v : Option Hyp) → One b (replaced_by b h i v).bank
one_replaced_by b h i none = omega arith
one_replaced_by b h i (some v) = following_le b.started

one_replacing : (b : Bank) (h : Hyp) (i : Option ℕ) → One b (replacing b h i).bank
one_replacing b h none = omega arith
one_replacing b h (some i) = one_replaced_by b h i (get_elem? b.challengers i)

one_spawned : (b : Bank) (lo hi : Float) (o : Origin) (t : Tracker) → One b (spawned_at b lo hi o t).bank
unfolding spawned_at
one_spawned b lo hi o t =
    by_cond (λ (u : Told). One b u.bank) (duplicate_at b lo hi t) (λ x. omega arith)
    (λ x. by_cond (λ (u : Told). One b u.bank) (roomy b) (λ y. following_le b.started)
    (λ y. one_replacing b (newborn b t o) (victim b.challengers)))

one_spawned_if : (b : Bank) (lo hi : Float) (o : Origin) (t : Option Tracker) → One b (spawned_if_at b lo hi o t).bank
one_spawned_if b lo hi o none = omega arith
one_spawned_if b lo hi o (some t) = one_spawned b lo hi o t

pub one_clear : (b : Bank) → One b (clear b).bank
unfolding clear
one_clear b = by_cond (λ (u : Told). One b u.bank) (on b) (λ x. omega arith) (λ x. omega arith)

module _ (k : Settings) where
  pub one_ready : (b : Bank) (p : Tracker) (marks : List Float) → One b (on_ready k b p marks).bank
  unfolding on_ready
  one_ready b p marks = by_cond (λ (u : Told). One b u.bank) (on b) (λ x. one_spawned_if b (ln_dit p) (ln_dah p) Bootstrap (other k p marks)) (λ x. omega arith)

  one_streak_end : (b : Bank) (lo hi : Float) (v : Evidence) → One b (streak_end k b lo hi v).bank
  one_streak_end b lo hi v =
      by_cond (λ (u : Told). One b u.bank) (short v) (λ x. omega arith)
      (λ x. one_spawned_if (with_evidence b (emptied v)) lo hi Streak (candidate_at k lo hi v))

  pub one_mark : (b : Bank) (p : Tracker) (d : Float) (live : Bool) → One b (on_mark k b p d live).bank
  unfolding on_mark qualified pruned_at streak_at
  one_mark b p d live =
      by_cond (λ (u : Told). One b u.bank) (hears b p)
      (λ x. by_cond (λ (u : Told). One b u.bank) live
      (λ y. one_streak_end (scored k b p d live) (ln_dit p) (ln_dah p) (streak_on (scored k b p d live).evidence (high p d) d b.evidence.last_gap))
      (λ y. omega arith))
      (λ x. omega arith)

  pub one_gap : (b : Bank) (p : Tracker) (d : Float) → One b (on_gap k b p d)
  unfolding on_gap
  one_gap b p d =
      by_cond (λ (c : Bank). One b c) (hears b p)
      (λ x. by_cond (λ (c : Bank). One b c) (pausing k b p d) (λ y. omega arith) (λ y. omega arith))
      (λ x. omega arith)

  abbrev OneAct : Station → Act → Type 0
  OneAct s a = One s.bank a.told.bank

  pub one_acted : (s : Station) (e : Event) → OneAct s (acted k s e)
  one_acted s (Mark d true) =
      let p = Tracking.on_mark k s.primary d in
      by_cond (OneAct s) (ready s.primary) (λ x. one_mark s.bank p d true) (λ x. by_cond (OneAct s) (ready p) (λ y. one_ready s.bank p p.recent) (λ y. omega arith))
  one_acted s (Mark d false) = one_mark s.bank s.primary d false
  one_acted s (Gap d) = by_cond (OneAct s) (ready s.primary) (λ x. one_gap s.bank s.primary d) (λ x. omega arith)
  one_acted s Finish = let p = bootstrapped k s.primary in by_cond (OneAct s) (can_begin s.primary) (λ x. one_ready s.bank p p.recent) (λ x. omega arith)
  one_acted s (Seed v) = one_clear s.bank
  one_acted s (Hint r) = omega arith
  one_acted s Clear = one_clear s.bank
  one_acted s Switch = omega (arith, (fair_take s.bank s.primary s.serial).started)
