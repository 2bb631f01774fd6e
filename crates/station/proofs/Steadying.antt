-- Nothing is pending while the primary is unready: no call changes that, and so none is refused by 1. Assumes nothing.
use mathlib.Core.Path.{◌≡◌, refl, ap, sym, ◌∙◌, subst}
use mathlib.Core.Bool.{Bool, true, false}
use mathlib.Core.Option.{Option, none, some}
use Prim.Native.Nat.{ℕ, zero, suc}
use lib.ListN.{get_elem?}
use lib.Ieee.{Float}
use Rattle.ranges.specs.Settings.{Settings, standard}
use Rattle.tracker.specs.Model.{Tracker}
use Rattle.tracker.specs.Steps.{seeded, can_begin, bootstrapped}
use Rattle.tracker.specs.Steps as Tracking
use Rattle.bank_model.specs.Model.{Hyp, Bank, Told}
use Rattle.bank_model.specs.Steps.{Taken, on, hears, on_mark, clear, taken_at, taken_of, take_switch}
use Rattle.bank_model.proofs.Ready.{mark_ready}
use Rattle.station_model.specs.declared.Event.{Event}
use Rattle.station_model.specs.declared.Event.TheVariants.{Mark, Gap, Finish, Seed, Hint, Clear, Switch}
use Rattle.station_model.specs.Station.{Act, ready, live_act, acted, refusal, step}
use Rattle.station_model.specs.Station as Model
use Rattle.station_model.proofs.Lists.{by_cond, no, and_true}
use Rattle.station_model.proofs.Trackers.{gap_same, hint_same, begin_unready}
use Rattle.station_model.proofs.Sane.{spawns_ready}
use Rattle.station.specs.declared.Station.{Station}
use Rattle.station.specs.declared.Outcome.{Outcome}
use Rattle.station.specs.View.{view}
use Rattle.station.specs.Parts.{Solid, Steady, Next}
use Rattle.station.specs.Answers.{Called}
use Rattle.station.proofs.Sounding.{solid_sound}
use Rattle.station.proofs.Watching.{Quiet, after}

abbrev Still : Tracker → Bank → Type 0
Still p b = ready p ≡ false → b.pending ≡ none

abbrev StillAct : Act → Type 0
StillAct a = Still a.primary a.told.bank

-- ---- the calls of a bank
module _ (k : Settings) (p : Tracker) (b : Bank) (u : Still p b) where
  still_mark : (d : Float) (live : Bool) → Still p (on_mark k b p d live).bank
  unfolding on_mark
  still_mark d live = by_cond (λ (t : Told). Still p t.bank) (hears b p) (λ e x. no (sym (and_true (on b) (ready p) e).1 ∙ x)) (λ e. u)

  still_clear : Still p (clear b).bank
  unfolding clear
  still_clear = by_cond (λ (t : Told). Still p t.bank) (on b) (λ e x. refl) (λ e. u)

  still_at : (n i : ℕ) (o : Option Hyp) → Still (taken_at b p n i o).primary (taken_at b p n i o).bank
  still_at n i none = λ x. refl
  still_at n i (some c) =
      by_cond (λ (t : Taken). Still t.primary t.bank) b.switching (λ e x. refl)
      (λ e. by_cond (λ (d : Bank). Still p d) c.reported (λ y x. refl) (λ y x. refl))

  still_of : (n : ℕ) (o : Option ℕ) → Still (taken_of b p n o).primary (taken_of b p n o).bank
  still_of n none = u
  still_of n (some i) = still_at n i (get_elem? b.challengers i)

  still_take : (n : ℕ) → Still (take_switch b p n).primary (take_switch b p n).bank
  unfolding take_switch
  still_take n = by_cond (λ (t : Taken). Still t.primary t.bank) (on b) (λ e. still_of n b.pending) (λ e. u)

seed_ready : (k : Settings) (p : Tracker) (v : Float) → ready (seeded k p v) ≡ true
unfolding seeded
seed_ready k p v = refl

-- ---- an event
module _ (k : Settings) (m : Model.Station) (u : Quiet m) where
  abbrev p : Tracker
  p = m.primary

  still_live : (d : Float) → StillAct (live_act k m d)
  still_live d =
      by_cond StillAct (ready p) (λ e x. no (sym (mark_ready k p d e) ∙ x))
      (λ e. by_cond StillAct (ready (Tracking.on_mark k p d)) (λ y x. no (sym y ∙ x)) (λ y x. u e))

  quiet_acted : (e : Event) → StillAct (acted k m e)
  quiet_acted (Mark d true) = still_live d
  quiet_acted (Mark d false) = still_mark k p m.bank u d false
  quiet_acted (Gap d) = by_cond StillAct (ready p) (λ e x. no (sym (gap_same k p d ∙ e) ∙ x)) (λ e. u)
  quiet_acted Finish =
      by_cond StillAct (can_begin p)
      (λ e x. let q = bootstrapped k p in (spawns_ready k m.bank q q.recent).still.pending ∙ u (begin_unready p e))
      (λ e. u)
  quiet_acted (Seed v) = λ x. no (sym (seed_ready k p v) ∙ x)
  quiet_acted (Hint r) = λ x. u (sym (hint_same k p r) ∙ x)
  quiet_acted Clear = still_clear k p m.bank u
  quiet_acted Switch = still_take k p m.bank u m.serial

  quiet_outcome : (e : Event) (n : ℕ) → Quiet (Model.outcome k m e n).station
  quiet_outcome e zero = quiet_acted e
  quiet_outcome e (suc n) = u

  pub quiet_step : (e : Event) → Quiet (step k m e).station
  unfolding step
  quiet_step e = quiet_outcome e (refusal m e)

-- ---- a call of the program on a steady station
pub steady_next : (s : Station) (e : Event) (r : Outcome) → Steady s → Called standard s e r × Solid r.station → Next s e r
steady_next s e r k c =
    let w = (after s e r (solid_sound s k.solid) k.unready c.0).1 in
    record {
      is = w;
      steady = record { solid = c.1; unready = subst Quiet (sym (ap (λ (x : Model.Outcome). x.station) w)) (quiet_step standard (view s) k.unready e) };
    }
