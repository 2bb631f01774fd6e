-- The short ways of an event: each is what a call makes of the station. Assumes nothing.
use mathlib.Core.Path.{◌≡◌, refl, ap, sym, ◌∙◌, subst}
use mathlib.Core.Bool.{Bool, true, false, ◌&&◌, false≢true}
use lib.Dec.{leb}
use lib.Ieee.{Float}
use Rattle.std.specs.Prelude as Held
use Rattle.std.specs.Prelude.{Some, None, is_some}
use mathlib.Core.Option.{none}
use Rattle.ranges.specs.Settings.{standard}
use Rattle.ranges.specs.declared.duration.Duration.{Duration}
use Rattle.pair.specs.Model.{held}
use Rattle.tracker.specs.declared.SpeedTracker.{SpeedTracker}
use Rattle.tracker.specs.Model.{Tracker}
use Rattle.tracker.specs.Model as Tracked
use Rattle.tracker.specs.Steps as Tracking
use Rattle.tracker.specs.Steps.{element_gap}
use Rattle.bank_model.specs.Model.{Bank, Told, stay}
use Rattle.bank_model.specs.Steps.{heard_mark, heard_gap, untaken, take_switch}
use Rattle.bank_model.proofs.Ready.{mark_ready}
use Rattle.bank.proofs.Hearing.{gap_by, mark_heard_by}
use Rattle.station_model.specs.declared.Event.{Event}
use Rattle.station_model.specs.declared.Code.TheVariants.{Done}
use Rattle.station_model.specs.Station.{act, acted, accepted, refusal, live_act, gap_act}
use Rattle.station.specs.declared.Station.{Station}
use Rattle.station.specs.declared.Outcome.{Outcome}
use Rattle.station.specs.View.{view}
use Rattle.station.specs.Parts.{Next, Solid, Stands, Steady}
use Rattle.station.specs.Pace.{Spaces}
use Rattle.station.proofs.Sounding.{solid_sound}
use Rattle.station.proofs.Answering.{answers}
use Rattle.station.proofs.Watching.{quiet_refusal}
use Rattle.station.proofs.Steadying.{steady_next}
use Rattle.station.proofs.Moving.{idle, gap_is}
use Rattle.bank.proofs.Pausing.{no_pause}

-- an accepted call that was done as the definitions say
pub stands_next : (s : Station) (e : Event) → Steady s → refusal (view s) e ≡ 0 → {f : Event} → e ≡ f → (r : Outcome) → Stands r (accepted (view s) (acted standard (view s) f)) → Next s e r
stands_next s e k z q r d =
    steady_next s e r k
    (answers s e r (quiet_refusal s e (solid_sound s k.solid) k.unready ∙ z) k.solid
    (subst (λ (x : Event). Stands r (accepted (view s) (acted standard (view s) x))) (sym q) d))

both : (a b : Bool) → (a && b) ≡ true → (a ≡ true) × (b ≡ true)
both true b e = (refl, e)
both false b e = absurd (false≢true e)

-- nothing is pending
pub unheld : {A : Type 0} (o : Held.Option A) → is_some o ≡ false → held o ≡ none
unheld None e = refl
unheld (Some x) e = absurd (false≢true (sym e))

pub idle_taken : (s : Station) → is_some s.bank.pending ≡ false → untaken (view s).bank (view s).primary s.serial ≡ take_switch (view s).bank (view s).primary s.serial
idle_taken s e = idle (view s).bank (view s).primary s.serial (unheld s.bank.pending e)

module _ (s : Station) (h : (s.primary.pair.ready && leb 2 s.bank.width) ≡ true) where
  pub heard_ready : s.primary.pair.ready ≡ true
  heard_ready = (both s.primary.pair.ready (leb 2 s.bank.width) h).0

  heard_wide : leb 2 s.bank.width ≡ true
  heard_wide = (both s.primary.pair.ready (leb 2 s.bank.width) h).1

  -- the primary learnt the mark d, and is q
  module _ (d : Float) (q : SpeedTracker) (e : Tracked.view q ≡ Tracking.on_mark standard (view s).primary d) where
    pub beat_ready : q.pair.ready ≡ true
    beat_ready = ap (λ (m : Tracker). m.pair.ready) e ∙ mark_ready standard (view s).primary d heard_ready

    heard_both : (leb 2 s.bank.width && q.pair.ready) ≡ true
    heard_both = ap (λ (x : Bool). x && q.pair.ready) heard_wide ∙ beat_ready

    pub beat_is : (u : Told) → u ≡ heard_mark standard (view s).bank (Tracked.view q) d true
        → act (view s) (Tracked.view q) u Done ≡ live_act standard (view s) d
    beat_is u t =
        let f = t ∙ mark_heard_by (view s).bank (Tracked.view q) d true true heard_both in
        rw (f, e, heard_ready)

  pub space_is : (d : Duration) → Solid s → (e : Event) → Spaces s e d → (q : Tracker) (b : Bank)
      → q ≡ element_gap standard (view s).primary d.ms → b ≡ heard_gap standard (view s).bank (view s).primary d.ms
      → act (view s) q (stay b) Done ≡ gap_act standard (view s) d.ms
  space_is d k e g q b eq eb =
      let r = heard_ready in
      let y = no_pause s.bank s.primary d.ms k.bank k.primary r g.brief in
      let w = ap (λ (x : Bool). x && s.primary.pair.ready) heard_wide ∙ r in
      gap_is standard (view s) d.ms q b r eq (eb ∙ gap_by (view s).bank (view s).primary d.ms true false w y)
