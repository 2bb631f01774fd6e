-- The marks that the rule takes as heard are those that the bank itself counts. Assumes nothing.
use mathlib.Core.Path.{◌≡◌, refl, sym, ap, ◌∙◌}
use mathlib.Core.Bool.{Bool, true, false, cond, ◌&&◌, and-false}
use mathlib.Core.List.{List, [], ◌∷◌}
use mathlib.Core.Option.{Option, none, some}
use Prim.Native.Nat.{ℕ, zero, suc, ◌+◌}
use native.Mathlib.Omega.{arith}
use lib.ListN.{length, get_elem?}
use lib.Ieee.{Float}
use Rattle.ranges.specs.Settings.{Settings}
use Rattle.tracker.specs.Model.{Tracker}
use Rattle.tracker.specs.Steps.{can_begin, bootstrapped}
use Rattle.tracker.specs.Steps as Tracking
use Rattle.bank_model.specs.Model.{Hyp, Bank, Told, stay}
use Rattle.bank_model.specs.Steps.{Taken, on, hears, on_mark, clear, taken_at, taken_of, take_switch}
use Rattle.bank_model.proofs.Ready.{mark_ready}
use Rattle.station_model.specs.declared.Event.{Event}
use Rattle.station_model.specs.declared.Event.TheVariants.{Mark, Gap, Finish, Seed, Hint, Clear, Switch}
use Rattle.station_model.specs.declared.Code.TheVariants.{Done, BecameReady, Switched, Nothing}
use Rattle.station_model.specs.Station.{Station, Act, taken, ready, fresh, ind, act, ready_act, switch_act, acted, refusal, outcome, step}
use Rattle.station_model.specs.Watch.{call_on, calls_of, station_after, heard, marks_heard, add_if}
use Rattle.station_model.proofs.Lists.{by_cond}
use Rattle.station_model.proofs.Sane.{spawns_ready, still_gap, hears_mark}
use Rattle.station_model.proofs.Recall.{recorded}

marks_clear : (b : Bank) → (clear b).bank.marks ≡ b.marks
unfolding clear
marks_clear b = by_cond (λ (u : Told). u.bank.marks ≡ b.marks) (on b) (λ x. refl) (λ x. refl)

marks_at : (b : Bank) (p : Tracker) (n i : ℕ) (o : Option Hyp) → (taken_at b p n i o).bank.marks ≡ b.marks
marks_at b p n i none = refl
marks_at b p n i (some c) =
    by_cond (λ (t : Taken). t.bank.marks ≡ b.marks) b.switching (λ x. refl)
    (λ x. by_cond (λ (d : Bank). d.marks ≡ b.marks) c.reported (λ y. refl) (λ y. refl))

marks_of : (b : Bank) (p : Tracker) (n : ℕ) (o : Option ℕ) → (taken_of b p n o).bank.marks ≡ b.marks
marks_of b p n none = refl
marks_of b p n (some i) = marks_at b p n i (get_elem? b.challengers i)

marks_take : (b : Bank) (p : Tracker) (n : ℕ) → (take_switch b p n).bank.marks ≡ b.marks
unfolding take_switch
marks_take b p n = by_cond (λ (t : Taken). t.bank.marks ≡ b.marks) (on b) (λ x. marks_of b p n b.pending) (λ x. refl)

module _ (k : Settings) (s : Station) where
  -- the bank counts a mark exactly in a call in which it heard one
  abbrev Counts : Event → Act → Type 0
  Counts e a = a.told.bank.marks ≡ ind (heard (recorded s e a)) + s.bank.marks

  quiet : (e : Event) (a : Act) → heard (recorded s e a) ≡ false → a.told.bank.marks ≡ s.bank.marks → Counts e a
  quiet e a h m = omega (arith, ap ind h)

  counts_mark : (q : Tracker) (d : Float) (live : Bool) → ready q ≡ ready s.primary → Counts (Mark d live) (act s q (on_mark k s.bank q d live) Done)
  unfolding on_mark
  counts_mark q d live same =
      by_cond (λ (t : Told). Counts (Mark d live) (act s q t Done)) (hears s.bank q)
      (λ e. omega (arith, (hears_mark k s.bank q d live).marks, ap ind (ap (λ (y : Bool). on s.bank && y) (sym same) ∙ e)))
      (λ e. quiet (Mark d live) (act s q (stay s.bank) Done) (ap (λ (y : Bool). on s.bank && y) (sym same) ∙ e) refl)

  counts_ready : (e : Event) (q : Tracker) → heard (recorded s e (ready_act k s q)) ≡ false → Counts e (ready_act k s q)
  counts_ready e q h = quiet e (ready_act k s q) h (spawns_ready k s.bank q q.recent).still.marks

  counts_live : (d : Float) → Counts (Mark d true) (acted k s (Mark d true))
  counts_live d =
      let q = Tracking.on_mark k s.primary d in
      by_cond (Counts (Mark d true)) (ready s.primary)
      (λ e. counts_mark q d true (mark_ready k s.primary d e ∙ sym e))
      (λ e. by_cond (Counts (Mark d true)) (ready q) (λ y. counts_ready (Mark d true) q (unheard e)) (λ y. quiet (Mark d true) (act s q (stay s.bank) Done) (unheard e) refl))
    where
      unheard : ready s.primary ≡ false → (on s.bank && ready s.primary) ≡ false
      unheard n = ap (λ (y : Bool). on s.bank && y) n ∙ and-false (on s.bank)

  counts_acted : (e : Event) → Counts e (acted k s e)
  counts_acted (Mark d true) = counts_live d
  counts_acted (Mark d false) = counts_mark s.primary d false refl
  counts_acted (Gap d) = by_cond (Counts (Gap d)) (ready s.primary) (λ e. omega (arith, (still_gap k s.bank s.primary d).marks)) (λ e. omega arith)
  counts_acted Finish = by_cond (Counts Finish) (can_begin s.primary) (λ e. counts_ready Finish (bootstrapped k s.primary) refl) (λ e. omega arith)
  counts_acted (Seed v) = quiet (Seed v) (acted k s (Seed v)) (and-false (taken (cond (ready s.primary) Done BecameReady))) (marks_clear s.bank)
  counts_acted (Hint r) = omega arith
  counts_acted Clear = omega (arith, marks_clear s.bank)
  counts_acted Switch =
      let t = take_switch s.bank s.primary s.serial in
      quiet Switch (switch_act t) (and-false (taken (cond t.switched Switched Nothing))) (marks_take s.bank s.primary s.serial)

  counts_outcome : (e : Event) (r : ℕ)
      → (outcome k s e r).station.bank.marks ≡ ind (heard (record { event = e; answer = (outcome k s e r).answer; before = s; after = (outcome k s e r).station })) + s.bank.marks
  counts_outcome e zero = counts_acted e
  counts_outcome e (suc n) = omega arith

  counts_step : (e : Event) → (step k s e).station.bank.marks ≡ ind (heard (call_on k s e)) + s.bank.marks
  unfolding step
  counts_step e = counts_outcome e (refusal s e)

length_add_if : (x : Bool) (m : Station) (l : List Station) → length (add_if x m l) ≡ ind x + length l
length_add_if true m l = omega arith
length_add_if false m l = omega arith

pub heard_counted : (k : Settings) (width : ℕ) (switching : Bool) (events : List Event) → (station_after k (fresh width switching) events).bank.marks ≡ length (marks_heard (calls_of k (fresh width switching) events))
unfolding station_after calls_of marks_heard
heard_counted k width switching [] = refl
heard_counted k width switching (e ∷ events) =
    let s = station_after k (fresh width switching) events in
    counts_step k s e
    ∙ ap (λ (n : ℕ). ind (heard (call_on k s e)) + n) (heard_counted k width switching events)
    ∙ sym (length_add_if (heard (call_on k s e)) (call_on k s e).after (marks_heard (calls_of k (fresh width switching) events)))
