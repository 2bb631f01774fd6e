-- What a call makes of a sound station: the library's own call meets it, and a refused one leaves the station. Assumes nothing.
use mathlib.Core.Path.{◌≡◌, refl, ap, sym, ◌∙◌, subst}
use mathlib.Core.Bool.{Bool, true, false, cond, not, ◌&&◌, true≢false}
use mathlib.Core.List.{List, []}
use mathlib.Core.Option.{Option, none, some}
use Prim.Native.Nat.{ℕ, zero, suc, ◌+◌}
use native.Mathlib.Omega.{arith}
use lib.Dec.{T}
use lib.ListN.{take}
use lib.Ieee.Bits.{is_true}
use Rattle.std.specs.Prelude.{Option as Given, Some, None, is_some}
use Rattle.refusals.specs.declared.Refusal.{Refusal}
use Rattle.refusals.specs.Refusal.{of_number, number as refused}
use Rattle.ranges.specs.Settings.{Settings, standard}
use Rattle.pair.specs.Model.{held}
use Rattle.tracker.specs.Steps.{can_begin}
use Rattle.tracker.specs.Steps as Tracking
use Rattle.bank_model.specs.declared.Departure.{Departure}
use Rattle.bank_model.specs.Left.{those}
use Rattle.bank_model.specs.Steps.{take_switch}
use Rattle.station_model.specs.declared.Code.{Code}
use Rattle.station_model.specs.declared.Code.TheVariants as Codes
use Rattle.station_model.specs.declared.Event.{Event}
use Rattle.station_model.specs.declared.Event.TheVariants.{Mark, Gap, Finish, Seed, Hint, Clear, Switch}
use Rattle.station_model.specs.Station.{Act, number, taken, ready, acted, full, refusal, step}
use Rattle.station_model.specs.Station as Model
use Rattle.station_model.proofs.Lists.{by_cond}
use Rattle.station_model.proofs.Naming.{numbered}
use Rattle.station.specs.declared.Station.{Station}
use Rattle.station.specs.declared.Outcome.{Outcome}
use Rattle.station.specs.View.{outcome, view}
use Rattle.station.specs.Parts.{Next, NoOneLeft, Solid, Steady}
use Rattle.station.specs.Sound.{sound}
use Rattle.station.specs.Sound as Struct
use Rattle.station.specs.Answers.{Called, call_refusal}
use Rattle.station.proofs.Sounding.{solid_sound}
use Rattle.hullathan.specs.Host.{asked, choice_sound, chosen, refused_by}
use Rattle.hullathan.specs.Parts.{Turns}

-- ---- no R stands before the code of an accepted call

abbrev Taken : Code → Type 0
Taken c = taken c ≡ true

abbrev Acts : Act → Type 0
Acts a = taken a.code ≡ true

acts : (k : Settings) (s : Model.Station) (e : Event) → Acts (acted k s e)
acts k s (Mark d true) = by_cond Acts (ready s.primary) (λ i. refl) (λ i. by_cond Acts (ready (Tracking.on_mark k s.primary d)) (λ j. refl) (λ j. refl))
acts k s (Mark d false) = refl
acts k s (Gap d) = by_cond Acts (ready s.primary) (λ i. refl) (λ i. refl)
acts k s Finish = by_cond Acts (can_begin s.primary) (λ i. refl) (λ i. refl)
acts k s (Seed v) = by_cond Taken (ready s.primary) (λ i. refl) (λ i. refl)
acts k s (Hint r) = refl
acts k s Clear = refl
acts k s Switch = by_cond Taken (take_switch s.bank s.primary s.serial).switched (λ i. refl) (λ i. refl)

-- ---- an outcome: accepted, or the station as it was

pub record Sorted (m : Model.Station) (o : Model.Outcome) : Type 0 where
  pub same : taken o.answer.code ≡ false → o.station ≡ m
  pub counts : taken o.answer.code ≡ true → o.station.accepted ≡ m.accepted + 1

abbrev Sorts : Model.Station → Model.Outcome → Type 0
Sorts m o = Sorted m o

refused_sorts : (m : Model.Station) (o : Model.Outcome) → o.station ≡ m → taken o.answer.code ≡ false
    → Sorted m o
refused_sorts m o s t = record { same = λ e. s; counts = λ e. absurd (true≢false (sym e ∙ t)) }

outcome_sorts : (m : Model.Station) (e : Event) (n : ℕ) → Sorted m (Model.outcome standard m e n)
outcome_sorts m e zero = record { same = λ f. absurd (true≢false (sym (acts standard m e) ∙ f)); counts = λ f. refl }
outcome_sorts m e (suc n) = record { same = λ f. refl; counts = λ f. absurd (true≢false (sym f)) }

step_sorts : (m : Model.Station) (e : Event) → Sorted m (step standard m e)
unfolding step
step_sorts m e = outcome_sorts m e (refusal m e)

pub asked_sorts : (m : Model.Station) (o : Option Event) → Sorted m (asked m o)
unfolding asked
asked_sorts m none = refused_sorts m (asked m none) refl refl
asked_sorts m (some e) =
    by_cond (Sorts m) (choice_sound m e) (λ i. step_sorts m e) (λ i. refused_sorts m (refused_by 1 m) refl refl)

-- ---- the library's own call

-- refusal 1 at a switch, on the struct and on what it means
held_chosen : (x : Given ℕ) → chosen (held x) ≡ is_some x
held_chosen None = refl
held_chosen (Some i) = refl

choice_same : (s : Station) (e : Event) → choice_sound (view s) e ≡ Struct.choice_sound s e
choice_same s (Mark d live) = refl
choice_same s (Gap d) = refl
choice_same s Finish = refl
choice_same s (Seed v) = refl
choice_same s (Hint r) = refl
choice_same s Clear = refl
choice_same s Switch = ap (λ (b : Bool). not (b && not s.primary.pair.ready)) (held_chosen s.bank.pending)

refused_code : (c : Code) (n : ℕ) → taken c ≡ false → number c ≡ n → c ≡ Codes.Refused (of_number n)
refused_code Codes.Done n t e = absurd (true≢false t)
refused_code Codes.BecameReady n t e = absurd (true≢false t)
refused_code Codes.Switched n t e = absurd (true≢false t)
refused_code Codes.Nothing n t e = absurd (true≢false t)
refused_code (Codes.Refused r) n t e = ap Codes.Refused (sym (numbered r).is ∙ ap of_number e)

abbrev an_outcome : Model.Station → Code → List Departure → Model.Outcome
an_outcome m c l = record { station = m; answer = record { code = c; departures = l } }

-- an outcome that hands s back
refused_is : (s : Station) (n : ℕ) (o : Outcome) → o.answer.code ≡ Codes.Refused (of_number n) → o.station ≡ s → those o.answer.gone ≡ [] → outcome o ≡ refused_by n (view s)
refused_is s n o c h l = λ i. an_outcome (view (h i)) (c i) (l i)

step_refused : (m : Model.Station) (e : Event) (n : ℕ) → refusal m e ≡ suc n → step standard m e ≡ refused_by (suc n) m
unfolding step
step_refused m e n z = ap (Model.outcome standard m e) z

module _ (s : Station) (e : Event) (o : Outcome) (h : T (sound standard s)) (c : Called standard s e o) where
  which : call_refusal standard s e ≡ cond (choice_sound (view s) e) (refusal (view s) e) 1
  which =
      ap (λ (b : Bool). cond (b && Struct.choice_sound s e) (refusal (view s) e) 1) (is_true (sound standard s) h)
      ∙ ap (λ (b : Bool). cond b (refusal (view s) e) 1) (sym (choice_same s e))

  refused_by_law : (n : ℕ) → call_refusal standard s e ≡ suc n → outcome o ≡ refused_by (suc n) (view s)
  refused_by_law n z =
      let h : call_refusal standard s e ≡ 0 → ⊥ = λ y. (let x : ◌≡◌ {A = ℕ} (suc n) 0 = sym z ∙ y in omega arith) in
      let w = c.kept h in
      refused_is s (suc n) o (refused_code o.answer.code (suc n) (c.says h).0 ((c.says h).1 ∙ z)) w.0 (ap (λ (j : ℕ). take j o.answer.gone.left) w.1)

  by_refusal : choice_sound (view s) e ≡ true → (n : ℕ) → refusal (view s) e ≡ n → outcome o ≡ step standard (view s) e
  by_refusal b zero z = c.state (which ∙ rw b z)
  by_refusal b (suc n) z = refused_by_law n (which ∙ rw b z) ∙ sym (step_refused (view s) e n z)

  pub call_asked : outcome o ≡ asked (view s) (some e)
  unfolding asked
  call_asked = by_cond (λ r. outcome o ≡ r) (choice_sound (view s) e) (λ b. by_refusal b (refusal (view s) e) refl) (λ b. refused_by_law 0 (which ∙ rw b))

-- ---- nothing is pending beside an unready primary: refusal 1 never holds

unready_choice : (p : Option ℕ) (r : Bool) → (r ≡ false → p ≡ none) → not (chosen p && not r) ≡ true
unready_choice none r f = refl
unready_choice (some i) true f = refl
unready_choice (some i) false f = ap (λ (p : Option ℕ). not (chosen p && true)) (f refl)

pub quiet_choice : (m : Model.Station) (e : Event) → (ready m.primary ≡ false → m.bank.pending ≡ none) → choice_sound m e ≡ true
quiet_choice m (Mark d live) s = refl
quiet_choice m (Gap d) s = refl
quiet_choice m Finish s = refl
quiet_choice m (Seed v) s = refl
quiet_choice m (Hint r) s = refl
quiet_choice m Clear s = refl
quiet_choice m Switch s = unready_choice m.bank.pending (ready m.primary) s

-- ---- one turn

pub turns_call : (s : Station) (e : Event) (o : Outcome) → Solid s → Called standard s e o × Solid o.station → Turns s (some e) o
turns_call s e o h c = record { is = call_asked s e o (solid_sound s h) c.0; solid = c.1 }

pub turns_next : (s : Station) (e : Event) (o : Outcome) → Steady s → Next s e o → Turns s (some e) o
unfolding asked
turns_next s e o h n = record { is = n.is ∙ sym (rw (quiet_choice (view s) e h.unready)); solid = n.steady.solid }

pub turns_none : (s : Station) (r : Refusal) (o : Outcome) → Solid s → refused r ≡ cond (full (view s)) 2 12 → NoOneLeft s (Codes.Refused r) o → Turns s none o
unfolding asked
turns_none s r o h e c = record {
  is = refused_is s (refused r) o (c.code ∙ ap Codes.Refused (sym (numbered r).is)) c.station c.none ∙ ap (λ (j : ℕ). refused_by j (view s)) e;
  solid = subst Solid (sym c.station) h;
}
