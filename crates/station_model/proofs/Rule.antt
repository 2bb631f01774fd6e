-- An accepted switch call does what the rule says, and no other call changes the primary's serial. Assumes nothing.
use mathlib.Core.Path.{◌≡◌, refl, sym, ap, subst, ◌∙◌}
use mathlib.Core.Logic.{◌≢◌}
use mathlib.Core.Bool.{Bool, true, false, cond, ◌&&◌, and-false}
use mathlib.Core.List.{List, [], Memᴰ}
use mathlib.Core.Option.{Option, none, some}
use Prim.Native.Nat.{ℕ, zero, suc}
use native.Mathlib.Omega.{arith}
use lib.ListN.{get_elem?}
use lib.Dec.{leb}
use borrow.Author.Tests.{leb-false, lt-leb, ne_eqb}
use Rattle.ranges.specs.Settings.{Settings}
use Rattle.tracker.specs.Steps.{can_begin}
use Rattle.tracker.specs.Steps as Tracking
use Rattle.bank_model.specs.Model.{Hyp, Bank}
use Rattle.bank_model.specs.Steps.{Taken, fresh_bank, on, formerly, exchanged, observed, untaken, taken_at, taken_of, take_switch}
use Rattle.station_model.specs.declared.Event.{Event}
use Rattle.station_model.specs.declared.Event.TheVariants.{Mark, Gap, Finish, Seed, Hint, Clear, Switch}
use Rattle.station_model.specs.Station.{Station, Act, taken, ready, ind, switch_act, acted, accepted, refusal, outcome, step}
use Rattle.station_model.specs.Watch.{Call, call_on, serial_of, named, due, Moved, Ruled, SerialRule}
use Rattle.station_model.proofs.Lists.{by_cond, no, in_at}
use Rattle.station_model.proofs.Books.{in_among, ind_eq, among_set}
use Rattle.station_model.proofs.Sane.{Setup}
use Rattle.station_model.proofs.Memory.{Memory, Unique, serial_at}
use Rattle.station_model.proofs.Recall.{recorded}

same_width : (w : ℕ) → leb 2 (cond (leb 1 w) w 1) ≡ leb 2 w
same_width w = go (leb 1 w) refl
  where
    go : (x : Bool) → leb 1 w ≡ x → leb 2 (cond x w 1) ≡ leb 2 w
    go true e = refl
    go false e = sym (lt-leb 2 w (omega (arith, leb-false 1 w e)))

module _ (k : Settings) (calls : List Call) (s : Station) (width : ℕ) (switching : Bool) (u : Unique s) (setup : Setup (fresh_bank width switching) s.bank) (m : Memory k calls s) where
  due_off : on s.bank ≡ false → due k width switching calls ≡ none
  due_off e =
      let w : leb 2 width ≡ false = sym (same_width width) ∙ ap (leb 2) (sym setup.width) ∙ e in
      ap (λ (y : Bool). cond (switching && y) (named k calls) none) w ∙ ap (λ (y : Bool). cond y (named k calls) none) (and-false switching)

  due_still : s.bank.switching ≡ false → due k width switching calls ≡ none
  due_still e =
      let w : switching ≡ false = sym setup.switching ∙ e in
      ap (λ (y : Bool). cond (y && leb 2 width) (named k calls) none) w

  due_on : on s.bank ≡ true → s.bank.switching ≡ true → due k width switching calls ≡ named k calls
  due_on e f =
      let w : leb 2 width ≡ true = sym (same_width width) ∙ ap (leb 2) (sym setup.width) ∙ e in
      let v : switching ≡ true = sym setup.switching ∙ f in
      ap (λ (y : Bool). cond (y && leb 2 width) (named k calls) none) v ∙ ap (λ (y : Bool). cond y (named k calls) none) w

  due_none : named k calls ≡ none → due k width switching calls ≡ none
  due_none e = ap (λ (o : Option ℕ). cond (switching && leb 2 width) o none) e ∙ by_cond (λ (o : Option ℕ). o ≡ none) (switching && leb 2 width) (λ y. refl) (λ y. refl)

  abbrev Right : Taken → Type 0
  Right t = Ruled (due k width switching calls) (recorded s Switch (switch_act t))

  right_untaken : (b : Bank) → due k width switching calls ≡ none → Right (untaken b s.primary s.serial)
  right_untaken b e = subst (λ (o : Option ℕ). Ruled o (recorded s Switch (switch_act (untaken b s.primary s.serial)))) (sym e) ((refl, refl), refl)

  right_moved : (i : ℕ) (c : Hyp) → get_elem? s.bank.challengers i ≡ some c → due k width switching calls ≡ some c.serial → Right (exchanged s.bank s.primary s.serial i c)
  right_moved i c f e = subst (λ (o : Option ℕ). Ruled o (recorded s Switch (switch_act (exchanged s.bank s.primary s.serial i c)))) (sym e) ((refl, refl), moved)
    where
      mem : Memᴰ c s.bank.challengers
      mem = in_at s.bank.challengers i c f

      apart : c.serial ≢ s.serial
      apart z = omega (arith, u c.serial, in_among c s.bank.challengers mem, ind_eq c.serial s.serial z)

      moved : Moved c.serial s (accepted s (switch_act (exchanged s.bank s.primary s.serial i c))).station
      moved = record {
        mover = c;
        was = mem;
        its = refl;
        primary = refl;
        serial = refl;
        other = apart;
        former = omega (arith, among_set s.serial s.bank.challengers i (formerly s.bank s.primary s.serial) c f, u s.serial, ind_eq s.serial s.serial refl, ap ind (ne_eqb s.serial c.serial (λ z. apart (sym z))));
      }

  right_at : (i : ℕ) (o : Option Hyp) → on s.bank ≡ true → s.bank.pending ≡ some i → get_elem? s.bank.challengers i ≡ o → Right (taken_at s.bank s.primary s.serial i o)
  right_at i none e f g = right_untaken _ (due_none (sym m.chosen ∙ ap (λ (o : Option ℕ). serial_at o s.bank.challengers) f ∙ ap serial_of g))
  right_at i (some c) e f g =
      by_cond Right s.bank.switching
      (λ y. right_moved i c g (due_on e y ∙ sym m.chosen ∙ ap (λ (o : Option ℕ). serial_at o s.bank.challengers) f ∙ ap serial_of g))
      (λ y. right_untaken (observed s.bank s.primary i c) (due_still y))

  right_of : (o : Option ℕ) → on s.bank ≡ true → s.bank.pending ≡ o → Right (taken_of s.bank s.primary s.serial o)
  right_of none e f = right_untaken s.bank (due_none (sym m.chosen ∙ ap (λ (o : Option ℕ). serial_at o s.bank.challengers) f))
  right_of (some i) e f = right_at i (get_elem? s.bank.challengers i) e f refl

  right_switch : Right (take_switch s.bank s.primary s.serial)
  unfolding take_switch
  right_switch = by_cond Right (on s.bank) (λ e. right_of s.bank.pending e refl) (λ e. right_untaken s.bank (due_off e))

  right_outcome : (r : ℕ) → taken (outcome k s Switch r).answer.code ≡ true
      → Ruled (due k width switching calls) (record { event = Switch; answer = (outcome k s Switch r).answer; before = s; after = (outcome k s Switch r).station })
  right_outcome zero e = right_switch
  right_outcome (suc n) e = no (sym e)

  right_at_switch : taken (step k s Switch).answer.code ≡ true → Ruled (due k width switching calls) (call_on k s Switch)
  unfolding step
  right_at_switch e = right_outcome (refusal s Switch) e

  -- the switch rule
  pub right_step : (e : Event) → e ≡ Switch → taken (step k s e).answer.code ≡ true → Ruled (due k width switching calls) (call_on k s e)
  right_step e p = subst (λ (v : Event). taken (step k s v).answer.code ≡ true → Ruled (due k width switching calls) (call_on k s v)) (sym p) right_at_switch

  -- the primary's serial

  abbrev Kept : Event → Act → Type 0
  Kept e a = SerialRule (recorded s e a) []

  ruled_serial : (o : Option ℕ) (c : Call) → c.event ≡ Switch → Ruled o c → SerialRule c []
  ruled_serial none c e r = (λ n. absurd (n r.1), λ z. absurd (let q : ◌≡◌ {A = ℕ} 3 2 = sym r.0.1 ∙ z.1.1 in omega arith))
  ruled_serial (some k) c e r = (λ n. (e, r.0), λ z y. r.1.other (sym r.1.serial ∙ y))

  -- an event that is no switch
  kept_other : (e : Event) (a : Act) → ¬ (e ≡ Switch) → a.serial ≡ s.serial → Kept e a
  kept_other e a n q = (λ y. absurd (y q), λ z. absurd (n z.0))

  kept_acted : (e : Event) → Kept e (acted k s e)
  kept_acted (Mark d true) =
      let p = Tracking.on_mark k s.primary d in
      kept_other (Mark d true) (acted k s (Mark d true)) (λ z. no (cc)) (by_cond (λ (a : Act). a.serial ≡ s.serial) (ready s.primary) (λ y. refl) (λ y. by_cond (λ (a : Act). a.serial ≡ s.serial) (ready p) (λ w. refl) (λ w. refl)))
  kept_acted (Mark d false) = kept_other (Mark d false) (acted k s (Mark d false)) (λ z. no (cc)) refl
  kept_acted (Gap d) = kept_other (Gap d) (acted k s (Gap d)) (λ z. no (cc)) (by_cond (λ (a : Act). a.serial ≡ s.serial) (ready s.primary) (λ y. refl) (λ y. refl))
  kept_acted Finish = kept_other Finish (acted k s Finish) (λ z. no (cc)) (by_cond (λ (a : Act). a.serial ≡ s.serial) (can_begin s.primary) (λ y. refl) (λ y. refl))
  kept_acted (Seed v) = kept_other (Seed v) (acted k s (Seed v)) (λ z. no (cc)) refl
  kept_acted (Hint r) = kept_other (Hint r) (acted k s (Hint r)) (λ z. no (cc)) refl
  kept_acted Clear = kept_other Clear (acted k s Clear) (λ z. no (cc)) refl
  kept_acted Switch = ruled_serial (due k width switching calls) _ refl right_switch

  kept_outcome : (e : Event) (r : ℕ) → SerialRule (record { event = e; answer = (outcome k s e r).answer; before = s; after = (outcome k s e r).station }) []
  kept_outcome e zero = kept_acted e
  kept_outcome e (suc n) = (λ y. absurd (y refl), λ z. no (sym z.1.0))

  pub kept_step : (e : Event) → SerialRule (call_on k s e) []
  unfolding step
  kept_step e = kept_outcome e (refusal s e)
