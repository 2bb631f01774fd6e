-- Each call keeps the memory. Assumes nothing.
use mathlib.Core.Path.{◌≡◌, refl, sym, ap, ◌∙◌}
use mathlib.Core.Bool.{Bool, true, false, cond, ◌&&◌, and-false}
use mathlib.Core.List.Memᴰ
use mathlib.Core.List.{List, [], ◌∷◌, map}
use mathlib.Core.Option.{Option, none, some}
use Prim.Native.Nat.{ℕ, zero, suc}
use native.Mathlib.Omega.{arith}
use lib.ListN.{get_elem?}
use lib.Ieee.{Float}
use Rattle.ranges.specs.Settings.{Settings}
use Rattle.tracker.specs.Model.{Tracker}
use Rattle.tracker.specs.Steps.{element_gap, set_hint, seeded, can_begin, bootstrapped}
use Rattle.tracker.specs.Steps as Tracking
use Rattle.bank_model.specs.Model.{Hyp, Bank, Told, stay, and_then}
use Rattle.bank_model.specs.Steps.{Taken, on, hears, on_ready, marked_told, pruned, heard_mark, on_mark, gapped, pausing, on_gap, clear, formerly, exchanged, reporting, unpended, untaken, taken_at, taken_of, take_switch}
use Rattle.bank_model.proofs.Ready.{mark_ready}
use Rattle.station_model.specs.declared.Event.{Event}
use Rattle.station_model.specs.declared.Event.TheVariants.{Mark, Gap, Finish, Seed, Hint, Clear, Switch}
use Rattle.station_model.specs.declared.Code.{Code}
use Rattle.station_model.specs.declared.Code.TheVariants.{Done, BecameReady, Switched, Nothing}
use Rattle.station_model.specs.Station.{Station, Act, taken, ready, fresh, act, ready_act, learnt_act, finish_act, switch_act, acted, accepted, refusal, outcome, step}
use Rattle.station_model.specs.Watch.{Call, call_on, heard, ended, marks_heard, serial_of, named}
use Rattle.station_model.proofs.Lists.{by_cond, in_at}
use Rattle.station_model.proofs.Books.{ind_eq}
use Rattle.station_model.proofs.Fair.{Spare, serial_gapped, fair_heard, fair_ready, fair_gap, fair_clear}
use Rattle.station_model.proofs.Ledger.{FairAct, fair_act, Books}
use Rattle.station_model.proofs.Every.{every_set}
use Rattle.station_model.proofs.Turns.{Comes, old, new, AllCome, come_same, come_ready, come_mark, come_gap}
use Rattle.station_model.proofs.Trackers.{begin_unready}
use Rattle.station_model.proofs.Sane.{spawns_ready, still_gap}
use Rattle.station_model.proofs.Memory.{Memory, Free, Unique, serial_at, streak_of, free_next, memory_quiet, memory_ended, memory_heard}

abbrev pub recorded : Station → Event → Act → Call
recorded s e a = record { event = e; answer = (accepted s a).answer; before = s; after = (accepted s a).station }

pub unique_of : (calls : List Call) (s : Station) → Books calls s → Unique s
unique_of calls s b n = omega (arith, b.once n)

pub unique_act : (s : Station) (a : Act) → Unique s → FairAct s a → Unique (accepted s a).station
unique_act s a u f n = omega (arith, u n, f.kept n)

serial_map : (f : Hyp → Hyp) → ((h : Hyp) → (f h).serial ≡ h.serial) → (l : List Hyp) (i : ℕ) → serial_of (get_elem? (map f l) i) ≡ serial_of (get_elem? l i)
serial_map f same [] i = refl
serial_map f same (h ∷ l) zero = ap {B = Option ℕ} some (same h)
serial_map f same (h ∷ l) (suc i) = serial_map f same l i

serial_at_map : (f : Hyp → Hyp) → ((h : Hyp) → (f h).serial ≡ h.serial) → (o : Option ℕ) (l : List Hyp) → serial_at o (map f l) ≡ serial_at o l
serial_at_map f same none l = refl
serial_at_map f same (some i) l = serial_map f same l i

still_chosen : (k : Settings) (b : Bank) (p : Tracker) (d : Float) → serial_at (on_gap k b p d).pending (on_gap k b p d).challengers ≡ serial_at b.pending b.challengers
unfolding on_gap
still_chosen k b p d =
    by_cond (λ (c : Bank). serial_at c.pending c.challengers ≡ serial_at b.pending b.challengers) (hears b p)
    (λ x. by_cond (λ (c : Bank). serial_at c.pending c.challengers ≡ serial_at b.pending b.challengers) (pausing k b p d)
    (λ y. refl)
    (λ y. serial_at_map (gapped k d) (serial_gapped k d) b.pending b.challengers))
    (λ x. refl)

clear_come : (F : ℕ → Type 0) (b : Bank) → AllCome F b false (clear b).bank.challengers
unfolding clear
clear_come F b = by_cond (λ (t : Told). AllCome F b false t.bank.challengers) (on b) (λ e h m. absurd (Memᴰ.not-nil m)) (λ e. come_same F b)

clear_out : (b : Bank) → (on b ≡ false → b.pending ≡ none) → (clear b).bank.pending ≡ none
unfolding clear
clear_out b off = by_cond (λ (t : Told). t.bank.pending ≡ none) (on b) (λ e. refl) (λ e. off e)

taken_either : (x : Bool) (a b : Code) → taken a ≡ true → taken b ≡ true → taken (cond x a b) ≡ true
taken_either true a b p q = p
taken_either false a b p q = q

module _ (k : Settings) (calls : List Call) (s : Station) (u : Unique s) (off : on s.bank ≡ false → s.bank.pending ≡ none) (unready : ready s.primary ≡ false → s.bank.pending ≡ none) (m : Memory k calls s) where
  abbrev After : Event → Act → Type 0
  After e a = Memory k (recorded s e a ∷ calls) (accepted s a).station

  -- a call that leaves the bank as it is
  memory_idle : (e : Event) (q : Tracker) (c : Code) → heard (recorded s e (act s q (stay s.bank) c)) ≡ false → ended (recorded s e (act s q (stay s.bank) c)) ≡ false → After e (act s q (stay s.bank) c)
  memory_idle e q c p r = memory_quiet k calls (recorded s e (act s q (stay s.bank) c)) m p r (come_same (Free k calls s) s.bank) refl (omega arith) refl (λ i z. z)

  memory_mark : (q : Tracker) (d : Float) (live : Bool) → Spare s.bank → ready q ≡ ready s.primary → After (Mark d live) (act s q (on_mark k s.bank q d live) Done)
  unfolding on_mark
  memory_mark q d live h same =
      by_cond (λ (t : Told). After (Mark d live) (act s q t Done)) (hears s.bank q)
      (λ e. let a = act s q (heard_mark k s.bank q d live) Done in
      memory_heard k calls s m (Mark d live) (accepted s a).answer q s.serial (and_then (marked_told k s.bank q d live) (pruned k q)).bank (accepted s a).station.counts (accepted s a).station.accepted
      (ap (λ (y : Bool). on s.bank && y) (sym same) ∙ e)
      (come_mark (Free k calls s) k s.bank q d live (free_next k calls s h u m))
      (unique_act s a u (fair_act s q _ Done (fair_heard k s.bank q d live h))))
      (λ e. memory_idle (Mark d live) q Done (ap (λ (y : Bool). on s.bank && y) (sym same) ∙ e) refl)

  -- the primary was not ready: nothing was pending
  memory_ready : (e : Event) (q : Tracker) → Spare s.bank → heard (recorded s e (ready_act k s q)) ≡ false → ended (recorded s e (ready_act k s q)) ≡ false → ready s.primary ≡ false → After e (ready_act k s q)
  memory_ready e q h p r n =
      let t = (spawns_ready k s.bank q q.recent).still in
      let z = unready n in
      memory_quiet k calls (recorded s e (ready_act k s q)) m p r
      (come_ready (Free k calls s) k s.bank q q.recent (free_next k calls s h u m))
      (ap (λ (o : Option ℕ). serial_at o (on_ready k s.bank q q.recent).bank.challengers) (t.pending ∙ z) ∙ ap (λ (o : Option ℕ). serial_at o s.bank.challengers) (sym z))
      (fair_ready k s.bank q q.recent h).grows refl (λ i y. sym t.pending ∙ y)

  memory_learnt : (d : Float) (q : Tracker) → Spare s.bank → ready s.primary ≡ false → After (Mark d true) (learnt_act k s q)
  memory_learnt d q h n =
      by_cond (After (Mark d true)) (ready q)
      (λ e. memory_ready (Mark d true) q h unheard refl n)
      (λ e. memory_idle (Mark d true) q Done unheard refl)
    where
      unheard : (on s.bank && ready s.primary) ≡ false
      unheard = ap (λ (y : Bool). on s.bank && y) n ∙ and-false (on s.bank)

  memory_finish : Spare s.bank → After Finish (finish_act k s)
  memory_finish h =
      by_cond (After Finish) (can_begin s.primary)
      (λ e. memory_ready Finish (bootstrapped k s.primary) h refl refl (begin_unready s.primary e))
      (λ e. memory_idle Finish s.primary Nothing refl refl)

  memory_gap : (q : Tracker) (d : Float) → After (Gap d) (act s q (stay (on_gap k s.bank s.primary d)) Done)
  memory_gap q d =
      memory_quiet k calls (recorded s (Gap d) (act s q (stay (on_gap k s.bank s.primary d)) Done)) m refl refl
      (come_gap (Free k calls s) k s.bank s.primary d) (still_chosen k s.bank s.primary d) (fair_gap k s.bank s.primary d).grows refl
      (λ i y. sym (still_gap k s.bank s.primary d).pending ∙ y)

  memory_clear : (e : Event) (q : Tracker) (c : Code) → heard (recorded s e (act s q (clear s.bank) c)) ≡ false → ended (recorded s e (act s q (clear s.bank) c)) ≡ true → After e (act s q (clear s.bank) c)
  memory_clear e q c p r =
      memory_ended k calls (recorded s e (act s q (clear s.bank) c)) m p r (clear_come (Free k calls s) s.bank) (clear_out s.bank off) (fair_clear s.bank).grows

  memory_taken : (t : Taken) → AllCome (Free k calls s) s.bank false t.bank.challengers → t.bank.pending ≡ none → t.bank.started ≡ s.bank.started → After Switch (switch_act t)
  memory_taken t come out same =
      memory_ended k calls (recorded s Switch (switch_act t)) m
      (and-false (taken (cond t.switched Switched Nothing)))
      (ap (λ (y : Bool). y && true) (taken_either t.switched Switched Nothing refl refl))
      come out (omega arith)

  memory_at : (i : ℕ) (o : Option Hyp) → s.bank.pending ≡ some i → get_elem? s.bank.challengers i ≡ o → After Switch (switch_act (taken_at s.bank s.primary s.serial i o))
  memory_at i none e f = memory_taken (taken_at s.bank s.primary s.serial i none) (come_same (Free k calls s) s.bank) refl refl
  memory_at i (some c) e f =
      by_cond (λ (t : Taken). After Switch (switch_act t)) s.bank.switching
      (λ y. memory_taken (exchanged s.bank s.primary s.serial i c)
      (every_set (Comes (Free k calls s) s.bank false) s.bank.challengers i (formerly s.bank s.primary s.serial) (come_same (Free k calls s) s.bank) (new former refl refl)) refl refl)
      (λ y. by_cond (λ (d : Bank). After Switch (switch_act (untaken d s.primary s.serial))) c.reported
      (λ z. memory_taken (untaken (unpended s.bank s.bank.challengers s.bank.log) s.primary s.serial) (come_same (Free k calls s) s.bank) refl refl)
      (λ z. memory_taken (untaken (unpended s.bank _ _) s.primary s.serial)
      (every_set (Comes (Free k calls s) s.bank false) s.bank.challengers i (reporting c) (come_same (Free k calls s) s.bank) (old c (in_at s.bank.challengers i c f) refl refl refl)) refl refl))
    where
      former : Free k calls s s.serial
      former = record { absent = omega (arith, u s.serial, ind_eq s.serial s.serial refl); unled = m.primary i e }

  memory_of : (o : Option ℕ) → s.bank.pending ≡ o → After Switch (switch_act (taken_of s.bank s.primary s.serial o))
  memory_of none e = memory_taken (taken_of s.bank s.primary s.serial none) (come_same (Free k calls s) s.bank) e refl
  memory_of (some i) e = memory_at i (get_elem? s.bank.challengers i) e refl

  memory_switch : After Switch (switch_act (take_switch s.bank s.primary s.serial))
  unfolding take_switch
  memory_switch =
      by_cond (λ (t : Taken). After Switch (switch_act t)) (on s.bank)
      (λ e. memory_of s.bank.pending refl)
      (λ e. memory_taken (untaken s.bank s.primary s.serial) (come_same (Free k calls s) s.bank) (off e) refl)

  memory_acted : (e : Event) → Spare s.bank → After e (acted k s e)
  memory_acted (Mark d true) h =
      let q = Tracking.on_mark k s.primary d in
      by_cond (After (Mark d true)) (ready s.primary) (λ e. memory_mark q d true h (mark_ready k s.primary d e ∙ sym e)) (λ e. memory_learnt d q h e)
  memory_acted (Mark d false) h = memory_mark s.primary d false h refl
  memory_acted (Gap d) h = by_cond (After (Gap d)) (ready s.primary) (λ e. memory_gap (element_gap k s.primary d) d) (λ e. memory_idle (Gap d) s.primary Done refl refl)
  memory_acted Finish h = memory_finish h
  memory_acted (Seed v) h =
      memory_clear (Seed v) (seeded k s.primary v) (cond (ready s.primary) Done BecameReady)
      (and-false (taken (cond (ready s.primary) Done BecameReady)))
      (ap (λ (y : Bool). y && true) (taken_either (ready s.primary) Done BecameReady refl refl))
  memory_acted (Hint r) h = memory_idle (Hint r) (set_hint k s.primary r) Done refl refl
  memory_acted Clear h = memory_clear Clear s.primary Done refl refl
  memory_acted Switch h = memory_switch

  memory_outcome : (e : Event) (r : ℕ) → (r ≡ 0 → Spare s.bank) → Memory k (record { event = e; answer = (outcome k s e r).answer; before = s; after = (outcome k s e r).station } ∷ calls) (outcome k s e r).station
  memory_outcome e zero h = memory_acted e (h refl)
  memory_outcome e (suc n) h =
      memory_quiet k calls (record { event = e; answer = (outcome k s e (suc n)).answer; before = s; after = s }) m refl refl (come_same (Free k calls s) s.bank) refl (omega arith) refl (λ i z. z)

  pub memory_step : (e : Event) → (refusal s e ≡ 0 → Spare s.bank) → Memory k (call_on k s e ∷ calls) (step k s e).station
  unfolding step
  memory_step e h = memory_outcome e (refusal s e) h

pub memory_fresh : (k : Settings) (width : ℕ) (switching : Bool) → Memory k [] (fresh width switching)
unfolding marks_heard streak_of named
memory_fresh k width switching = record { known = λ h m. absurd (Memᴰ.not-nil m); chosen = refl; clean = λ n l. refl; primary = λ i e. refl }
