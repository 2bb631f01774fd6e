-- What the calls of a station do (document 01, "Station"). Definitions only.
use Rattle.std.specs.Prelude.{◌≡◌, Bool, true, false, cond, ◌||◌, List, [], ◌∷◌, ℕ, zero, suc, ◌+◌, leb, eqb, Float}
use Rattle.refusals.specs.Refusal as Refusals
use Rattle.refusals.specs.Refusal.{of_number}
use Rattle.ranges.specs.Settings.{Settings}
use Rattle.ranges.specs.Limits.{duration_refusal}
use Rattle.tracker.specs.Model.{Tracker}
use Rattle.tracker.specs.Steps.{element_gap, set_hint, seeded, can_begin, bootstrapped}
use Rattle.tracker.specs.Steps as Tracking
use Rattle.tracker.specs.Answers.{speed_refusal}
use Rattle.bank_model.specs.declared.Cause.{Cause}
use Rattle.bank_model.specs.declared.Cause.TheVariants.{Twin, Outscored, Aged, Replaced, Cleared}
use Rattle.bank_model.specs.declared.Departure.{Departure}
use Rattle.bank_model.specs.Model.{Bank, Told, stay}
use Rattle.bank_model.specs.Steps.{Taken, fresh_bank, on_ready, on_mark, on_gap, clear, take_switch}
use Rattle.station_model.specs.declared.Event.{Event}
use Rattle.station_model.specs.declared.Event.TheVariants.{Mark, Gap, Finish, Seed, Hint, Clear, Switch}
use Rattle.station_model.specs.declared.Code.{Code}
use Rattle.station_model.specs.declared.Code.TheVariants.{Done, BecameReady, Switched, Nothing, Refused}
use Rattle.station_model.specs.declared.Counts.{Counts}

-- ---- the numbers of document 01 for the cases of each enum

-- "Codes: 0 done, 1 an unready primary became ready (by mark, finish or seed), 2 switched, 3 nothing to do (a false finish or switch), R and the number if refused"
abbrev pub number : Code → ℕ
number Done = 0
number BecameReady = 1
number Switched = 2
number Nothing = 3
number (Refused r) = Refusals.number r

-- no R stands before it
abbrev pub taken : Code → Bool
taken Done = true
taken BecameReady = true
taken Switched = true
taken Nothing = true
taken (Refused r) = false

-- "switched" is an accepted call with number 2, "nothing to do" one with 3: refusals 1 to 3 share their numbers with codes
abbrev pub says : ℕ → Code → Type 0
says n c = (taken c ≡ true) × (number c ≡ n)

abbrev pub refuses : ℕ → Code → Type 0
refuses n c = (taken c ≡ false) × (number c ≡ n)

-- the causes, in the order in which "Station" lists them
abbrev pub order : Cause → ℕ
order Twin = 0
order Outscored = 1
order Aged = 2
order Replaced = 3
order Cleared = 4

abbrev pub is_cause : Cause → Cause → Bool
is_cause c d = eqb (order c) (order d)

-- ---- the station

-- a code, and those that left in the call
pub record Answer : Type 0 where
  pub code : Code
  pub departures : List Departure

-- the primary and its serial, its rivals, how many left by cause, how many calls were accepted
pub record Station : Type 0 where
  pub primary : Tracker
  pub serial : ℕ
  pub bank : Bank
  pub counts : Counts
  pub accepted : ℕ

pub record Outcome : Type 0 where
  pub station : Station
  pub answer : Answer

abbrev pub ready : Tracker → Bool
ready t = t.pair.ready

-- "A fresh station is a fresh tracker as primary and a fresh bank, all counts 0"; "the first primary is 0"
abbrev pub fresh : ℕ → Bool → Station
fresh width switching = record {
  primary = Tracking.fresh;
  serial = 0;
  bank = fresh_bank width switching;
  counts = record { twins = 0; outscored = 0; aged = 0; replaced = 0; cleared = 0 };
  accepted = 0;
}

-- ---- "Each is counted by its cause when the state meets that cause"

abbrev pub ind : Bool → ℕ
ind true = 1
ind false = 0

-- how many departures have a cause
unfoldable pub of_cause : Cause → List Departure → ℕ
of_cause c [] = 0
of_cause c (d ∷ l) = ind (is_cause c d.cause) + of_cause c l

abbrev pub tallied : Counts → List Departure → Counts
tallied n l = record {
  twins = n.twins + of_cause Twin l;
  outscored = n.outscored + of_cause Outscored l;
  aged = n.aged + of_cause Aged l;
  replaced = n.replaced + of_cause Replaced l;
  cleared = n.cleared + of_cause Cleared l;
}

-- ---- what an accepted call does: the primary, its serial, the bank and who left it, and the code

pub record Act : Type 0 where
  pub primary : Tracker
  pub serial : ℕ
  pub told : Told
  pub code : Code

abbrev pub act : Station → Tracker → Told → Code → Act
act s p t c = record { primary = p; serial = s.serial; told = t; code = c }

-- the primary p became ready: "bank `on_ready` with the recent marks, oldest first"
abbrev pub ready_act : Settings → Station → Tracker → Act
ready_act k s p = act s p (on_ready k s.bank p p.recent) BecameReady

-- the primary was unready, and p is what it learnt
abbrev pub learnt_act : Settings → Station → Tracker → Act
learnt_act k s p = cond (ready p) (ready_act k s p) (act s p (stay s.bank) Done)

-- "Mark, live: primary `on_mark`; if it was ready before, bank `on_mark`, live; if it becomes ready, bank `on_ready`"
abbrev pub live_act : Settings → Station → Float → Act
live_act k s d =
    let p = Tracking.on_mark k s.primary d in
    cond (ready s.primary) (act s p (on_mark k s.bank p d true) Done) (learnt_act k s p)

-- "Mark, not live: only bank `on_mark`, not live"
abbrev pub mark_act : Settings → Station → Float → Bool → Act
mark_act k s d true = live_act k s d
mark_act k s d false = act s s.primary (on_mark k s.bank s.primary d false) Done

-- "Gap: only with a ready primary: bank `on_gap`, then primary `on_element_gap` if the gap is below 2.0 times its dit estimate"
abbrev pub gap_act : Settings → Station → Float → Act
gap_act k s d =
    cond (ready s.primary)
    (act s (element_gap k s.primary d) (stay (on_gap k s.bank s.primary d)) Done)
    (act s s.primary (stay s.bank) Done)

-- "Finish: `bootstrap`; if true, `on_ready` as above"
abbrev pub finish_act : Settings → Station → Act
finish_act k s = cond (can_begin s.primary) (ready_act k s (bootstrapped k s.primary)) (act s s.primary (stay s.bank) Nothing)

-- "Seed: `seed_wpm`, then `clear`"
abbrev pub seed_act : Settings → Station → Float → Act
seed_act k s v = act s (seeded k s.primary v) (clear s.bank) (cond (ready s.primary) Done BecameReady)

-- "Switch: `take_switch`"
abbrev pub switch_act : Taken → Act
switch_act t = record { primary = t.primary; serial = t.serial; told = stay t.bank; code = cond t.switched Switched Nothing }

-- "Hint: `set_ratio_hint` of the primary. Clear: `clear`."
abbrev pub acted : Settings → Station → Event → Act
acted k s (Mark d live) = mark_act k s d live
acted k s (Gap d) = gap_act k s d
acted k s Finish = finish_act k s
acted k s (Seed v) = seed_act k s v
acted k s (Hint r) = act s (set_hint k s.primary r) (stay s.bank) Done
acted k s Clear = act s s.primary (clear s.bank) Done
acted k s Switch = switch_act (take_switch s.bank s.primary s.serial)

abbrev pub accepted : Station → Act → Outcome
accepted s a = record {
  station = record {
    primary = a.primary;
    serial = a.serial;
    bank = a.told.bank;
    counts = tallied s.counts a.told.left;
    accepted = s.accepted + 1;
  };
  answer = record { code = a.code; departures = a.told.left };
}

-- ---- the refusals that a station from a fresh one can meet, in their order; 0 where none holds

-- 2: "the bank has counted 4,294,967,295 or more marks or gaps, or the station as many accepted calls"
abbrev pub full : Station → Bool
full s = leb 4294967295 s.bank.marks || (leb 4294967295 s.bank.gaps || leb 4294967295 s.accepted)

-- 5 to 7 of a duration, 8 of a speed
abbrev pub fault : Event → ℕ
fault (Mark d live) = duration_refusal d
fault (Gap d) = duration_refusal d
fault Finish = 0
fault (Seed v) = speed_refusal v
fault (Hint r) = 0
fault Clear = 0
fault Switch = 0

abbrev pub refusal : Station → Event → ℕ
refusal s e = cond (full s) 2 (fault e)

-- ---- one call: "A refusal is the number, with the state handed back"

abbrev pub outcome : Settings → Station → Event → ℕ → Outcome
outcome k s e zero = accepted s (acted k s e)
outcome k s e (suc n) = record { station = s; answer = record { code = Refused (of_number (suc n)); departures = [] } }

unfoldable pub step : Settings → Station → Event → Outcome
step k s e = outcome k s e (refusal s e)
