-- What a host hands in and finds at a switch call: a bank and the tracker that it lends, in plain form (document 01, "TimingBank"). Definitions only.
use Rattle.std.specs.Prelude.{◌≡◌, Bool, true, false, cond, ◌&&◌, Result, Ok, Err, ℕ, ◌+◌, eqb}
use Rattle.refusals.specs.declared.Refusal.{Refusal}
use Rattle.refusals.specs.Refusal.{host_code}
use Rattle.ranges.specs.Settings.{standard}
use Rattle.tracker.specs.Model as Tracked
use Rattle.tracker.specs.Sound as Tracking
use Rattle.bank_model.specs.Steps.{Taken, take_switch}
use Rattle.bank.specs.View.{view}
use Rattle.bank_model.specs.Departures.{widest}
use Rattle.bank.specs.Sound.{sound}
use Rattle.bank.specs.Answers.{switch_refusal}
use Rattle.plain_tracker.specs.declared.PlainTracker.{PlainTracker}
use Rattle.plain_tracker.specs.Plain.{is_tracker, plain_tracker, tracker_of}
use Rattle.plain.specs.declared.PlainBank.{PlainBank}
use Rattle.plain.specs.Plain.{is_bank, bank_of, plain_bank}

-- 1 where a form is no bank's or no tracker's; then as the bank's own call
abbrev pub refusal : PlainBank → PlainTracker → ℕ
refusal b p = cond (is_bank b && is_tracker p) (switch_refusal standard (bank_of b) (tracker_of p)) 1

-- what the call makes of the bank, of the primary and of its serial
abbrev pub outcome : PlainBank → PlainTracker → ℕ → Taken
outcome b p serial = take_switch (view (bank_of b)) (Tracked.view (tracker_of p)) serial

-- the code of what is told: 2 switched, 3 nothing to do; 128 stands for R
abbrev pub switch_code : Result Bool Refusal → ℕ
switch_code (Ok on) = cond on 2 3
switch_code (Err r) = host_code r

-- the bank b, the lent primary p and its serial: the code, and what stands in their places then
pub record Exchanges (b : PlainBank) (p : PlainTracker) (serial code : ℕ) (c : PlainBank) (q : PlainTracker) (n : ℕ) : Type 0 where
  -- 2 switched, 3 nothing to do; 128 stands for R
  pub says : code ≡ cond (eqb (refusal b p) 0) (cond (outcome b p serial).switched 2 3) (128 + refusal b p)
  -- refused: every byte of the three as it was
  pub kept : (refusal b p ≡ 0 → ⊥) → (c ≡ b) × ((q ≡ p) × (n ≡ serial))
  -- accepted: the bank is the defined one, sound, and what is no part of it empty
  pub state : refusal b p ≡ 0 → view (bank_of c) ≡ (outcome b p serial).bank
  pub still : refusal b p ≡ 0 → is_bank c && sound standard widest (bank_of c) ≡ true
  pub neat : refusal b p ≡ 0 → c ≡ plain_bank (bank_of c)
  -- nothing exchanged: every byte of the tracker and of its serial as it was
  pub idle : refusal b p ≡ 0 → (outcome b p serial).switched ≡ false → (q ≡ p) × (n ≡ serial)
  -- exchanged: the tracker is the defined one, sound, and what is no part of it empty
  pub found : refusal b p ≡ 0 → (outcome b p serial).switched ≡ true → Tracked.view (tracker_of q) ≡ (outcome b p serial).primary
  pub whole : refusal b p ≡ 0 → (outcome b p serial).switched ≡ true → is_tracker q && Tracking.sound standard (tracker_of q) ≡ true
  pub plain : refusal b p ≡ 0 → (outcome b p serial).switched ≡ true → q ≡ plain_tracker (tracker_of q)
  pub serial_is : refusal b p ≡ 0 → (outcome b p serial).switched ≡ true → n ≡ (outcome b p serial).serial
