-- How the answers of `bank` leave by C's way. Definitions only.
use Rattle.std.specs.Prelude.{◌≡◌, Bool, true, false, cond, Result, Ok, Err, List, map, replicate, ℕ, ◌≤◌, T, eqb, leb, take}
use Rattle.refusals.specs.declared.Refusal.{Refusal}
use Rattle.refusals.specs.Refusal.{number as refused_by, refusal_of}
use Rattle.ranges.specs.Settings.{standard}
use Rattle.tracker.specs.declared.SpeedTracker.{SpeedTracker}
use Rattle.tracker.specs.Model as Tracked
use Rattle.tracker.specs.Sound as Tracking
use Rattle.tracker.specs.Answers.{Answer, done, flag, number, absent, count, refused, told}
use Rattle.bank_model.specs.declared.SwitchRecord.{SwitchRecord}
use Rattle.bank_model.specs.declared.departures.Departures.{Departures}
use Rattle.bank_model.specs.Departures.{most_left, widest}
use Rattle.bank_model.specs.Model as Model
use Rattle.bank_model.specs.Steps as Steps
use Rattle.rival.specs.declared.TimingHypothesis.{TimingHypothesis}
use Rattle.bank.specs.declared.TimingBank.{TimingBank}
use Rattle.bank.specs.declared.Switched.{Switched}
use Rattle.bank.specs.View.{view}
use Rattle.bank.specs.Sturdy.{Sturdy}
use Rattle.bank.specs.Switching.{primary_after}
use Rattle.bank.specs.Sound.{sound}
use Rattle.bank.specs.Answers.{Shown, shown, nothing, barred, width_refusal}
use Rattle.plain.specs.declared.PlainBank.{PlainBank}
use Rattle.plain.specs.declared.PlainDeparture.{PlainDeparture}
use Rattle.plain_tracker.specs.declared.PlainTracker.{PlainTracker}
use Rattle.plain_tracker.specs.Plain.{carried, form_then, is_tracker, plain_tracker, tracker_of}
use Rattle.plain.specs.Plain.{bank_of, plain_bank, plain_hyp, blank_hyp, no_record, plain_departure, no_departure, is_bank}
use Rattle.exports.specs.declared.inner.BankChanged.{BankChanged}
use Rattle.exports.specs.declared.inner.BankTaken.{BankTaken}
use Rattle.exports.specs.declared.of_bank.BankAnswered.{BankAnswered}
use Rattle.exports.specs.declared.of_bank.BankHeard.{BankHeard}
use Rattle.exports.specs.declared.of_bank.BankSwitched.{BankSwitched}
use Rattle.exports.specs.declared.of_bank.BankTally.{BankTally}
use Rattle.exports.specs.declared.of_bank.BankChallenger.{BankChallenger}
use Rattle.exports.specs.declared.of_bank.BankLogged.{BankLogged}
use Rattle.exports.specs.Tracker.{yes}

-- the plain form of a bank that is sound
abbrev pub Held : PlainBank → Type 0
Held b = Sturdy (bank_of b)

-- the form is the one that its bank has: no number stands in it that its bank has not
abbrev pub Neat : PlainBank → Type 0
Neat b = b ≡ plain_bank (bank_of b)

-- a bank in plain form, and the first n of l as those that left it, are what m says
pub record Tells (m : Model.Told) (b : PlainBank) (l : List PlainDeparture) (n : ℕ) : Type 0 where
  pub bank : view (bank_of b) ≡ m.bank
  pub left : take n l ≡ map plain_departure m.left

-- places of l beyond n hold zeros
abbrev pub Blank : List PlainDeparture → ℕ → Type 0
Blank l n = l ≡ carried (λ d. d) no_departure n l

abbrev pub ChangedTo : Model.Told → BankChanged → Type 0
ChangedTo m r = Tells m r.bank r.left r.left_len × Blank r.left r.left_len

-- a bank and a primary after a switch call
abbrev pub taken_of : PlainBank → PlainTracker → ℕ → Bool → Steps.Taken
taken_of b p serial is = record { bank = view (bank_of b); primary = Tracked.view (tracker_of p); serial = serial; switched = is }

abbrev pub taken_to : BankTaken → Steps.Taken
taken_to r = taken_of r.bank r.primary r.serial r.switched

-- ---- refusals

-- 1: the form is no bank's; then n
abbrev pub plain_then : PlainBank → ℕ → ℕ
plain_then b n = cond (is_bank b) n 1

-- 1: the form is no bank's, or the primary's is no tracker's; then n
abbrev pub forms_then : PlainBank → PlainTracker → ℕ → ℕ
forms_then b p n = plain_then b (form_then p n)

-- what a bank that is handed out has. With what `view` says of it, every number of it is fixed, but for those that are no part of a state:
-- "Places beyond a count and numbers marked absent"
pub record Well (b : PlainBank) : Type 0 where
  pub is : is_bank b ≡ true
  pub neat : Neat b
  pub sound : T (sound standard widest (bank_of b))

-- ---- what a call, handed b, answers where the refusal is n: b bit for bit, and none left; where there is none, what m says

pub record BankAnswers (n : ℕ) (b : PlainBank) (m : Model.Told) (r : BankAnswered) : Type 0 where
  pub says : r.code ≡ n
  pub kept : (n ≡ 0 → ⊥) → (r.bank ≡ b) × (r.left_len ≡ 0)
  pub state : n ≡ 0 → Tells m r.bank r.left r.left_len
  pub still : n ≡ 0 → Well r.bank
  pub few : r.left_len ≤ most_left
  pub blank : Blank r.left r.left_len

pub record BankHears (n : ℕ) (b : PlainBank) (m : Model.Bank) (r : BankHeard) : Type 0 where
  pub says : r.code ≡ n
  pub kept : (n ≡ 0 → ⊥) → r.bank ≡ b
  pub state : n ≡ 0 → view (bank_of r.bank) ≡ m
  pub still : n ≡ 0 → Well r.bank

pub record BankStarted (width : ℕ) (switching : Bool) (r : BankHeard) : Type 0 where
  pub says : r.code ≡ width_refusal width
  pub state : view (bank_of r.bank) ≡ cond (leb width widest) (Steps.fresh_bank width switching) (Steps.fresh_bank 1 false)
  pub still : Well r.bank

pub record BankSwitches (n : ℕ) (b : PlainBank) (p : PlainTracker) (serial : ℕ) (m : Steps.Taken) (r : BankSwitched) : Type 0 where
  pub says : r.code ≡ n
  pub flag : r.yes ≡ cond (eqb n 0) m.switched false
  pub kept : (n ≡ 0 → ⊥) → (r.bank ≡ b) × ((r.primary ≡ p) × (r.serial ≡ serial))
  pub state : n ≡ 0 → taken_of r.bank r.primary r.serial m.switched ≡ m
  pub held : n ≡ 0 → r.primary ≡ cond m.switched (plain_tracker (primary_after (bank_of b) (tracker_of p) true)) p
  pub still : n ≡ 0 → Well r.bank × (is_tracker r.primary ≡ true) × T (Tracking.sound standard (tracker_of r.primary))

-- ---- an answer of the library's own as C reads it

-- c is the bank of the form b; where b is no bank's form, c is unsound
pub record ReadAs (b : PlainBank) (c : TimingBank) : Type 0 where
  pub is : is_bank b ≡ true → c ≡ bank_of b
  pub is_not : is_bank b ≡ false → sound standard widest c ≡ false

-- the form of the bank c that a call left, or b where it is refused
abbrev pub handed_on : {A : Type 0} → PlainBank → Result A Refusal → TimingBank → PlainBank
handed_on b (Ok x) c = plain_bank c
handed_on b (Err r) c = b

abbrev pub passed_on : PlainBank → Result Departures Refusal → TimingBank → BankAnswered
passed_on b (Ok d) c = record { code = 0; bank = plain_bank c; left = carried plain_departure no_departure d.left_len d.left; left_len = d.left_len }
passed_on b (Err r) c = record { code = refused_by r; bank = b; left = replicate most_left no_departure; left_len = 0 }

abbrev pub heard_on : PlainBank → Result (Unit {0}) Refusal → TimingBank → BankHeard
heard_on b said c = record { code = refusal_of said; bank = handed_on b said c }

-- the tracker of a switch call, p where nothing was exchanged
abbrev pub primary_on : PlainTracker → Result Bool Refusal → SpeedTracker → PlainTracker
primary_on p (Ok on) t = cond on (plain_tracker t) p
primary_on p (Err r) t = p

abbrev pub switched_on : PlainBank → PlainTracker → Switched → Result Bool Refusal → BankSwitched
switched_on b p k said = record { code = refusal_of said; yes = yes (told flag said); bank = handed_on b said k.bank; primary = primary_on p said k.primary; serial = k.serial }

-- a count, 0 where it is refused
abbrev pub tallied : Answer → BankTally
tallied (count n) = record { code = 0; value = n }
tallied (refused n) = record { code = n; value = 0 }
tallied done = record { code = 0; value = 0 }
tallied (flag b) = record { code = 0; value = 0 }
tallied (number x) = record { code = 0; value = 0 }
tallied absent = record { code = 0; value = 0 }

-- what stands where there is no challenger
abbrev pub stopped_at : ℕ → BankChallenger
stopped_at n = record { code = n; has = false; challenger = blank_hyp }

abbrev pub challenged : Shown TimingHypothesis → BankChallenger
challenged (shown h) = record { code = 0; has = true; challenger = plain_hyp h }
challenged nothing = stopped_at 0
challenged (barred n) = stopped_at n

-- what stands where there is no switch record
abbrev pub unlogged : ℕ → BankLogged
unlogged n = record { code = n; has = false; entry = no_record }

abbrev pub logged : Shown SwitchRecord → BankLogged
logged (shown r) = record { code = 0; has = true; entry = r }
logged nothing = unlogged 0
logged (barred n) = unlogged n
