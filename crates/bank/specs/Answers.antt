-- What the answers of a bank's calls mean, and which refusal a call meets (document 01, "Refusals in checking order").
-- Definitions only.
use Rattle.std.specs.Prelude as Held
use Rattle.std.specs.Prelude.{
  ◌≡◌,
  ℕ,
  zero,
  suc,
  ◌≤◌,
  Bool,
  true,
  false,
  cond,
  not,
  ◌&&◌,
  ◌||◌,
  T,
  Result,
  Ok,
  Err,
  Some,
  None,
  is_some,
  List,
  [],
  ◌∷◌,
  length,
  ◌≢◌,
  from_bits,
  nat_le,
  Float,
}
use Rattle.std.proofs.Math.Option.{Option, none, some}
use Rattle.std.specs.Float.{binary32}
use Rattle.refusals.specs.declared.Refusal.{Refusal}
use Rattle.refusals.specs.Refusal.{number}
use Rattle.ranges.specs.Limits.{duration_refusal}
use Rattle.ranges.specs.Settings.{Settings}
use Rattle.tracker.specs.declared.SpeedTracker.{SpeedTracker}
use Rattle.tracker.specs.Model as Tracked
use Rattle.tracker.specs.Parts.{blank}
use Rattle.tracker.specs.Sound as Tracking
use Rattle.tracker.specs.Answers.{done, flag, told, unless}
use Rattle.bank_model.specs.declared.Origin.TheVariants.{Bootstrap}
use Rattle.bank_model.specs.declared.Departure.{Departure}
use Rattle.bank_model.specs.declared.departures.Departures.{Departures}
use Rattle.bank_model.specs.Departures.{widest}
use Rattle.bank_model.specs.Left.{those}
use Rattle.bank_model.specs.Model as Model
use Rattle.bank_model.specs.Steps as Steps
use Rattle.rival.specs.declared.TimingHypothesis.{TimingHypothesis}
use Rattle.bank.specs.declared.TimingBank.{TimingBank}
use Rattle.bank.specs.declared.Switched.{Switched}
use Rattle.bank.specs.View.{view}
use Rattle.bank.specs.Switching.{primary_after}
use Rattle.bank.specs.Sound.{sound}

-- ---- what a result tells

-- what a call shows: a part of the state, that there is none, or the number of its refusal
pub data Shown (A : Type 0) : Type 0 where
  shown : A → Shown A
  nothing : Shown A
  barred : ℕ → Shown A

abbrev pub of_shown : {A : Type 0} → Result (Held.Option A) Refusal → Shown A
of_shown (Ok (Some x)) = shown x
of_shown (Ok None) = nothing
of_shown (Err r) = barred (number r)

-- those that a call sent away
abbrev pub left_of : Result Departures Refusal → List Departure
left_of (Ok d) = those d
left_of (Err r) = []

-- what stands where there is no challenger
abbrev pub vacant : TimingHypothesis
vacant = record {
  tracker = blank;
  score = from_bits binary32 0;
  gap_score = from_bits binary32 0;
  lead_marks = 0;
  age_marks = 0;
  origin = Bootstrap;
  reported = false;
  ln_lo = from_bits binary32 0;
  ln_hi = from_bits binary32 0;
  serial = 0;
}

-- the i-th, if there is one; where a refusal holds, its number
abbrev pub showing : {A : Type 0} → ℕ → Option A → Shown A
showing zero none = nothing
showing zero (some x) = shown x
showing (suc n) o = barred (suc n)

-- ---- refusals; 0 where there is none

-- 1: the bank is unsound; then n
abbrev pub bank_then : Settings → TimingBank → ℕ → ℕ
bank_then k b n = cond (sound k widest b) n 1

-- 1: the bank or the primary is unsound; then n
abbrev pub both_then : Settings → TimingBank → SpeedTracker → ℕ → ℕ
both_then k b p n = cond (sound k widest b && Tracking.sound k p) n 1

-- 1, "At a switch: a choice pending and the primary .. unready"; then n
abbrev pub choice_then : TimingBank → SpeedTracker → ℕ → ℕ
choice_then b p n = cond (is_some b.pending && not p.pair.ready) 1 n

-- 2: "the bank has counted 4,294,967,295 or more marks or gaps"; then n
abbrev pub full : ℕ → ℕ → Bool
full marks gaps = nat_le 4294967295 marks || nat_le 4294967295 gaps

abbrev pub count_then : TimingBank → ℕ → ℕ
count_then b n = cond (full b.marks_seen b.gaps_seen) 2 n

-- 3: "width above 8"
abbrev pub width_refusal : ℕ → ℕ
width_refusal w = cond (nat_le w widest) 0 3

-- m, or n where m is no refusal
abbrev pub first : ℕ → ℕ → ℕ
first zero n = n
first (suc m) n = suc m

-- 5 to 7: "In a list of marks the first bad entry decides"
unfoldable pub first_refusal : List Float → ℕ
first_refusal [] = 0
first_refusal (x ∷ xs) = first (duration_refusal x) (first_refusal xs)

-- 4: "A list of marks or gaps has more than 12 entries"; then 5 to 7
abbrev pub marks_refusal : List Float → ℕ
marks_refusal l = cond (nat_le (length l) 12) (first_refusal l) 4

-- the refusals of each call, in their order
abbrev pub clear_refusal : Settings → TimingBank → ℕ
clear_refusal k b = bank_then k b (count_then b 0)

-- of a mark and of a gap
abbrev pub heard_refusal : Settings → TimingBank → SpeedTracker → Float → ℕ
heard_refusal k b p d = both_then k b p (count_then b (duration_refusal d))

abbrev pub ready_refusal : Settings → TimingBank → SpeedTracker → List Float → ℕ
ready_refusal k b p l = both_then k b p (count_then b (marks_refusal l))

abbrev pub switch_refusal : Settings → TimingBank → SpeedTracker → ℕ
switch_refusal k b p = both_then k b p (choice_then b p (count_then b 0))

-- ---- what a call that met the refusal n leaves of the bank b that it was handed: b bit for bit, or else what m says,
-- which is sound
pub record Leaves (k : Settings) (n : ℕ) (b : TimingBank) (m : Model.Bank) (r : TimingBank) : Type 0 where
  pub kept : (n ≢ 0) → r ≡ b
  pub state : n ≡ 0 → view r ≡ m
  pub still : n ≡ 0 → T (sound k widest r)

-- a start: a fresh bank, or, refused by 3, one of width 1 that does not switch
pub record Started (k : Settings) (width : ℕ) (switching : Bool) (said : Result Unit Refusal) (r : TimingBank) : Type 0
  where
    pub says : told (λ _. done) said ≡ unless (width_refusal width) done
    pub state : view r ≡ cond (nat_le width widest) (Steps.fresh_bank width switching) (Steps.fresh_bank 1 false)
    pub still : T (sound k widest r)

-- a call that none leaves at: it is done, or says the refusal's number
pub record Hears (k : Settings) (n : ℕ) (b : TimingBank) (m : Model.Bank) (said : Result Unit Refusal)
    (r : TimingBank) : Type 0 where
  pub says : told (λ _. done) said ≡ unless n done
  pub bank : Leaves k n b m r

-- a call that may send challengers away: those that m says left, and none where it is refused
pub record Answers (k : Settings) (n : ℕ) (b : TimingBank) (m : Model.Told) (said : Result Departures Refusal)
    (r : TimingBank) : Type 0 where
  pub says : told (λ _. done) said ≡ unless n done
  pub kept : (n ≢ 0) → r ≡ b
  pub state : n ≡ 0 → record { bank = view r; left = left_of said } ≡ m
  pub still : n ≡ 0 → T (sound k widest r)

-- a switch call: whether they were exchanged; the bank, the primary and its serial, as they were where it is refused
abbrev pub taken : Switched → Bool → Steps.Taken
taken r is = record { bank = view r.bank; primary = Tracked.view r.primary; serial = r.serial; switched = is }

pub record Switches (k : Settings) (n : ℕ) (b : TimingBank) (p : SpeedTracker) (serial : ℕ) (m : Steps.Taken)
    (r : Switched) : Type 0 where
  pub says : told flag r.flag ≡ unless n (flag m.switched)
  pub kept : (n ≢ 0) → (r.bank ≡ b) × ((r.primary ≡ p) × (r.serial ≡ serial))
  pub state : n ≡ 0 → taken r m.switched ≡ m
  pub held : n ≡ 0 → r.primary ≡ primary_after b p m.switched
  pub still : n ≡ 0 → T (sound k widest r.bank) × T (Tracking.sound k r.primary)
