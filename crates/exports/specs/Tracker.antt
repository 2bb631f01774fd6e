-- How the answers of `tracker` leave by C's way. Definitions only.
use Rattle.std.specs.Prelude.{◌≡◌, Bool, true, false, ℕ, T, Result, Ok, Err}
use Rattle.ranges.specs.Limits.{nought}
use Rattle.ranges.specs.Settings.{Settings, standard}
use Rattle.refusals.specs.declared.Refusal.{Refusal}
use Rattle.refusals.specs.Refusal.{refusal_of}
use Rattle.tracker.specs.declared.SpeedTracker.{SpeedTracker}
use Rattle.tracker.specs.Model.{Tracker, view}
use Rattle.tracker.specs.Sound.{sound}
use Rattle.tracker.specs.Answers.{Answer, done, flag, number, absent, count, refused, state_then, told}
use Rattle.plain_tracker.specs.declared.PlainTracker.{PlainTracker}
use Rattle.plain_tracker.specs.Plain.{form_then, is_tracker, plain_tracker, tracker_of}
use Rattle.exports.specs.declared.of_tracker.TrackerTold.{TrackerTold}
use Rattle.exports.specs.declared.of_tracker.TrackerFlagged.{TrackerFlagged}
use Rattle.exports.specs.declared.of_tracker.TrackerNumber.{TrackerNumber}
use Rattle.exports.specs.declared.of_tracker.TrackerFlag.{TrackerFlag}
use Rattle.exports.specs.declared.of_tracker.TrackerCount.{TrackerCount}

-- the refusal's number of document 01, and 0 for what is done
abbrev pub code : Answer → ℕ
code done = 0
code (flag b) = 0
code (number x) = 0
code absent = 0
code (count n) = 0
code (refused n) = n

-- whether it says yes
abbrev pub yes : Answer → Bool
yes (flag b) = b
yes done = false
yes (number x) = false
yes absent = false
yes (count n) = false
yes (refused n) = false

-- an answer with a number, +0 where there is none
abbrev pub numbered : Answer → TrackerNumber
numbered (number x) = record { code = 0; has = true; value = x }
numbered (refused n) = record { code = n; has = false; value = nought }
numbered absent = record { code = 0; has = false; value = nought }
numbered done = record { code = 0; has = false; value = nought }
numbered (flag b) = record { code = 0; has = false; value = nought }
numbered (count n) = record { code = 0; has = false; value = nought }

-- yes or no, no where it is refused
abbrev pub flagged : Answer → TrackerFlag
flagged a = record { code = code a; yes = yes a }

-- a count, 0 where it is refused
abbrev pub counted : Answer → TrackerCount
counted (count n) = record { code = 0; value = n }
counted (refused n) = record { code = n; value = 0 }
counted done = record { code = 0; value = 0 }
counted (flag b) = record { code = 0; value = 0 }
counted (number x) = record { code = 0; value = 0 }
counted absent = record { code = 0; value = 0 }

-- 1: a form that is no tracker's, or the form of an unsound tracker; then n
abbrev pub form_state_then : PlainTracker → ℕ → ℕ
form_state_then t n = form_then t (state_then standard (tracker_of t) n)

-- the form is the one that its tracker has: no number stands in it that its tracker has not
abbrev pub NeatTracker : PlainTracker → Type 0
NeatTracker t = t ≡ plain_tracker (tracker_of t)

-- what a call, handed t, leaves in r where the refusal is n: t bit for bit; where there is none, the form of what m
-- says, which is sound
pub record Handed (k : Settings) (n : ℕ) (t : PlainTracker) (m : Tracker) (r : PlainTracker) : Type 0 where
  pub kept : (n ≡ 0 → ⊥) → r ≡ t
  pub form : n ≡ 0 → T (is_tracker r)
  pub neat : n ≡ 0 → NeatTracker r
  pub state : n ≡ 0 → view (tracker_of r) ≡ m
  pub still : n ≡ 0 → T (sound k (tracker_of r))

-- ---- the steps of the code

-- u is the tracker of the form t, or, where t is no tracker's, one that is unsound
pub record ReadAs (t : PlainTracker) (u : SpeedTracker) : Type 0 where
  pub is : is_tracker t ≡ true → u ≡ tracker_of t
  pub is_not : is_tracker t ≡ false → sound standard u ≡ false

-- the form after a call that left u and gave r: as it was where the call is refused
abbrev pub left_by : {A : Type 0} → PlainTracker → Result A Refusal → SpeedTracker → PlainTracker
left_by t (Ok a) u = plain_tracker u
left_by t (Err r) u = t

abbrev pub told_by : PlainTracker → Result (Unit {0}) Refusal → SpeedTracker → TrackerTold
told_by t r u = record { code = refusal_of r; tracker = left_by t r u }

abbrev pub said_by : PlainTracker → Result Bool Refusal → SpeedTracker → TrackerFlagged
said_by t r u = record { code = refusal_of r; yes = yes (told flag r); tracker = left_by t r u }
