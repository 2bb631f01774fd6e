-- What the answers of a tracker's calls mean, and which refusal a call meets (document 01, "Refusals in checking
-- order"). Definitions only.
use Rattle.std.specs.Prelude.{◌≡◌, ℕ, zero, suc, Bool, cond, T, ◌≢◌, Float, Result, Ok, Err}
use Rattle.std.proofs.Math.Option.{Option, none, some}
use Rattle.std.specs.Float.Ieee.Positive.{positive}
use Rattle.ranges.specs.Settings.{Settings}
use Rattle.refusals.specs.declared.Refusal.{Refusal}
use Rattle.refusals.specs.Refusal.{number as number_of}
use Rattle.tracker.specs.declared.SpeedTracker.{SpeedTracker}
use Rattle.tracker.specs.Model.{Tracker, view}
use Rattle.tracker.specs.Sound.{sound}

-- what a call may say: that it is done, yes or no, a number, none, a count; or the number of its refusal
pub data Answer : Type 0 where
  done : Answer
  flag : Bool → Answer
  number : Float → Answer
  absent : Answer
  count : ℕ → Answer
  refused : ℕ → Answer

-- what a result says: what f makes of its value, or its refusal's number
abbrev pub told : {A : Type 0} → (A → Answer) → Result A Refusal → Answer
told f (Ok a) = f a
told f (Err r) = refused (number_of r)

-- a number that may be absent
abbrev pub optional : Option Float → Answer
optional none = absent
optional (some x) = number x

-- ---- refusals; 0 where there is none

-- where no refusal holds, a; else its number
abbrev pub unless : ℕ → Answer → Answer
unless zero a = a
unless (suc n) a = refused (suc n)

-- 1: the state handed in is unsound; then n
abbrev pub state_then : Settings → SpeedTracker → ℕ → ℕ
state_then k t n = cond (sound k t) n 1

-- what a call that only reads says of t: a, or refusal 1
abbrev pub reads : Settings → SpeedTracker → Answer → Answer
reads k t a = unless (state_then k t 0) a

-- 8: "A seeding speed is not finite or not above zero"
abbrev pub speed_refusal : Float → ℕ
speed_refusal v = cond (positive v) 0 8

-- ---- what a call says and leaves that was handed t and met the refusal n
-- It says a, or the refusal's number. It leaves t as it was, bit for bit, or else what m says, which is sound.
pub record Answers (k : Settings) (n : ℕ) (t : SpeedTracker) (a said : Answer) (m : Tracker)
    (r : SpeedTracker) : Type 0 where
  pub says : said ≡ unless n a
  pub kept : (n ≢ 0) → r ≡ t
  pub state : n ≡ 0 → view r ≡ m
  pub still : n ≡ 0 → T (sound k r)
