-- What the answers mean, and which refusal a call meets (document 01, "Refusals in checking order"). Definitions only.
use Rattle.std.specs.Prelude.{◌≡◌, Bool, cond, ℕ, zero, suc, T, Float, Result, Ok, Err}
use Rattle.std.specs.Prelude as P
use Rattle.std.proofs.Math.Option.{Option, none, some}
use Rattle.ranges.specs.Interval.{within}
use Rattle.ranges.specs.Limits.{duration_refusal}
use Rattle.sender.specs.declared.TimingClass.{TimingClass}
use Rattle.sender.specs.declared.SenderTiming.{SenderTiming}
use Rattle.sender.specs.declared.Dits.{Dits}
use Rattle.sender.specs.declared.TimingEstimates.{TimingEstimates}
use Rattle.refusals.specs.declared.Refusal.{Refusal}
use Rattle.refusals.specs.Refusal.{number}
use Rattle.sender.specs.Constants.{dit_min, dit_max}
use Rattle.sender.specs.Model.{Timing, view, view_estimates, at, held, length_in}
use Rattle.sender.specs.Sound.{sound}
use Rattle.sender.specs.Steps as S

-- what a call may say: that it is done, yes or no, a length in dits, a ratio, none, a report; or the number of its refusal
pub data Answer : Type 0 where
  done : Answer
  flag : Bool → Answer
  in_dits : Float → Answer
  ratio : Float → Answer
  absent : Answer
  report : Float → Timing → Answer
  refused : ℕ → Answer

-- a number that may be absent
abbrev pub optional : (Float → Answer) → Option Float → Answer
optional f none = absent
optional f (some x) = f x

-- ---- what each call's result says: f of its value, or its refusal
abbrev pub of_result : {A : Type 0} → (A → Answer) → Result A Refusal → Answer
of_result f (Ok a) = f a
of_result f (Err r) = refused (number r)

abbrev pub of_told : Result Unit Refusal → Answer
of_told r = of_result (λ _. done) r

abbrev pub of_length : Result (P.Option Dits) Refusal → Answer
of_length r = of_result (λ o. optional in_dits (length_in o)) r

abbrev pub of_ratio : Result (P.Option Float) Refusal → Answer
of_ratio r = of_result (λ o. optional ratio (held o)) r

abbrev pub of_yes : Result Bool Refusal → Answer
of_yes r = of_result flag r

abbrev pub of_report : Result TimingEstimates Refusal → Answer
of_report r = of_result (λ e. report e.dit_ms.0 (view_estimates e)) r

-- ---- refusals; 0 where there is none

-- where no refusal holds, a; else its number
abbrev pub unless : ℕ → Answer → Answer
unless zero a = a
unless (suc n) a = refused (suc n)

-- 1: the statistics handed in are unsound
abbrev pub state_refusal : Timing → ℕ
state_refusal t = cond (sound t) 0 1

-- the first of two refusals
abbrev pub first_of : ℕ → ℕ → ℕ
first_of zero m = m
first_of (suc n) m = suc n

-- 9: "The dit given to `observe` is NaN or outside 20 to 150"
abbrev pub dit_refusal : Float → ℕ
dit_refusal d = cond (within dit_min dit_max d) 0 9

-- `observe`: 1, then 5 to 7 of the duration, then 9
abbrev pub observe_refusal : Timing → Float → Float → ℕ
observe_refusal t dur dit = first_of (state_refusal t) (first_of (duration_refusal dur) (dit_refusal dit))

-- ---- what each call says of sound statistics

abbrev pub mean_said : TimingClass → Timing → Answer
mean_said k t = optional in_dits (S.mean_of (at k t))

abbrev pub ratio_said : Timing → Answer
ratio_said t = optional ratio (S.ratio t.dot t.dash)

abbrev pub word_said : Timing → Answer
word_said t = optional in_dits (S.word_dits t.char_gap t.word_gap)

abbrev pub pause_said : Float → Timing → Answer
pause_said x t = flag (S.pauses x t)

-- "`estimates` copies its dit as given"
abbrev pub reported : Float → Timing → Answer
reported dit t = report dit t

-- ---- what `observe`, handed s, leaves in r where the refusal is n: s bit for bit; where there is none, what m says, and sound again
pub record Left (n : ℕ) (s : SenderTiming) (m : Timing) (r : SenderTiming) : Type 0 where
  pub kept : (n ≡ 0 → ⊥) → r ≡ s
  pub state : n ≡ 0 → view r ≡ m
  pub still : n ≡ 0 → T (sound (view r))
