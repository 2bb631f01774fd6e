-- Demand 3: what holds after a whole list of calls (document 01, "Station"). Lists of calls and of events stand here with the latest first. Definitions only.
use Rattle.std.specs.Prelude.{◌≡◌, ◌↔◌, ◌≢◌, Bool, true, false, cond, ◌&&◌, ◌||◌, ℕ, ◌+◌, ◌≤◌, ◌<◌, length, T, leb, eqb, Float}
use mathlib.Core.List.{List, [], ◌∷◌, ◌++◌, map, Memᴰ, Permᴰ}
use Rattle.std.proofs.Math.Option.{Option, none, some}
use Rattle.std.specs.Float.{binary32}
use Rattle.std.specs.Float.Ieee.{fits}
use Rattle.ranges.specs.Settings.{Settings}
use Rattle.ranges.specs.Interval.{In}
use Rattle.tracker.specs.Model.{Tracker}
use Rattle.tracker.specs.Steps.{settled}
use Rattle.bank_model.specs.declared.Cause.TheVariants.{Twin, Outscored, Aged, Replaced, Cleared}
use Rattle.bank_model.specs.declared.Departure.{Departure}
use Rattle.bank_model.specs.Model.{Hyp}
use Rattle.bank_model.specs.Scores.{ahead, above}
use Rattle.station_model.specs.declared.Event.{Event}
use Rattle.station_model.specs.declared.Event.TheVariants.{Mark, Gap, Finish, Seed, Hint, Clear, Switch}
use Rattle.station_model.specs.declared.Counts.{Counts}
use Rattle.station_model.specs.Station.{Station, Answer, taken, says, ready, fresh, ind, of_cause, step}

-- one call of a list: what it was given, what it answered, and the station before it and after it
pub record Call : Type 0 where
  pub event : Event
  pub answer : Answer
  pub before : Station
  pub after : Station

abbrev pub event_of : Call → Event
event_of c = c.event

-- the number that an event carries is a value of f32, as each number of a program is
abbrev pub Carries : Event → Type 0
Carries (Mark d live) = T (fits binary32 d)
Carries (Gap d) = T (fits binary32 d)
Carries Finish = Unit {0}
Carries (Seed v) = T (fits binary32 v)
Carries (Hint r) = T (fits binary32 r)
Carries Clear = Unit {0}
Carries Switch = Unit {0}

unfoldable pub AllCarry : List Event → Type 0
AllCarry [] = Unit {0}
AllCarry (e ∷ earlier) = Carries e × AllCarry earlier

-- ---- what the definitions give from a start and a list of events alone

unfoldable pub station_after : Settings → Station → List Event → Station
station_after k start [] = start
station_after k start (e ∷ earlier) = (step k (station_after k start earlier) e).station

abbrev pub answer_to : Settings → Station → Event → List Event → Answer
answer_to k start e earlier = (step k (station_after k start earlier) e).answer

-- the call of e on s, as the definitions give it; and all calls of a list
abbrev pub call_on : Settings → Station → Event → Call
call_on k s e = record { event = e; answer = (step k s e).answer; before = s; after = (step k s e).station }

unfoldable pub calls_of : Settings → Station → List Event → List Call
calls_of k start [] = []
calls_of k start (e ∷ earlier) = call_on k (station_after k start earlier) e ∷ calls_of k start earlier

-- P holds of each call and those before it
unfoldable pub Each : (Call → List Call → Type 0) → List Call → Type 0
Each P [] = Unit {0}
Each P (c ∷ earlier) = P c earlier × Each P earlier

-- ---- the answers: "Only the order of departures within one answer is free; they are a rearrangement of those defined"

pub record SameAnswer (a b : Answer) : Type 0 where
  pub code : a.code ≡ b.code
  pub departures : Permᴰ a.departures b.departures

-- the station and the answer of one call are those of the definitions
pub record AsDefined (k : Settings) (start : Station) (c : Call) (earlier : List Call) : Type 0 where
  pub before : c.before ≡ station_after k start (map event_of earlier)
  pub after : c.after ≡ station_after k start (c.event ∷ map event_of earlier)
  pub answer : SameAnswer c.answer (answer_to k start c.event (map event_of earlier))

-- ---- the books: who is where

-- how often a serial stands among challengers, and among departures
unfoldable pub among : ℕ → List Hyp → ℕ
among n [] = 0
among n (h ∷ l) = ind (eqb n h.serial) + among n l

unfoldable pub gone : ℕ → List Departure → ℕ
gone n [] = 0
gone n (d ∷ l) = ind (eqb n d.serial) + gone n l

-- the departures in all the answers
unfoldable pub departures : List Call → List Departure
departures [] = []
departures (c ∷ earlier) = c.answer.departures ++ departures earlier

abbrev pub times_found : ℕ → Station → List Call → ℕ
times_found n now calls = ind (eqb n now.serial) + among n now.bank.challengers + gone n (departures calls)

-- the five counts, as the answers give them
abbrev pub counts_of : List Departure → Counts
counts_of l = record { twins = of_cause Twin l; outscored = of_cause Outscored l; aged = of_cause Aged l; replaced = of_cause Replaced l; cleared = of_cause Cleared l }

-- ---- the switch rule, from the list of calls

abbrev pub is_mark : Event → Bool
is_mark (Mark d live) = true
is_mark (Gap d) = false
is_mark Finish = false
is_mark (Seed v) = false
is_mark (Hint r) = false
is_mark Clear = false
is_mark Switch = false

abbrev pub is_end : Event → Bool
is_end (Mark d live) = false
is_end (Gap d) = false
is_end Finish = false
is_end (Seed v) = true
is_end (Hint r) = false
is_end Clear = true
is_end Switch = true

-- the bank heard a mark in this call: an accepted mark, with the width at least 2 and the primary ready before it
abbrev pub heard : Call → Bool
heard c = taken c.answer.code && (is_mark c.event && (leb 2 c.before.bank.width && ready c.before.primary))

-- "accepted clear, seed or switch call"
abbrev pub ended : Call → Bool
ended c = taken c.answer.code && is_end c.event

-- the stations at the ends of the marks that the bank heard
abbrev pub add_if : Bool → Station → List Station → List Station
add_if true m l = m ∷ l
add_if false m l = l

unfoldable pub marks_heard : List Call → List Station
marks_heard [] = []
marks_heard (c ∷ earlier) = add_if (heard c) c.after (marks_heard earlier)

-- a serial is a challenger's whose score is "at least 4.0 (one f32 subtraction) above" p
unfoldable pub ahead_among : Settings → ℕ → Float → List Hyp → Bool
ahead_among k n p [] = false
ahead_among k n p (h ∷ l) = eqb n h.serial && ahead k h.score p || ahead_among k n p l

-- "a challenger ended that mark .. at least 4.0 .. above the then primary's score"
abbrev pub leads_at : Settings → ℕ → Station → Bool
leads_at k n m = ahead_among k n m.bank.score m.bank.challengers

-- ".. and the bank mark before it"
abbrev pub led_at_last : Settings → ℕ → List Station → Bool
led_at_last k n [] = false
led_at_last k n (m ∷ before) = leads_at k n m

-- "Age counts bank marks since its start or since it ceased to be primary": since the call that made it a challenger, that call not counted
unfoldable pub age : ℕ → List Call → ℕ
age n [] = 0
age n (c ∷ earlier) = cond (leb 1 (among n c.before.bank.challengers)) (ind (heard c) + age n earlier) 0

-- what the rule asks of a challenger h at the mark that was heard in the call c
abbrev pub meets : Settings → Call → List Call → Hyp → Bool
meets k c earlier h =
    leads_at k h.serial c.after && (
    led_at_last k h.serial (marks_heard earlier) && (
    leb 2 (age h.serial (c ∷ earlier)) &&
    above h.gap_score c.after.bank.gap_score))

-- "among those that meet all this, the first in bank order of highest score at that mark"
abbrev pub higher_of : Option Hyp → Hyp → Option Hyp
higher_of none h = some h
higher_of (some g) h = cond (above h.score g.score) (some h) (some g)

unfoldable pub first_highest : (Hyp → Bool) → Option Hyp → List Hyp → Option Hyp
first_highest q best [] = best
first_highest q best (h ∷ l) = first_highest q (cond (q h) (higher_of best h) best) l

abbrev pub serial_of : Option Hyp → Option ℕ
serial_of none = none
serial_of (some h) = some h.serial

-- the challenger that "the last mark that the bank heard, with no accepted clear, seed or switch call since" names
unfoldable pub named : Settings → List Call → Option ℕ
named k [] = none
named k (c ∷ earlier) =
    cond (heard c) (serial_of (first_highest (meets k c earlier) none c.after.bank.challengers))
    (cond (ended c) none (named k earlier))

-- the one to be moved by a switch call that comes after these calls: "exactly when switching is on, the width is at least 2, and .."
abbrev pub due : Settings → ℕ → Bool → List Call → Option ℕ
due k width switching calls = cond (switching && leb 2 width) (named k calls) none

-- the challenger of the serial n moved into the primary's place, and the former primary stands among the challengers
pub record Moved (n : ℕ) (before after : Station) : Type 0 where
  pub mover : Hyp
  pub was : Memᴰ mover before.bank.challengers
  pub its : mover.serial ≡ n
  pub primary : after.primary ≡ settled mover.tracker
  pub serial : after.serial ≡ n
  pub other : n ≢ before.serial
  pub former : among before.serial after.bank.challengers ≡ 1

-- by document 01's numbers: 2 "switched", 3 "nothing to do"
abbrev pub Ruled : Option ℕ → Call → Type 0
Ruled none c = says 3 c.answer.code × (c.after.serial ≡ c.before.serial)
Ruled (some n) c = says 2 c.answer.code × Moved n c.before c.after

-- an accepted switch call answers and moves as the rule says, from the calls before it as the definitions give them
abbrev pub SwitchRule : Settings → ℕ → Bool → Call → List Call → Type 0
SwitchRule k width switching c earlier =
    c.event ≡ Switch → taken c.answer.code ≡ true → Ruled (due k width switching (calls_of k (fresh width switching) (map event_of earlier))) c

-- a call changed the primary's serial exactly when it was a switch call that answered 'switched'
abbrev pub SerialRule : Call → List Call → Type 0
SerialRule c earlier = (c.after.serial ≢ c.before.serial) ↔ ((c.event ≡ Switch) × says 2 c.answer.code)

-- ---- a ready dit: "the dit centroid of a ready primary or of any challenger"

abbrev pub DitIn : Settings → Tracker → Type 0
DitIn k t = In k.dit_min k.dit_max t.pair.lo

-- ---- the whole

-- demand 3, after the list `calls` that began with a fresh station and left the station `now`
pub record Watch (k : Settings) (width : ℕ) (switching : Bool) (calls : List Call) (now : Station) : Type 0 where
  -- "The station and all answers are those that 01's definitions give from that start and the list alone, but for the order that 01 leaves free."
  pub defined : Each (AsDefined k (fresh width switching)) calls
  pub ends : now ≡ station_after k (fresh width switching) (map event_of calls)
  -- "started = challengers + twins + outscored + aged + replaced + cleared, where the last five are the numbers of departures of each cause in the answers."
  pub balance : now.bank.started
      ≡ length now.bank.challengers + of_cause Twin (departures calls) + of_cause Outscored (departures calls) + of_cause Aged (departures calls)
      + of_cause Replaced (departures calls) + of_cause Cleared (departures calls)
  -- 01: "the station's five counts by cause are those of the answers"
  pub counts : now.counts ≡ counts_of (departures calls)
  -- "Each serial from 0 to started, both included, is found exactly once among the primary, the challengers and the answers' departures." And no other is found.
  pub once : (n : ℕ) → n ≤ now.bank.started → times_found n now calls ≡ 1
  pub never : (n : ℕ) → now.bank.started < n → times_found n now calls ≡ 0
  -- "A call of the list changed the primary's serial exactly when it was a switch call that answered 'switched'."
  pub serials : Each SerialRule calls
  -- "A switch call answered that exactly under 01's switch rule, and moved the challenger that the rule names."
  pub switches : Each (SwitchRule k width switching) calls
  -- "Every ready dit lies in 20 to 150 ms.", which are the limits that 01's settings have
  pub primary_dit : ready now.primary ≡ true → DitIn k now.primary
  pub challenger_dits : (h : Hyp) → Memᴰ h now.bank.challengers → DitIn k h.tracker

-- the theorem on the definitions' own calls; what a program promises of its calls is `Watched` of `station/specs/Answers`
pub record Promised (k : Settings) (width : ℕ) (switching : Bool) : Type 0 where
  pub all : (events : List Event) → AllCarry events → Watch k width switching (calls_of k (fresh width switching) events) (station_after k (fresh width switching) events)

-- ---- the program

-- one call of the program's step function: on which station, with what, and what it returned
pub record Ran (S R : Type 0) : Type 0 where
  pub before : S
  pub event : Event
  pub returned : R

-- A list of calls, each on the station that the one before returned. `Called s e r` is what the function's contract says of the r that it returns for s and e, and `station r` is
-- the station in r.
module _ {S R : Type 0} (station : R → S) (Called : S → Event → R → Type 0) where
  unfoldable pub RanFrom : S → List (Ran S R) → S → Type 0
  RanFrom start [] now = now ≡ start
  RanFrom start (c ∷ earlier) now = RanFrom start earlier c.before × (Carries c.event × Called c.before c.event c.returned) × (now ≡ station c.returned)

-- what the contract has to say, on the views
pub record Stepped (k : Settings) (s : Station) (e : Event) (t : Station) (a : Answer) : Type 0 where
  pub station : t ≡ (step k s e).station
  pub answer : SameAnswer a (step k s e).answer

-- what holds of a pending choice in every station of a watch: it is a challenger's place, and the primary is ready (refusal 1 asks the second only at a switch)
pub record Settled (s : Station) : Type 0 where
  pub inside : (i : ℕ) → s.bank.pending ≡ some i → i < length s.bank.challengers
  pub unready : ready s.primary ≡ false → s.bank.pending ≡ none
