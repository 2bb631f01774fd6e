-- What the parts of the code ask of a station: soundness, part by part. Definitions only.
use Rattle.std.specs.Prelude.{◌≡◌, false, [], ℕ, ◌+◌, ◌≤◌, ◌<◌, T, eqb, ltb, length}
use Rattle.std.proofs.Math.Option.{none}
use Rattle.std.specs.Float.Ieee.Positive.{positive}
use Rattle.ranges.specs.Settings.{standard}
use Rattle.ranges.specs.Limits.{duration_min, duration_max}
use Rattle.ranges.specs.Interval.{In}
use Rattle.tracker.specs.Sound as Tracking
use Rattle.bank_model.specs.Left.{those}
use Rattle.bank.specs.Sturdy.{Sturdy}
use Rattle.bank.specs.Parts as Banked
use Rattle.bank.specs.Switching.{Chosen}
use Rattle.station_model.specs.declared.Event.{Event}
use Rattle.station_model.specs.declared.Event.TheVariants.{Mark, Gap, Finish, Seed, Hint, Clear, Switch}
use Rattle.station_model.specs.declared.Code.{Code}
use Rattle.station_model.specs.declared.Counts.{Counts}
use Rattle.station_model.specs.Station.{ind, ready, step}
use Rattle.station_model.specs.Station as Model
use Rattle.station_model.specs.Watch.{among}
use Rattle.station.specs.declared.Station.{Station}
use Rattle.station.specs.declared.Outcome.{Outcome}
use Rattle.station.specs.View.{view, outcome}

-- no count is above n
pub record AtMost (n : ℕ) (c : Counts) : Type 0 where
  pub twins : c.twins ≤ n
  pub outscored : c.outscored ≤ n
  pub aged : c.aged ≤ n
  pub replaced : c.replaced ≤ n
  pub cleared : c.cleared ≤ n

-- the books of a sound station: a serial is held once at most, and none above started; started is at most the accepted calls; the counts balance
pub record Booked (s : Model.Station) : Type 0 where
  pub once : (n : ℕ) → ind (eqb n s.serial) + (among n s.bank.challengers + ind (ltb s.bank.started n)) ≤ 1
  pub few : s.bank.started ≤ s.accepted
  pub balance : s.bank.started ≡ length s.bank.challengers + s.counts.twins + s.counts.outscored + s.counts.aged + s.counts.replaced + s.counts.cleared

-- what a sound station has
pub record Solid (s : Station) : Type 0 where
  pub primary : T (Tracking.sound standard s.primary)
  pub bank : Sturdy s.bank
  pub books : Booked (view s)

-- what every station from a fresh one has: it is sound, and nothing is pending while the primary is unready (refusal 1 asks the second only at a switch)
pub record Steady (s : Station) : Type 0 where
  pub solid : Solid s
  pub unready : ready (view s).primary ≡ false → (view s).bank.pending ≡ none

-- refusal 2 does not hold
pub record Open (s : Station) : Type 0 where
  pub bank : Banked.Countable s.bank
  pub accepted : s.accepted < 4294967295

-- refusals 5 to 8 do not hold, nor "a choice pending and the primary unready" at a switch
abbrev pub Allowed : Station → Event → Type 0
Allowed s (Mark d live) = In duration_min duration_max d
Allowed s (Gap d) = In duration_min duration_max d
Allowed s Finish = Unit {0}
Allowed s (Seed v) = T (positive v)
Allowed s (Hint r) = Unit {0}
Allowed s Clear = Unit {0}
Allowed s Switch = Chosen s.bank s.primary

-- a call that no one leaves at: the station after it, and the code
pub record NoOneLeft (t : Station) (c : Code) (r : Outcome) : Type 0 where
  pub station : r.station ≡ t
  pub code : r.answer.code ≡ c
  pub none : those r.answer.gone ≡ []

-- an outcome is as m says, of a sound primary and a sound bank
pub record Stands (r : Outcome) (m : Model.Outcome) : Type 0 where
  pub is : outcome r ≡ m
  pub primary : T (Tracking.sound standard r.station.primary)
  pub bank : Sturdy r.station.bank

-- a call on a steady station is what the definitions say, refused or not, and never refused by 1; the station is steady again
pub record Next (s : Station) (e : Event) (r : Outcome) : Type 0 where
  pub is : outcome r ≡ step standard (view s) e
  pub steady : Steady r.station
