-- The short ways of an event, for a loop over many. Definitions only.
use Rattle.std.specs.Prelude.{◌≡◌, true, false, ◌&&◌, ◌<◌, leb, is_some}
use Rattle.std.specs.Float.{binary32}
use Rattle.std.specs.Float.Ieee.{mul, le}
use Rattle.ranges.specs.Settings.{standard}
use Rattle.ranges.specs.declared.duration.Duration.{Duration}
use Rattle.tracker.specs.Model as Tracked
use Rattle.tracker.specs.Steps.{dit_estimate}
use Rattle.bank_model.specs.Constants.{pause_dits}
use Rattle.station_model.specs.declared.Event.{Event}
use Rattle.station_model.specs.declared.Event.TheVariants.{Mark, Gap, Switch}
use Rattle.station_model.specs.Station.{refusal}
use Rattle.station.specs.declared.Station.{Station}
use Rattle.station.specs.declared.inner.pace.Way.{Way}
use Rattle.station.specs.declared.inner.pace.Way.TheVariants.{Idle, Beat, Space, Other}
use Rattle.station.specs.View.{view}

-- a switch that is accepted, with nothing pending
pub record Idles (s : Station) (e : Event) : Type 0 where
  pub free : refusal (view s) e ≡ 0
  pub is : e ≡ Switch
  pub empty : is_some s.bank.pending ≡ false

-- a live mark d that is accepted and heard by the bank, after a streak of fewer than three marks
pub record Beats (s : Station) (e : Event) (d : Duration) : Type 0 where
  pub free : refusal (view s) e ≡ 0
  pub is : e ≡ Mark d.ms true
  pub heard : (s.primary.pair.ready && leb 2 s.bank.width) ≡ true
  pub few : s.bank.streak_len < 3

-- a gap d that is accepted and heard by the bank, and is below twelve of the primary's units
pub record Spaces (s : Station) (e : Event) (d : Duration) : Type 0 where
  pub free : refusal (view s) e ≡ 0
  pub is : e ≡ Gap d.ms
  pub heard : (s.primary.pair.ready && leb 2 s.bank.width) ≡ true
  pub brief : le (mul binary32 pause_dits (dit_estimate standard (Tracked.view s.primary))) d.ms ≡ false

-- what a way says of the event
abbrev pub Leads : Station → Event → Way → Type 0
Leads s e Idle = Idles s e
Leads s e (Beat d) = Beats s e d
Leads s e (Space d) = Spaces s e d
Leads s e Other = Unit {0}
