-- A station as it stands after an accepted call (document 01, "Station"). Definitions only.
use Rattle.std.specs.Prelude.{◌≡◌, T}
use Rattle.ranges.specs.Settings.{standard}
use Rattle.tracker.specs.Sound as Tracking
use Rattle.bank.specs.Sturdy.{Sturdy}
use Rattle.station_model.specs.Station as Model
use Rattle.station.specs.declared.Station.{Station}
use Rattle.station.specs.View.{view}

-- a station is as m says, of a sound primary and a sound bank
pub record Holds (r : Station) (m : Model.Station) : Type 0 where
  pub is : view r ≡ m
  pub primary : T (Tracking.sound standard r.primary)
  pub bank : Sturdy r.bank
