-- One station has one form. Definitions only.
use Rattle.std.specs.Prelude.{◌≡◌, true, T, length, take}
use Rattle.std.specs.Float.{binary32}
use Rattle.std.specs.Float.Ieee.{fits}
use Rattle.ranges.specs.Settings.{standard}
use Rattle.plain_tracker.specs.declared.PlainTracker.{PlainTracker}
use Rattle.plain.specs.declared.PlainHypothesis.{PlainHypothesis}
use Rattle.std.specs.List.{AllByRecursion}
use Rattle.station.specs.Sound.{sound}
use Rattle.station.specs.View.{view}
use Rattle.plain_station.specs.declared.PlainStation.{PlainStation}
use Rattle.plain_station.specs.Plain.{plain_station, station_of}

-- ---- what every struct in memory has: arrays of their lengths, and numbers of f32

pub record TrackerInMemory (p : PlainTracker) : Type 0 where
  pub init : length p.pair.init ≡ 12
  pub ring : length p.ring ≡ 12
  pub recent : length p.recent ≡ 5

pub record HypInMemory (p : PlainHypothesis) : Type 0 where
  pub tracker : TrackerInMemory p.tracker
  pub ln_lo : T (fits binary32 p.ln_lo)
  pub ln_hi : T (fits binary32 p.ln_hi)

pub record InMemory (p : PlainStation) : Type 0 where
  pub primary : TrackerInMemory p.primary
  pub challengers : length p.bank.challengers ≡ 8
  pub each : AllByRecursion HypInMemory (take p.bank.challengers_len p.bank.challengers)
  pub streak : length p.bank.streak ≡ 4
  pub gaps : length p.bank.streak_gaps ≡ 4
  pub log : length p.bank.log ≡ 16

-- a form in memory that is that of its own station, which is sound
pub record Formed (p : PlainStation) : Type 0 where
  pub memory : InMemory p
  pub good : sound standard (station_of p) ≡ true
  pub neat : p ≡ plain_station (station_of p)

-- two such forms that mean the same are the same, number for number: no place beyond a count and no absent number is free
abbrev pub Canonical : Type 0
Canonical = (p q : PlainStation) → Formed p → Formed q → view (station_of p) ≡ view (station_of q) → p ≡ q
