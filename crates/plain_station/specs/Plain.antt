-- What the plain form of a station means: that of its primary and of its bank, and the counts by cause one by one. Definitions only.
use Rattle.std.specs.Prelude.{Bool, ◌&&◌}
use Rattle.plain_tracker.specs.Plain.{plain_tracker, tracker_of, is_tracker}
use Rattle.plain.specs.Plain.{plain_bank, bank_of, is_bank}
use Rattle.station.specs.declared.Station.{Station}
use Rattle.plain_station.specs.declared.PlainStation.{PlainStation}

abbrev pub plain_station : Station → PlainStation
plain_station s = record {
  primary = plain_tracker s.primary;
  serial = s.serial;
  bank = plain_bank s.bank;
  twins = s.counts.twins;
  outscored = s.counts.outscored;
  aged = s.counts.aged;
  replaced = s.counts.replaced;
  cleared = s.counts.cleared;
  accepted = s.accepted;
}

abbrev pub station_of : PlainStation → Station
station_of p = record {
  primary = tracker_of p.primary;
  serial = p.serial;
  bank = bank_of p.bank;
  counts = record { twins = p.twins; outscored = p.outscored; aged = p.aged; replaced = p.replaced; cleared = p.cleared };
  accepted = p.accepted;
}

-- whether a plain form is that of a station: its primary's is that of a tracker, and its bank's that of a bank
abbrev pub is_station : PlainStation → Bool
is_station p = is_tracker p.primary && is_bank p.bank
