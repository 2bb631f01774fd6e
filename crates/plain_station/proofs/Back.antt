-- A station goes into its plain form and comes back: all that is part of its state. Assumes nothing.
use mathlib.Core.Path.{◌≡◌, refl, ap, ◌∙◌}
use mathlib.Core.Bool.{true}
use mathlib.Core.List.{List, map}
use Prim.Native.Nat.{ℕ}
use lib.ListN.{take}
use Rattle.ranges.specs.Settings.{Settings}
use Rattle.plain_tracker.specs.Plain.{carried}
use Rattle.plain_tracker.proofs.Back.{trimmed_tracker, tracker_back, tracker_named, tracker_plain, tracker_sound, tracker_view}
use Rattle.plain_tracker.proofs.Carrying.{map_by}
use Rattle.plain.specs.Plain.{no_hyp}
use Rattle.plain.proofs.Back.{trimmed, trimmed_hyp, bank_back, bank_named, crew_kept, trimmed_plain, trimmed_sound, trimmed_view}
use Rattle.rival.specs.declared.TimingHypothesis.{TimingHypothesis}
use Rattle.bank_model.specs.Departures.{widest}
use Rattle.station.specs.declared.Station.{Station}
use Rattle.station.specs.View.{view}
use Rattle.station.specs.Sound.{serial_of, sound}
use Rattle.plain_station.specs.Plain.{plain_station, station_of, is_station}

-- a station whose places beyond a count, and numbers marked absent, are empty
abbrev pub trimmed_station : Station → Station
trimmed_station s = record { primary = trimmed_tracker s.primary; serial = s.serial; bank = trimmed s.bank; counts = s.counts; accepted = s.accepted }

pub station_back : (s : Station) → station_of (plain_station s) ≡ trimmed_station s
station_back s = λ i. record { primary = tracker_back s.primary i; serial = s.serial; bank = bank_back s.bank i; counts = s.counts; accepted = s.accepted }

-- it means the same
pub station_view : (s : Station) → view (station_of (plain_station s)) ≡ view s
station_view s = ap view (station_back s) ∙ (λ i. record { primary = tracker_view s.primary i; serial = s.serial; bank = trimmed_view s.bank i; counts = s.counts; accepted = s.accepted })

-- the serials of its challengers
crew_serials : (n : ℕ) (l : List TimingHypothesis) → map serial_of (take n (carried trimmed_hyp no_hyp n l)) ≡ map serial_of (take n l)
crew_serials n l = ap (map serial_of) (crew_kept n l) ∙ map_by serial_of trimmed_hyp (λ h. refl) (take n l)

still : (k : Settings) (s : Station) → sound k (trimmed_station s) ≡ sound k s
unfolding sound
still k s = rw (tracker_sound k s.primary, trimmed_sound k widest s.bank, crew_serials s.bank.challengers_len s.bank.challengers)

-- it is as sound
pub station_sound : (k : Settings) (s : Station) → sound k (station_of (plain_station s)) ≡ sound k s
station_sound k s = ap (sound k) (station_back s) ∙ still k s

-- no number stands in its form that it has not
pub station_neat : (s : Station) → plain_station (station_of (plain_station s)) ≡ plain_station s
station_neat s = ap plain_station (station_back s) ∙ (λ i. record {
  primary = tracker_plain s.primary i;
  serial = s.serial;
  bank = trimmed_plain s.bank i;
  twins = s.counts.twins;
  outscored = s.counts.outscored;
  aged = s.counts.aged;
  replaced = s.counts.replaced;
  cleared = s.counts.cleared;
  accepted = s.accepted;
})

-- and the form is known for a station's
pub station_named : (s : Station) → is_station (plain_station s) ≡ true
station_named s = rw (tracker_named s.primary, bank_named s.bank)
