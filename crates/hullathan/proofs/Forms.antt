-- The form of a sound station means it. Assumes nothing.
use mathlib.Core.Path.{◌≡◌, ap, sym, ◌∙◌}
use mathlib.Core.Bool.{Bool, true, ◌&&◌}
use lib.Dec.{T}
use lib.Ieee.Bits.{is_true}
use Rattle.ranges.specs.Settings.{standard}
use Rattle.station_model.specs.Station as Model
use Rattle.station.specs.declared.Station.{Station}
use Rattle.station.specs.View.{view}
use Rattle.station.specs.Sound.{sound}
use Rattle.plain_station.specs.declared.PlainStation.{PlainStation}
use Rattle.plain_station.specs.Plain.{plain_station, station_of, is_station}
use Rattle.plain_station.proofs.Back.{station_named, station_neat, station_sound, station_view}
use Rattle.hullathan.specs.Host.{good}
use Rattle.hullathan.specs.Parts.{Means}

good_form : (s : Station) → sound standard s ≡ true → good (plain_station s) ≡ true
good_form s h = rw (station_named s, station_sound standard s, h)

pub form_means : (s : Station) (q : PlainStation) (m : Model.Station) → q ≡ plain_station s → view s ≡ m → T (sound standard s) → Means q m
form_means s q m e v h = record {
  state = ap (λ (p : PlainStation). view (station_of p)) e ∙ station_view s ∙ v;
  still = ap good e ∙ good_form s (is_true (sound standard s) h);
  neat = e ∙ sym (ap (λ (p : PlainStation). plain_station (station_of p)) e ∙ station_neat s);
}

-- a form is good where it is a station's, and the station is sound
pub good_is : (p : PlainStation) (s : Station) (b : Bool) → b ≡ (is_station p && sound standard s) → s ≡ station_of p → b ≡ good p
good_is p s b e f = e ∙ ap (λ (z : Station). is_station p && sound standard z) f
