-- Those that departures tell of. Definitions only.
use Rattle.std.specs.Prelude.{List, take}
use Rattle.bank_model.specs.declared.Departure.{Departure}
use Rattle.bank_model.specs.declared.departures.Departures.{Departures}

abbrev pub those : Departures → List Departure
those d = take d.left_len d.left
