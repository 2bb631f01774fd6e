-- `plain::to::plain_departures` meets its contract. Assumes nothing.
use Rattle.plain.specs.Plain.{plain_departure}
use Rattle.plain.proofs.to.plain_departures.Given as goal

abbrev pub ghost-carried : goal.ghost-carried
ghost-carried a = plain_departure
