-- `PlainTracker::from` meets its contract. Assumes nothing.
use Rattle.plain_tracker.specs.Plain.{plain_entry}
use Rattle.plain_tracker.proofs.to.PlainTrackerFromSpeedTracker.from.Given as goal

abbrev pub ghost-carried : goal.ghost-carried
ghost-carried a = plain_entry

abbrev pub ghost-carried-2 : goal.ghost-carried-2
ghost-carried-2 a = λ d. d
