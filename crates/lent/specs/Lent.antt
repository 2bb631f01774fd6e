-- The switch call with a tracker lent to it (document 01, "TimingBank"). Definitions only.
use Rattle.tracker.specs.declared.SpeedTracker.{SpeedTracker}
use Rattle.bank.specs.declared.Switched.{Switched}
use Rattle.lent.specs.declared.LentSwitched.{LentSwitched}

-- "A host may lend its own tracker to the switch call and find the exchanged one in it": the answer, and the tracker
-- that is found then,
-- are together an answer of the switch call by value
abbrev pub together : LentSwitched → SpeedTracker → Switched
together r found = record { flag = r.flag; bank = r.bank; primary = found; serial = r.serial }
