-- `shown::put_departure` prints a serial and then a cause. Assumes nothing.
use Rattle.replay.proofs.Printed.{both}
use Rattle.shown.proofs.put_departure.Goals as goal

pub returns : goal.returns
returns g c = both _ _ _ _ _ _ c.in_ok-put_long.ensures c.put_code.ensures
