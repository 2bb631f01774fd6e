-- `replay::put_long` prints its upper half and then its lower. Assumes nothing.
use Rattle.replay.proofs.Printed.{both}
use Rattle.replay.proofs.put_long.Goals as goal

pub returns : goal.returns
returns g c = both _ _ _ _ _ _ c.in_ok-put_word.ensures c.put_word-2.ensures
