-- `replay::put_answer` prints a letter, a code and a flag, in this order. Assumes nothing.
use Rattle.std.proofs.KnownBytes.{Appends-trans}
use Rattle.replay.proofs.Printed.{both}
use Rattle.replay.proofs.put_answer.Goals as goal

pub returns : goal.returns
returns g c =
    both _ _ _ _ _ _
    (Appends-trans _ _ _ _ _ c.in_ok-put_byte.ensures c.in_ok-put_code.ensures)
    c.put_flag.ensures
