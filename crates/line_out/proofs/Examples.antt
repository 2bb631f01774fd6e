-- The worked lines hold, by computation. Assumes nothing.
use mathlib.Core.Path.{refl}
use Rattle.line_out.specs.Shown.{digits, tens, line}
use Rattle.line_out.specs.Examples.{AllHold, worked, bytes}

pub all_hold : AllHold worked
unfolding AllHold bytes line digits tens
all_hold = (refl, (refl, (refl, (refl, (refl, (refl, (refl, (refl, (refl, tt)))))))))
