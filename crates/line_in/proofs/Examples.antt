-- The worked lines say what specs/Examples.antt has for them, by computation. Assumes nothing.
use mathlib.Core.Path.{refl}
use lib.Ieee.{size, round, of_int, of_bits, div}
use Rattle.line_in.specs.Fields.{fields}
use Rattle.line_in.specs.Form.{digits, followed, number, flag, whole, sixty_fourths, said, entry}
use Rattle.line_in.specs.Examples.{bytes, AllHold, worked}

pub examples : AllHold worked
unfolding AllHold bytes entry fields said digits followed number flag whole sixty_fourths size round of_int of_bits div
examples = (refl, (refl, (refl, (refl, (refl, (refl, (refl, (refl, (refl, (refl, tt))))))))))
