-- `numbers::rounding::take_apart32` meets its contract: `proofs/Reading.antt` reads the fields. Assumes nothing.
use Rattle.std.proofs.Common.{T, sym, refl, subst}
use lib.Ieee.{binary32, fits}
use Rattle.numbers.proofs.Reading.{finite_number, parted_low, parted}
use Rattle.numbers.proofs.rounding.take_apart32.Goals as goal
use Rattle.numbers.proofs.rounding.take_apart32.Goals.{Start}

-- what owning an `f32` tells: the format holds it
held : (c : Start) → T (fits binary32 c.args.v)
held c = subst T (sym c.well_formed.0.1) tt

pub float_to_bits-b : goal.float_to_bits-b
float_to_bits-b c = finite_number c.args.v c.requires

pub returns-then-field-eq0 : goal.returns-then-field-eq0
returns-then-field-eq0 c = parted_low binary32 8 23 refl refl c.args.v (held c.before) c.requires c.if-field-eq0.true

pub returns-else-field-eq0 : goal.returns-else-field-eq0
returns-else-field-eq0 c = parted binary32 8 23 refl refl c.args.v (held c.before) c.requires c.if-field-eq0.false
