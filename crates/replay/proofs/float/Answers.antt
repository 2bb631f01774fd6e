-- `replay::float` reads no pattern of a NaN, but answers one NaN for all of them. Assumes nothing.
use Rattle.std.proofs.Common.{◌≡◌, refl, rules}
use Rattle.std.proofs.lemmas.Float.{not_nan_f32_bits}
use Rattle.std.specs.Float.{binary32, nan}
use Rattle.std.specs.Float.Ieee.{of_bits}
use borrow.Author.Tests.{lt-ltb}
use Rattle.replay.proofs.float.Goals as goal

-- the literal of the code
one_nan : of_bits binary32 0x7fc0_0000 ≡ nan
unfolding of_bits
one_nan = refl

pub returns-then-bits-gt2139095040 : goal.returns-then-bits-gt2139095040
returns-then-bits-gt2139095040 c = rw (lt-ltb _ _ c.if-bits-gt2139095040.true) one_nan

pub float_from_bits-result : goal.float_from_bits-result
float_from_bits-result c = not_nan_f32_bits _ (search rules)
