-- `numbers::inner::below_root` meets its contract. Assumes nothing.
use Rattle.std.proofs.Common.{ap}
use lib.Ieee.{binary32, lt}
use Rattle.numbers.proofs.Plain.{top32_is, above_number, positive_by, passed}
use Rattle.numbers.proofs.inner.below_root.Goals as goal

pub below_positive-requires : goal.below_positive-requires
below_positive-requires c = let s = c in (above_number binary32 s.args.x c.if-x.true, passed s.args.v (positive_by binary32 s.args.v _ top32_is c.if-v.true c.if-v-2.true))

pub returns : goal.returns
returns c = ap (lt _) c.root.ensures
