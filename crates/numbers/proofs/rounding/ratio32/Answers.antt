-- `numbers::rounding::ratio32` meets its contract. Assumes nothing.
use Rattle.std.proofs.Common.{◌∙◌}
use lib.Ieee.{binary32}
use Rattle.numbers.proofs.Rounds.{ratio_is}
use Rattle.numbers.proofs.rounding.ratio32.Goals as goal

pub returns : goal.returns
returns c = c.nearest32.ensures ∙ ratio_is binary32 c.args.neg c.args.num c.args.k c.requires
