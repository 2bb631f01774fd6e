-- `numbers::rounding::rounded` meets its contract: more than 64 places leave less than a half. Assumes nothing.
use Rattle.std.proofs.Common.{sym}
use Rattle.numbers.proofs.Closest.{far}
use Rattle.numbers.proofs.rounding.rounded.Goals as goal

pub returns-then-sh-gt64 : goal.returns-then-sh-gt64
returns-then-sh-gt64 c = let s = c.before in sym (far s.args.m s.args.sh s.ranges.m.fits c.if-sh-gt64.true)
