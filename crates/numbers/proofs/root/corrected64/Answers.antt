-- `numbers::root::corrected64` meets its contract. Assumes nothing.
use Rattle.std.proofs.Common.{◌^◌, le-ltb, lt-ltb}
use Rattle.numbers.proofs.Estimates.{up_fits, down_fits}
use Rattle.numbers.proofs.root.corrected64.Goals as goal

pub overflow_add-result : goal.overflow_add-result
overflow_add-result c = record { fits = up_fits c.args.q c.args.r c.requires.1 c.if-r-lt9223372036854775808.true }

pub returns-then-r-lt9223372036854775808 : goal.returns-then-r-lt9223372036854775808
returns-then-r-lt9223372036854775808 c = rw (lt-ltb c.args.r (2 ^ 63) c.if-r-lt9223372036854775808.true)

pub overflow_sub-result-3 : goal.overflow_sub-result-3
overflow_sub-result-3 c = down_fits c.args.q c.args.r c.requires.0 c.if-r-lt9223372036854775808.false

pub returns : goal.returns
returns c = rw (le-ltb c.args.r (2 ^ 63) c.if-r-lt9223372036854775808.false)
