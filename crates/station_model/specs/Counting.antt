-- The count of a cause among the five. Definitions only.
use Rattle.std.specs.Prelude.{ℕ}
use Rattle.std.specs.Borrow.{Lends, MutBor, Fml, u64}
use Rattle.bank_model.specs.declared.Cause.{Cause}
use Rattle.bank_model.specs.declared.Cause.TheVariants.{Twin, Outscored, Aged, Replaced, Cleared}
use Rattle.station_model.specs.declared.Counts.{Counts}
use Rattle.station_model.specs.contracts.Counts.{the_row}

-- how many left by a cause
abbrev pub count_of : Cause → Counts → ℕ
count_of Twin c = c.twins
count_of Outscored c = c.outscored
count_of Aged c = c.aged
count_of Replaced c = c.replaced
count_of Cleared c = c.cleared

-- c, but n left by the cause
abbrev pub with_count : Counts → Cause → ℕ → Counts
with_count c Twin n = record c { twins = n }
with_count c Outscored n = record c { outscored = n }
with_count c Aged n = record c { aged = n }
with_count c Replaced n = record c { replaced = n }
with_count c Cleared n = record c { cleared = n }

-- c ends with the last value behind r as the count of the cause
abbrev pub LendsCount : MutBor Counts → Cause → MutBor ℕ → Fml
LendsCount c cause r = Lends the_row u64 c r (with_count c.now cause)
