-- What becomes of statistics when one class is lent to be written. Definitions only.
use Rattle.std.specs.Borrow.{Lends, MutBor, Fml}
use Rattle.sender.specs.declared.TimingClass.{TimingClass}
use Rattle.sender.specs.declared.ClassStats.{ClassStats}
use Rattle.sender.specs.declared.SenderTiming.{SenderTiming}
use Rattle.sender.specs.contracts.SenderTiming.{the_row}
use Rattle.sender.specs.contracts.ClassStats as C
use Rattle.sender.specs.Model.{with_stats}

-- s ends with the class set to the last value behind r
abbrev pub LendsClass : MutBor SenderTiming → TimingClass → MutBor ClassStats → Fml
LendsClass s k r = Lends the_row C.the_row s r (λ c. with_stats k c s.now)
