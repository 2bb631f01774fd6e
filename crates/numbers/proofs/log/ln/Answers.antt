-- `numbers::log::ln` meets its contract. Assumes nothing.
use Rattle.std.proofs.Common.{◌≡◌, true}
use lib.Ieee.{binary32}
use lib.Ieee.Positive.{positive}
use Rattle.numbers.proofs.Library.{said_ln, no_said_ln}
use Rattle.numbers.proofs.Plain.{top32_is, positive_by, low_by, high_by, passed}
use Rattle.numbers.proofs.log.ln.Goals as goal
use Rattle.numbers.proofs.log.ln.Goals.{Then-v-2, else-v-via-then-v+else-v-2, else-v-via-else-v}

-- past both tests
above : (c : Then-v-2) → positive c.args.v ≡ true
above c = positive_by binary32 c.args.v _ top32_is c.if-v.true c.if-v-2.true

pub ln_of-requires : goal.ln_of-requires
ln_of-requires c = passed c.args.v (above c)

pub returns-then-v-2 : goal.returns-then-v-2
returns-then-v-2 c = said_ln _ _ (above c.before) c.ln_of.ensures

pub returns-else-v : goal.returns-else-v
returns-else-v c =
    no_said_ln _ (elim c.else-v.branch [
      | else-v-via-then-v+else-v-2 w ↦ high_by binary32 c.args.v _ top32_is w.if-v-2.false
      | else-v-via-else-v w ↦ low_by binary32 c.args.v _ top32_is w.if-v.false
    ])
