use Rattle.std.proofs.Common.{sym, ◌∙◌}
use Rattle.bank_model.proofs.Others.{seek_begins, seek_finds, seek_passes, seek_ends}
use Rattle.bank.proofs.inner.ready.least_place.Goals as goal
use Rattle.bank.proofs.inner.ready.least_place.Goals.{then-total_less32, else-total_less32}

pub loop-i-init : goal.loop-i-init
loop-i-init c = seek_begins _ c.requires

pub loop-i-preserved : goal.loop-i-preserved
loop-i-preserved c =
    elim c.if-total_less32.branch [
      | then-total_less32 w ↦ rw (
        w.best-is,
        w.low-is,
      ) (seek_finds _ _ _ _ c.loop-i-test.true c.loop-i.invariant (sym c.total_less32.ensures
          ∙ w.if-total_less32.true))
      | else-total_less32 w ↦ rw (
        w.best-is,
        w.low-is,
      ) (seek_passes _ _ _ _ c.loop-i-test.true c.loop-i.invariant (sym c.total_less32.ensures
          ∙ w.if-total_less32.false))
    ]

pub returns : goal.returns
returns c = seek_ends _ _ _ _ c.loop-i-test.false c.loop-i.invariant
