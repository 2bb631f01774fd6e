use Rattle.bank.proofs.Stock.{map_begins, map_member, map_turns, map_ends}
use Rattle.bank.proofs.inner.every.mark_all.Goals as goal

pub loop-i-init : goal.loop-i-init
loop-i-init c = map_begins _ _ c.args.b.sturdy.crew

pub mark_one-requires : goal.mark_one-requires
mark_one-requires c = map_member _ _ _ _ _ c.loop-i-test.true c.loop-i.invariant

pub loop-i-preserved : goal.loop-i-preserved
loop-i-preserved c = map_turns _ _ _ _ _ _ c.loop-i-test.true c.loop-i.invariant c.mark_one.ensures

pub returns : goal.returns
returns c = map_ends _ _ _ _ c.loop-i-test.false c.loop-i.invariant
