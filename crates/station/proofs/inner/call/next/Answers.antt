-- `station::inner::call::next` meets its contract. Assumes nothing.
use Rattle.station.proofs.Steadying.{steady_next}
use Rattle.station.proofs.inner.call.next.Goals as goal

pub returns : goal.returns
returns c = steady_next c.args.s.now c.args.e c.call.result c.requires c.call.ensures
