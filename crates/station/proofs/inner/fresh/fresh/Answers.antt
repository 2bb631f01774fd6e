-- `station::inner::fresh::fresh` meets its contract. Assumes nothing.
use Rattle.station.proofs.Keeping.{fresh_is}
use Rattle.station.proofs.inner.fresh.fresh.Goals as goal

pub returns : goal.returns
returns c =
    let b = c.fresh-2 in
    let p = c.fresh.result in
    fresh_is c.args.width c.args.switching p.tracker b.result.bank c.default.result (c.fresh.ensures.1, p.held)
    b.ensures b.result.sturdy
    (let z = c.default.ensures in λ i. record { twins = z.0 i; outscored = z.1.0 i; aged = z.1.1.0 i; replaced = z.1.1.1.0 i; cleared = z.1.1.1.1 i })
