-- `pair::inner::pair::start` meets its contract. Assumes nothing.
use Rattle.std.proofs.Common.{◌≡◌, length, take, rules, arith, length-take}
use Rattle.ranges.specs.Settings.{standard}
use Rattle.pair.specs.Model.{view_pair}
use Rattle.pair.proofs.Starting.{fifth, fifth_held, started_locks}
use Rattle.pair.proofs.inner.pair.start.Goals as goal

pub invariant_of-initialize : goal.invariant_of-initialize
invariant_of-initialize c =
    let l : length c.args.p.init ≡ 12 = search rules in
    let m = fifth_held _ _ _ c.if-n-eq4.true (omega arith) c.requires.held c.args.d.held in
    record { held = m; few = simp length-take (omega arith) }

pub returns-then-n-eq4 : goal.returns-then-n-eq4
returns-then-n-eq4 c =
    let l : length c.args.p.init ≡ 12 = search rules in
    let z = c.initialize.ensures.1 in
    let e = fifth c.args.p.init c.args.p.init_len c.args.d.ms c.if-n-eq4.true (omega arith) in
    let n : length (take c.args.p.init_len c.args.p.init) ≡ 4 = simp length-take (omega arith) in
    (started_locks standard (view_pair c.args.p) _ _ _ n e c.initialize.ensures.0, omega arith)
