-- `plain_tracker::inner::carried` meets its contract. Assumes nothing.
use Rattle.std.proofs.Common.{◌≡◌, min, ◌∙◌, ap, arith}
use Rattle.plain_tracker.specs.Plain.{carried}
use Rattle.plain_tracker.proofs.Carrying.{carry_begins, carry_turns, carry_ends}
use Rattle.plain_tracker.proofs.inner.carried.Goals as goal

pub loop-i-init : goal.loop-i-init
loop-i-init g c = carry_begins g.g c.args.blank c.args.from.now g.row.N c.told-from

pub loop-i-preserved : goal.loop-i-preserved
loop-i-preserved g c =
    carry_turns g.g c.args.blank c.args.from.now _ _ c.index-from-i.result _
    (omega (arith, c.told-from, c.min-i-end.ensures)) c.loop-i.invariant (c.requires.1.1.1.1.1.1.1 _ _ c.f.ensures)

pub returns : goal.returns
returns g c =
    let e : c.loop-i.i ≡ min c.args.count g.row.N = omega arith in
    c.loop-i.invariant ∙ ap (λ i. carried g.g c.args.blank i c.args.from.now) e
    ∙ carry_ends g.g c.args.blank c.args.from.now c.args.count g.row.N c.told-from
