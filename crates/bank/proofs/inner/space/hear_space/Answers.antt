use Rattle.tracker.specs.Model as Tracked
use Rattle.bank.proofs.Stock.{map_begins, map_member, map_turns, map_sturdy}
use Rattle.bank.proofs.Hearing.{primary_gap}
use Rattle.bank.proofs.Beating.{before_sturdy, space_is}
use Rattle.bank.proofs.inner.space.hear_space.Goals as goal

pub loop-i-init : goal.loop-i-init
loop-i-init c = map_begins _ _ c.args.b.bank.sturdy.crew

pub gap_one-requires : goal.gap_one-requires
gap_one-requires c = map_member _ _ _ _ _ c.loop-i-test.true c.loop-i.invariant

pub loop-i-preserved : goal.loop-i-preserved
loop-i-preserved c = map_turns _ _ _ _ _ _ c.loop-i-test.true c.loop-i.invariant c.gap_one.ensures

pub invariant_of-result : goal.invariant_of-result
invariant_of-result c =
    let s = c.args.b.bank.sturdy in
    let p = Tracked.view c.args.p in
    let k = c.gap_logs-k.ensures in
    let e = primary_gap p _ _ _ _ _ _ c.gap_logs-k.result.gap s.score c.decayed-s.ensures c.gap_ll-l.ensures k.1
    c.requires.0 k.0 in
    let g = primary_gap p _ _ _ _ _ _ c.gap_logs-k.result.gap s.score_gap c.decayed-g.ensures c.gap_ll-l.ensures k.1
    c.requires.0 k.0 in
    record { sturdy = map_sturdy _ _ _ _ c.loop-i.invariant (before_sturdy _ s p c.args.d.ms _ _ e g c.args.d.held) }

pub returns : goal.returns
returns c =
    let s = c.args.b.bank.sturdy in
    let p = Tracked.view c.args.p in
    let k = c.gap_logs-k.ensures in
    let e = primary_gap p _ _ _ _ _ _ c.gap_logs-k.result.gap s.score c.decayed-s.ensures c.gap_ll-l.ensures k.1
    c.requires.0 k.0 in
    let g = primary_gap p _ _ _ _ _ _ c.gap_logs-k.result.gap s.score_gap c.decayed-g.ensures c.gap_ll-l.ensures k.1
    c.requires.0 k.0 in
    space_is _ s p c.args.d.ms _ _ e g _ _ _ k.0 c.loop-i-test.false c.loop-i.invariant
