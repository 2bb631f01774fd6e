use Rattle.std.proofs.Common.{refl}
use Rattle.bank.proofs.Exchanging.{recorded, again, noted_is, noted_sturdy}
use Rattle.bank.proofs.inner.switch.observe.Goals as goal

pub returns-then-h : goal.returns-then-h
returns-then-h c = again c.args.b.bank c.args.b.sturdy c.args.i c.requires.i_bound _ c.args.p.tracker c.if-h.true

pub push_log-requires : goal.push_log-requires
push_log-requires c =
    let p = c.args.p in
    recorded c.args.b.bank c.args.b.sturdy c.args.i c.requires.i_bound _ p.tracker _ p.held c.requires.ready

pub invariant_of-result-2 : goal.invariant_of-result-2
invariant_of-result-2 c =
    record {
      sturdy =
          noted_sturdy c.args.b.bank c.args.b.sturdy c.args.i c.requires.i_bound _ _ c.push_log.result.sturdy _
          c.push_log.ensures _ (refl, (refl, refl)) (refl, refl);
    }

pub returns : goal.returns
returns c = noted_is c.args.b.bank c.args.b.sturdy c.args.i c.requires.i_bound _ _ c.push_log.result.sturdy _
    c.push_log.ensures _ c.args.p.tracker c.if-h.false refl refl
