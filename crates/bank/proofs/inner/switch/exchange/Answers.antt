use Rattle.std.proofs.Common.{refl}
use Rattle.bank.proofs.Exchanging.{it_fit, recorded, out_sturdy, exchange_took}
use Rattle.bank.proofs.inner.switch.exchange.Goals as goal

pub push_log-requires : goal.push_log-requires
push_log-requires c =
    let p = c.args.p in
    recorded c.args.b.bank c.args.b.sturdy c.args.i c.requires.i_bound.0 _ p.tracker _ p.held c.requires.ready

pub invariant_of-settle : goal.invariant_of-settle
invariant_of-settle c =
    record { held = (it_fit c.args.b.bank c.args.b.sturdy c.args.i c.requires.i_bound.0 _).tracker }

pub invariant_of-result : goal.invariant_of-result
invariant_of-result c =
    record {
      sturdy =
          out_sturdy c.args.b.bank c.args.b.sturdy c.args.i c.requires.i_bound.0 _ _ c.push_log.result.sturdy _
          c.push_log.ensures _ c.former-f.ensures.1;
    }

pub returns : goal.returns
returns c = exchange_took c.args.b.bank c.args.b.sturdy c.args.i c.requires.i_bound.0 _ _ c.push_log.result.sturdy _
    c.push_log.ensures c.former-f.result c.args.p.tracker c.settle.result.tracker c.args.serial _ refl
    c.former-f.ensures.0 c.settle.ensures c.requires.i_bound.1 (refl, (refl, (refl, refl)))
