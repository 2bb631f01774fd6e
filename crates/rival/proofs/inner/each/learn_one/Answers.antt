use Rattle.tracker.proofs.Stored.{unflagged_view}
use Rattle.bank_model.proofs.Ready.{dit_above, dah_above, dit_log, dah_log}
use Rattle.rival.specs.View.{view_hyp}
use Rattle.rival.proofs.Each.{learnt_ready, learnt_is}
use Rattle.rival.proofs.inner.each.learn_one.Goals as goal

pub log_after-lo-requires-clause-t : goal.log_after-lo-requires-clause-t
log_after-lo-requires-clause-t c =
    let r = learnt_ready c.args.h.tracker c.on_mark-v.result.tracker c.settle.result.tracker c.args.d.ms
    c.requires.ready c.on_mark-v.ensures (unflagged_view _ _ c.settle.ensures) in (
      dit_above c.args.h.tracker c.requires.tracker c.requires.ready,
      (dit_above _ c.settle.result.held r, dit_log _ c.settle.result.held r),
    )

pub log_after-hi-requires-clause-t : goal.log_after-hi-requires-clause-t
log_after-hi-requires-clause-t c =
    let r = learnt_ready c.args.h.tracker c.on_mark-v.result.tracker c.settle.result.tracker c.args.d.ms
    c.requires.ready c.on_mark-v.ensures (unflagged_view _ _ c.settle.ensures) in (
      dah_above c.args.h.tracker c.requires.tracker c.requires.ready,
      (dah_above _ c.settle.result.held r, dah_log _ c.settle.result.held r),
    )

pub returns : goal.returns
returns c =
    let f = c.requires in
    let v = unflagged_view _ _ c.settle.ensures in (
      learnt_is (view_hyp c.args.h) _ _ _ c.on_mark-v.ensures v,
      record {
        tracker = c.settle.result.held;
        ready = learnt_ready c.args.h.tracker c.on_mark-v.result.tracker c.settle.result.tracker c.args.d.ms f.ready
            c.on_mark-v.ensures v;
        ln_lo = c.log_after-lo.ensures;
        ln_hi = c.log_after-hi.ensures;
        score = f.score;
        score_gap = f.score_gap;
      },
    )
