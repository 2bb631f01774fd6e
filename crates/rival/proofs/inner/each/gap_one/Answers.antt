use Rattle.rival.proofs.Each.{gap_scored, gapped_is, gapped_fit}
use Rattle.bank_model.proofs.Ready.{estimate_positive}
use Rattle.rival.specs.View.{view_hyp}
use Rattle.ranges.specs.Settings.{standard}
use mathlib.Core.Path.{refl}
use Rattle.rival.proofs.inner.each.gap_one.Goals as goal

pub log_of-v-requires : goal.log_of-v-requires
log_of-v-requires c =
    rw c.dit_estimate-unit.ensures (estimate_positive c.args.h.tracker c.requires.tracker c.requires.ready)

pub returns : goal.returns
returns c = let h = c.args.h in let m = (view_hyp h).tracker in let es =
    gap_scored standard m h.score _ _ _ _ _ c.args.d.dur.ms c.decayed-s.ensures c.gap_ll-l.ensures c.log_of-v.ensures
    c.dit_estimate-unit.ensures c.args.d.ln_is in let eg =
    gap_scored standard m h.gap_score _ _ _ _ _ c.args.d.dur.ms c.decayed-g.ensures c.gap_ll-l.ensures
    c.log_of-v.ensures c.dit_estimate-unit.ensures c.args.d.ln_is in (
      gapped_is standard (view_hyp h) _ c.args.d.dur.ms _ _ es eg c.hear_one-u.ensures,
      gapped_fit h _ c.args.d.dur.ms c.requires (c.hear_one-u.ensures, c.hear_one-u.result.held) refl refl es eg,
    )
