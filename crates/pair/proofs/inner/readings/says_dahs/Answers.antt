-- `pair::inner::readings::says_dahs` meets its contract. Assumes nothing.
use Rattle.std.proofs.Common.{sym, ◌∙◌, arith, length-take}
use Rattle.pair.specs.Model.{view_pair}
use Rattle.marks.proofs.Banding.{band_in}
use Rattle.pair.proofs.Reading.{unsure_in}
use Rattle.pair.proofs.inner.readings.says_dahs.Goals as goal

pub invariant_of-kept_gaps : goal.invariant_of-kept_gaps
invariant_of-kept_gaps c =
    let i = unsure_in (view_pair c.args.p) c.requires (sym c.unsure.ensures ∙ c.if-not-unsure.false) in
    let m = band_in c.args.p.lo c.args.gaps.at.now i in
    record { held = rw c.banded-kept.ensures m; few = simp length-take (omega arith) }
