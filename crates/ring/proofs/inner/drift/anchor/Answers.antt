-- `ring::inner::drift::anchor` meets its contract. Assumes nothing.
use Rattle.std.proofs.Common.{sym, ◌∙◌, arith}
use Rattle.ranges.specs.Settings.{standard}
use Rattle.ring.proofs.Ringing.{first_sound, anchor_lo, anchor_hi, dit_number, dah_number}
use Rattle.ring.proofs.inner.drift.anchor.Goals as goal

pub returns-then-all_classed : goal.returns-then-all_classed
returns-then-all_classed c =
    let l = c.told-ring in
    let i = first_sound standard _ _ (omega arith) c.requires in
    (anchor_lo _ _ (omega arith) (sym c.all_classed.ensures ∙ c.if-all_classed.true), dit_number _ i.0)

pub returns-else-all_classed : goal.returns-else-all_classed
returns-else-all_classed c =
    let l = c.told-ring in
    let i = first_sound standard _ _ (omega arith) c.requires in
    (anchor_hi _ _ (omega arith) (sym c.all_classed.ensures ∙ c.if-all_classed.false), dah_number _ i.1)
