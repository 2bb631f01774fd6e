use Rattle.std.proofs.Common.{true, false, leb, sym, refl, ap, ◌∙◌}
use lib.Ieee.{Float}
use Rattle.ranges.specs.Settings.{standard}
use Rattle.tracker.specs.Model as Tracked
use Rattle.bank_model.specs.Steps.{pausing_at}
use Rattle.bank_model.proofs.Ready.{estimate_positive}
use Rattle.bank_model.proofs.Tests.{and_right}
use Rattle.bank.specs.View.{view}
use Rattle.bank.proofs.Hearing.{gap_by}
use Rattle.bank.proofs.inner.gap.on_gap.Goals as goal

pub returns-then-not-hears : goal.returns-then-not-hears
returns-then-not-hears c =
    gap_by (view c.args.b.bank.bank) (Tracked.view c.args.p.tracker) c.args.d.ms false _ (sym c.hears.ensures
    ∙ c.if-not-hears.true) refl

pub returns-then-is_pause : goal.returns-then-is_pause
returns-then-is_pause c = c.drop_gap.ensures
    ∙ gap_by (view c.args.b.bank.bank) (Tracked.view c.args.p.tracker) c.args.d.ms true true (sym c.hears.ensures
    ∙ c.if-not-hears.false)
    (ap (λ (z : Float). pausing_at standard (view c.args.b.bank.bank) z c.args.d.ms) (sym c.dit_estimate-u.ensures)
    ∙ sym c.is_pause.ensures ∙ c.if-is_pause.true)

pub hear_space-requires : goal.hear_space-requires
hear_space-requires c =
    let r =
    and_right (leb 2 c.args.b.bank.bank.width) c.args.p.tracker.pair.ready
    (sym c.hears.ensures ∙ c.if-not-hears.false) in
    (c.dit_estimate-u.ensures, rw c.dit_estimate-u.ensures (estimate_positive c.args.p.tracker c.args.p.held r))

pub returns : goal.returns
returns c = c.hear_space.ensures
    ∙ gap_by (view c.args.b.bank.bank) (Tracked.view c.args.p.tracker) c.args.d.ms true false (sym c.hears.ensures
    ∙ c.if-not-hears.false)
    (ap (λ (z : Float). pausing_at standard (view c.args.b.bank.bank) z c.args.d.ms) (sym c.dit_estimate-u.ensures)
    ∙ sym c.is_pause.ensures ∙ c.if-is_pause.false)
