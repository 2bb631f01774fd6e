use Rattle.std.proofs.Common.{true, false, sym, refl, ap, ◌∙◌}
use mathlib.Core.Option.{some}
use Rattle.marks.proofs.Testing.{not_taken, not_left}
use Rattle.tracker.specs.Model as Tracked
use Rattle.bank.proofs.Reading.{other_by, lone_three}
use Rattle.bank.proofs.inner.ready.other_reading.Goals as goal

pub returns-then-not-p : goal.returns-then-not-p
returns-then-not-p c = c.three_to_one_alternative.ensures
    ∙ other_by (Tracked.view c.args.p.tracker) _ false _ (not_taken _ c.if-not-p.true) refl

pub from_others-requires : goal.from_others-requires
from_others-requires c =
    lone_three c.args.p.tracker.pair.lo_n _ (sym c.is_lone.ensures ∙ c.if-is_lone.true)

pub returns-then-is_lone : goal.returns-then-is_lone
returns-then-is_lone c = ap some c.from_others.ensures
    ∙ other_by (Tracked.view c.args.p.tracker) _ true true (not_left _ c.if-not-p.false) (sym c.is_lone.ensures
    ∙ c.if-is_lone.true)

pub returns : goal.returns
returns c = other_by (Tracked.view c.args.p.tracker) _ true false (not_left _ c.if-not-p.false)
    (sym c.is_lone.ensures ∙ c.if-is_lone.false)
