use Rattle.std.proofs.Common.{refl, sym, ◌∙◌}
use Rattle.bank.proofs.Streaking.{begun_streaks, begun, longer, longer_by}
use Rattle.bank.proofs.inner.streak.run_on.Goals as goal

pub invariant_of-result : goal.invariant_of-result
invariant_of-result c = record { sound = begun_streaks _ c.args.b.sturdy c.args.side _ c.args.d.held }

pub returns-then-not-goes_on : goal.returns-then-not-goes_on
returns-then-not-goes_on c =
    begun _ c.args.b.sturdy _ _ c.args.d.held _ _ (sym c.goes_on.ensures ∙ c.if-not-goes_on.true) refl refl

pub invariant_of-result-in-Some : goal.invariant_of-result-in-Some
invariant_of-result-in-Some c =
    record {
      sound =
          longer_by _ c.args.b.sturdy c.args.side _ c.args.d.held (sym c.goes_on.ensures
          ∙ c.if-not-goes_on.false) _ c.in-Some.g.held;
    }

pub invariant_of-result-2 : goal.invariant_of-result-2
invariant_of-result-2 c =
    record {
      sound =
          longer _ c.args.b.sturdy c.args.side _ c.args.d.held (sym c.goes_on.ensures ∙ c.if-not-goes_on.false);
    }
