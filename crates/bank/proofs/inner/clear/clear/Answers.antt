use Rattle.std.proofs.Common.{◌∙◌, le-leb}
use borrow.Author.Tests.{lt-leb}
use Rattle.bank.specs.View.{view}
use Rattle.bank.proofs.Emptying.{no_crew, no_streak, bare_sturdy, clear_off, clear_on}
use Rattle.bank.proofs.inner.clear.clear.Goals as goal

pub returns-then-b-lt2 : goal.returns-then-b-lt2
returns-then-b-lt2 c = c.unchanged.ensures
    ∙ clear_off (view c.args.b.bank) (lt-leb 2 c.args.b.bank.width c.if-b-lt2.true)

pub invariant_of-result : goal.invariant_of-result
invariant_of-result c =
    let s = c.args.b.sturdy in
    record {
      sturdy =
          bare_sturdy _ _ _ _ _ _ _ _ _ _ s.wide_enough s.wide (no_crew _ s.crew.long)
          (no_streak _ _ s.streaks.long s.streaks.gaps_long) s.log;
    }

pub returns : goal.returns
returns c = clear_on c.args.b.bank _ (le-leb 2 c.args.b.bank.width c.if-b-lt2.false) c.all_cleared-gone.ensures
