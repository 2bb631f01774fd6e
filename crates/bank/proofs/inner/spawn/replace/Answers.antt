use Rattle.std.proofs.Common.{refl}
use Rattle.bank.proofs.Coming.{replaced_sturdy, replaced}
use Rattle.bank.proofs.inner.spawn.replace.Goals as goal

pub invariant_of-result : goal.invariant_of-result
invariant_of-result c =
    record {
      sturdy =
          replaced_sturdy _ c.args.b.sturdy c.args.h c.args.h c.in-Some.i (rw c.in-Some.is at c.requires.before)
          c.requires.fit _;
    }

pub returns-in-Some : goal.returns-in-Some
returns-in-Some c =
    rw c.in-Some.is
    (replaced _ c.args.b.sturdy c.args.h _ c.in-Some.i (rw c.in-Some.is at c.requires.before) _ _ refl
    (rw c.none-gone.ensures at c.push.ensures))
