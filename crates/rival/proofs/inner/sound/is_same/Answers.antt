use lib.Dec.{T}
use mathlib.Core.Path.{sym, subst}
use Rattle.rival.proofs.Sounding.{agree}
use Rattle.rival.proofs.inner.sound.is_same.Goals as goal

pub returns-then-a-b : goal.returns-then-a-b
returns-then-a-b c = let s = c.before.before.before in
    agree s.args.a s.args.b _ _ (subst T (sym s.well_formed.0.1) tt) (subst T (sym s.well_formed.1.0.1) tt)
    c.if-a-b.true c.negative32.ensures c.negative32-then-a-b.ensures
