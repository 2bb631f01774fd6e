-- `numbers::root::any` meets its contract. Assumes nothing.
use Rattle.std.proofs.Common.{Bool, cond, sym, ap, eq-eqb, ne_eqb}
use Rattle.numbers.proofs.root.any.Goals as goal

pub returns-then-n-eq0 : goal.returns-then-n-eq0
returns-then-n-eq0 c = sym (ap (λ (b : Bool). cond b 0 1) (eq-eqb c.args.n 0 c.if-n-eq0.true))

pub returns-else-n-eq0 : goal.returns-else-n-eq0
returns-else-n-eq0 c = sym (ap (λ (b : Bool). cond b 0 1) (ne_eqb c.args.n 0 c.if-n-eq0.false))
