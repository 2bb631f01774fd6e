-- `line_out::inner::put_number` meets its contract. Assumes nothing.
use Rattle.std.proofs.Common.{[], ◌∷◌}
use Rattle.line_out.specs.Shown.{tab, decimal}
use Rattle.line_out.proofs.Holding.{joins}
use Rattle.line_out.proofs.inner.put_number.Goals as goal

pub returns : goal.returns
returns c = joins _ (tab ∷ []) (decimal c.args.n) c.push.ensures c.put_decimal.ensures
