-- `line_out::inner::put_word` meets its contract: the digits above the place i are written. Assumes nothing.
use Rattle.std.proofs.Common.{[], ◌∷◌}
use Rattle.line_out.specs.Shown.{tab, hexadecimal}
use Rattle.line_out.proofs.Digits.{begins, turned, ended}
use Rattle.line_out.proofs.Holding.{joins}
use Rattle.line_out.proofs.inner.put_word.Goals as goal

pub loop-i-init : goal.loop-i-init
loop-i-init c = begins _ _ _ c.push.ensures

pub loop-i-preserved : goal.loop-i-preserved
loop-i-preserved c =
    turned _ c.loop-i-test.true c.loop-i.auto.i c.glyph.ensures c.push-in-loop-i.ensures c.loop-i.invariant

pub returns : goal.returns
returns c =
    joins _ (tab ∷ []) (hexadecimal c.args.v) c.push.ensures (ended _ c.loop-i-test.false c.loop-i.invariant)
