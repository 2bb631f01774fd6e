-- `line_out::inner::put_decimal` meets its contract. Assumes nothing.
use Rattle.std.proofs.Common.{◌≡◌, [], ◌∷◌, ◌/◌, ◌%◌, ◌++◌, take, arith}
use Rattle.line_out.specs.Shown.{decimal, glyph}
use Rattle.line_out.specs.Bytes.{contents}
use Rattle.line_out.proofs.Digits.{decimal_one, decimal_more}
use Rattle.line_out.proofs.Holding.{joins}
use Rattle.line_out.proofs.inner.+put_decimal.Goals as goal
use Rattle.line_out.proofs.inner.+put_decimal.Goals.{then-tenth-gt0, else-tenth-gt0}

pub returns : goal.returns
returns t c =
    let n = c.args.n in
    let d = glyph (n % 10) ∷ [] in
    let last : contents c.push.new.self ≡ take 80 (contents c.if-tenth-gt0.line ++ d) = cc in
    elim c.if-tenth-gt0.branch [
      | then-tenth-gt0 w ↦
          rw (decimal_more n c.ranges.n.fits (omega arith))
          (joins _ (decimal (n / 10)) d w.put_decimal.ensures (rw w.line-is at last))
      | else-tenth-gt0 w ↦ rw (decimal_one n (omega arith)) (rw w.line-is at last)
    ]
