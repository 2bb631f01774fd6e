-- `line_out::inner::put_code` meets its contract. Assumes nothing.
use Rattle.std.proofs.Common.{◌≡◌, [], ◌∷◌, true, false, take, ◌++◌}
use Rattle.line_out.specs.Codes.{number, taken}
use Rattle.line_out.specs.Shown.{tab, decimal}
use Rattle.line_out.specs.Bytes.{contents}
use Rattle.line_out.proofs.Holding.{joins}
use Rattle.line_out.proofs.inner.put_code.Goals as goal
use Rattle.line_out.proofs.inner.put_code.Goals.{then-not-is_taken, else-not-is_taken}

pub returns-clause-put : goal.returns-clause-put
returns-clause-put c =
    let n = decimal (number c.args.c) in
    let last : contents c.put_decimal.new.line ≡ take 80 (contents c.if-not-is_taken.line ++ n) = cc in
    elim c.if-not-is_taken.branch [
      | then-not-is_taken w ↦
          let t : taken c.args.c ≡ false = cc in
          let rest = joins _ (82 ∷ []) n w.push-then-not-is_taken.ensures (rw w.line-is at last) in
          rw t (joins _ (tab ∷ []) (82 ∷ n) c.push.ensures rest)
      | else-not-is_taken w ↦
          let t : taken c.args.c ≡ true = cc in
          rw t (joins _ (tab ∷ []) n c.push.ensures (rw w.line-is at last))
    ]
