-- `line_in::entries::numbered` meets its contract. Assumes nothing.
use mathlib.Core.Path.{sym, ◌∙◌, ap}
use mathlib.Core.List.{[], ◌∷◌}
use native.Mathlib.Omega.{arith}
use lib.Seq.{length-take-le}
use Rattle.std.specs.Prelude.{Some}
use Rattle.line_in.specs.Form.{flag, flagged}
use Rattle.line_in.proofs.Parting.{field_within}
use Rattle.line_in.proofs.Forms.{second, unnumbered, numbered_last, numbered_more}
use Rattle.line_in.proofs.entries.numbered.Goals as goal

pub slice_bounds-number_of-end : goal.slice_bounds-number_of-end
slice_bounds-number_of-end c = sym (length-take-le _ _ (omega (arith, field_within c.args.rest.now)))

pub returns-in_err-n : goal.returns-in_err-n
returns-in_err-n c =
    c.from_residual.ensures ∙ sym (unnumbered _ _ (second _ _ _ c.field_len-len.ensures c.in_err-n.ensures))

pub returns-then-len-rest : goal.returns-then-len-rest
returns-then-len-rest c =
    c.two.ensures ∙ sym (numbered_last _ _ _ (omega arith) (second _ _ _ c.field_len-len.ensures c.in_ok-n.ensures))

pub returns-in_err-on : goal.returns-in_err-on
returns-in_err-on c =
    c.from_residual-in_err-on.ensures
    ∙ ap (flagged (c.args.letter ∷ []) (Some c.in_ok-n.n)) (c.in_err-on.ensures ∙ ap flag c.after_tab.ensures)
    ∙ sym
    (numbered_more _ _ _ (omega (arith, field_within c.args.rest.now))
    (second _ _ _ c.field_len-len.ensures c.in_ok-n.ensures))

pub returns : goal.returns
returns c =
    c.three.ensures
    ∙ ap (flagged (c.args.letter ∷ []) (Some c.in_ok-n.n)) (c.in_ok-on.ensures ∙ ap flag c.after_tab.ensures)
    ∙ sym
    (numbered_more _ _ _ (omega (arith, field_within c.args.rest.now))
    (second _ _ _ c.field_len-len.ensures c.in_ok-n.ensures))
