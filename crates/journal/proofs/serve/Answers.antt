-- `journal::serve` meets its contract. Assumes nothing.
use Rattle.std.proofs.Common.{[], sym, ap, ◌∙◌, not, IsOk}
use Rattle.journal.proofs.Ending.{served, whole_written}
use Rattle.journal.proofs.Serving.{always, where_err, where_ok}
use Rattle.journal.proofs.serve.Goals as goal

pub returns-then-is_err-clause-serves : goal.returns-then-is_err-clause-serves
returns-then-is_err-clause-serves g c =
    served _ c.requires.fresh _ c.run-ran.ensures.reads [] _ _
    (where_err _ _ (sym c.is_err.ensures.value ∙ c.if-is_err.true))

pub returns-clause-serves : goal.returns-clause-serves
returns-clause-serves g c =
    served _ c.requires.fresh _ c.run-ran.ensures.reads _ _ _ (always _ c.end-n.ensures.out_after)

pub returns-clause-whole : goal.returns-clause-whole
returns-clause-whole g c = λ h.
    let well : IsOk c.run-ran.result = c.is_err.ensures.negation ∙ ap not c.if-is_err.false in
    whole_written _ c.requires.fresh _ c.run-ran.ensures.reads _ h _ _ _ _ _ (where_ok _ well c.run-ran.ensures.moves)
    _ _ _ c.end-n.ensures.value c.end-n.ensures.out_after _ c.put_last.ensures
