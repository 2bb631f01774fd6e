-- `journal_lines::inner::gather::gather` meets its contract. Assumes nothing.
use mathlib.Core.Path.{refl, sym, ◌∙◌}
use Rattle.line_out.proofs.Holding.{few, take_past}
use Rattle.journal_lines.proofs.Gathering.{gather_line, gather_part}
use Rattle.journal_lines.proofs.inner.gather.gather.Goals as goal

pub returns-in-Some : goal.returns-in-Some
returns-in-Some c =
    gather_line _ _ _ _ _ c.if-left-eq0.false (sym c.in-Some.ensures)
    (c.write.ensures ∙ take_past 80 _ _ _ refl (few c.args.line.now))

pub returns-in-None : goal.returns-in-None
returns-in-None c =
    gather_part _ _ _ _ c.if-left-eq0.false (sym c.in-None.ensures)
    (c.write-in-None.ensures ∙ take_past 80 _ _ _ refl (few c.args.line.now))
