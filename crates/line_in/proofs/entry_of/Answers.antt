-- `line_in::entry_of` meets its contract. Assumes nothing.
use mathlib.Core.Path.{sym, ◌∙◌}
use native.Mathlib.Omega.{arith}
use Rattle.line_in.proofs.Forms.{too_long, letter_alone, letter_none, empty_line, letter_first}
use Rattle.line_in.proofs.entry_of.Goals as goal

pub returns-then-line-gt79 : goal.returns-then-line-gt79
returns-then-line-gt79 c = sym (too_long _ c.if-line-gt79.true)

pub returns-in-len1 : goal.returns-in-len1
returns-in-len1 c = c.one.ensures ∙ sym (letter_alone _ (omega arith))

pub returns-in-9 : goal.returns-in-9
returns-in-9 c = c.numbered.ensures ∙ sym (letter_first _ c.in-9.len_at_least c.if-line-gt79.false (omega arith))

pub returns-in_default : goal.returns-in_default
returns-in_default c = sym (empty_line _ c.in_default.len_below)

pub returns-in_default-2 : goal.returns-in_default-2
returns-in_default-2 c = sym (letter_none _ c.in_default.len_at_least c.if-line-gt79.false (λ e. omega arith))
