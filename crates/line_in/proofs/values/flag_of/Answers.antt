-- `line_in::values::flag_of` meets its contract. Assumes nothing.
use mathlib.Core.Path.{sym}
use native.Mathlib.Omega.{arith}
use Rattle.line_in.proofs.Letters.{off, on, neither, unflagged}
use Rattle.line_in.proofs.values.flag_of.Goals as goal

pub returns-in-48 : goal.returns-in-48
returns-in-48 c = sym (off _ (omega arith) (omega arith))

pub returns-in-49 : goal.returns-in-49
returns-in-49 c = sym (on _ (omega arith) (omega arith))

pub returns-in_default : goal.returns-in_default
returns-in_default c = sym (unflagged _ (λ e. omega arith))

pub returns-in_default-2 : goal.returns-in_default-2
returns-in_default-2 c = sym (neither _ (omega arith) (λ e. omega arith) (λ e. omega arith))

pub returns-in_default-3 : goal.returns-in_default-3
returns-in_default-3 c = sym (unflagged _ (λ e. omega arith))
