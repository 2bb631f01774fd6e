-- `numbers::root::sqrt` meets its contract. Assumes nothing.
use Rattle.std.proofs.Common.{sym, ◌∙◌}
use Rattle.numbers.proofs.Library.{said_root, no_said_root}
use Rattle.numbers.proofs.root.sqrt.Goals as goal

pub returns-then-has_root : goal.returns-then-has_root
returns-then-has_root g c =
    said_root g.F.BinaryFloat.format _ _ (sym c.has_root.ensures ∙ c.if-has_root.true) c.root.ensures

pub returns-else-has_root : goal.returns-else-has_root
returns-else-has_root g c = no_said_root g.F.BinaryFloat.format _ (sym c.has_root.ensures ∙ c.if-has_root.false)
