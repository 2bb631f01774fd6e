-- `numbers::root::pattern_below` meets its contract: `proofs/BelowRoot.antt` says what the product decides. Assumes nothing.
use Rattle.std.proofs.Common.{T, sym, subst}
use lib.Ieee.{binary32, fits}
use Rattle.numbers.proofs.BelowRoot.{middle_number, below_root}
use Rattle.numbers.proofs.Plain.{plain, plain_widens}
use Rattle.numbers.proofs.root.pattern_below.Goals as goal
use Rattle.numbers.proofs.root.pattern_below.Goals.{Start}

held : (c : Start) → T (fits binary32 c.args.v)
held c = subst T (sym c.well_formed.1.0.1) tt

pub float_from_bits-middle : goal.float_from_bits-middle
float_from_bits-middle c = middle_number c.args.c c.requires.0 c.requires.1

pub float_to_float-result : goal.float_to_float-result
float_to_float-result c = plain_widens c.args.v (held c.before) (plain c.args.v c.requires.2)

pub returns : goal.returns
returns c = let s = c.before in below_root s.args.c s.requires.0 s.requires.1 s.args.v (plain s.args.v s.requires.2) (held s)
