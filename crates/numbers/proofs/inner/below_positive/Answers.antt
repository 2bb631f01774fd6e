-- `numbers::inner::below_positive` meets its contract. Assumes nothing.
use Rattle.std.proofs.Common.{T, sym, ap, ◌∙◌, subst}
use lib.Ieee.{Float, binary32, lt}
use lib.Ieee.Bits.{of_bits-to_bits}
use Rattle.numbers.specs.Root.{sqrt_of}
use Rattle.numbers.proofs.inner.below_positive.Goals as goal

pub float_to_bits-c : goal.float_to_bits-c
float_to_bits-c c = c.requires.0

pub returns-then-c-lt2130706432 : goal.returns-then-c-lt2130706432
returns-then-c-lt2130706432 c = let s = c.before.before.before in c.pattern_below.ensures ∙ ap (λ (x : Float). lt x (sqrt_of binary32 s.args.v)) (of_bits-to_bits binary32 s.args.x (subst T (sym s.well_formed.0.1) tt))

pub returns : goal.returns
returns c = ap (lt c.args.x) c.root.ensures
