-- `numbers::rounding::pack32` meets its contract: `proofs/Packs.antt` says what the pattern is read as. Assumes nothing.
use Rattle.std.proofs.Common.{◌≡◌, ℕ, ◌+◌, ◌^◌, min, cond, not, T, sym, ap, ◌∙◌, subst, lit≤, shl_exact}
use lib.Ieee.{binary32, nan_bits, of_bits}
use Rattle.numbers.proofs.Packs.{pattern, pattern_is, pattern_number}
use Rattle.numbers.proofs.rounding.pack32.Goals as goal
use Rattle.numbers.proofs.rounding.pack32.Goals.{After-min}

module _ (c : After-min) where
  k : ℕ
  k = c.args.k

  is : c.sign32.result + c.min.result ≡ pattern binary32 c.args.neg c.args.q c.args.k c.requires.0 c.requires.1
  is =
      ap (λ (x : ℕ). x + c.min.result) c.sign32.ensures
      ∙ ap (λ (x : ℕ). cond c.args.neg (2 ^ 31) 0 + x)
      (c.min.ensures ∙ ap (λ (x : ℕ). min (x + c.args.q) 2139095040) (shl_exact 32 23 64 c.ranges.k.fits (lit≤ tt)))

pub float_from_bits-result : goal.float_from_bits-result
float_from_bits-result c = subst (λ (x : ℕ). T (not (nan_bits binary32 x))) (sym (is c)) (pattern_number binary32 c.args.neg c.args.q c.args.k c.requires.0 c.requires.1)

pub returns : goal.returns
returns c = ap (of_bits binary32) (is c) ∙ pattern_is binary32 c.args.neg c.args.q c.args.k c.requires.0 c.requires.1
