-- `numbers::rounding::pack64` meets its contract: `proofs/Packs.antt` says what the pattern is read as. Assumes nothing.
use Rattle.std.proofs.Common.{◌≡◌, ℕ, ◌+◌, ◌^◌, ◌<◌, min, cond, not, T, sym, ap, ◌∙◌, subst, lit≤, shl_exact}
use lib.Ieee.{binary64, nan_bits, of_bits}
use Rattle.numbers.proofs.Packs.{pattern, pattern_is, pattern_lt, pattern_number}
use Rattle.numbers.proofs.rounding.pack64.Goals as goal
use Rattle.numbers.proofs.rounding.pack64.Goals.{After-min}

module _ (c : After-min) where
  k : ℕ
  k = c.args.k

  is : c.sign64.result + c.min.result ≡ pattern binary64 c.args.neg c.args.q c.args.k c.requires.fact_1.0 c.requires.fact_1.1
  is =
      ap (λ (x : ℕ). x + c.min.result) c.sign64.ensures
      ∙ ap (λ (x : ℕ). cond c.args.neg (2 ^ 63) 0 + x)
      (c.min.ensures ∙ ap (λ (x : ℕ). min (x + c.args.q) 0x7ff0_0000_0000_0000) (shl_exact 11 52 64 c.requires.fact_2 (lit≤ tt)))

pub overflow_add-result : goal.overflow_add-result
overflow_add-result c = record { fits = subst (λ (x : ℕ). x < 2 ^ 64) (sym (is c)) (pattern_lt binary64 c.args.neg c.args.q c.args.k c.requires.fact_1.0 c.requires.fact_1.1) }

pub float_from_bits-result : goal.float_from_bits-result
float_from_bits-result c = subst (λ (x : ℕ). T (not (nan_bits binary64 x))) (sym (is c)) (pattern_number binary64 c.args.neg c.args.q c.args.k c.requires.fact_1.0 c.requires.fact_1.1)

pub returns : goal.returns
returns c = ap (of_bits binary64) (is c) ∙ pattern_is binary64 c.args.neg c.args.q c.args.k c.requires.fact_1.0 c.requires.fact_1.1
