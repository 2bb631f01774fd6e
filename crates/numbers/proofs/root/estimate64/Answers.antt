-- `numbers::root::estimate64` meets its contract. Assumes nothing.
use Rattle.std.proofs.Common.{◌≡◌, ℕ, ap, ◌∙◌, arith, le-ltb, lt-ltb}
use lib.Count.{count_leading_zeros}
use lib.Ieee.{Float, binary64, mul, of_bits}
use Rattle.numbers.specs.Estimate.{newton_of, first_of, half_of, pattern_of, near_root}
use Rattle.numbers.proofs.Estimates.{small_number, guess_number, le_number, thrice, digits_is, no_digits}
use Rattle.numbers.proofs.root.estimate64.Goals as goal
use Rattle.numbers.proofs.root.estimate64.Goals.{After-newton-4, Else-z-gt1}

-- the pattern of m / 2 ^ 62
abbrev at : Else-z-gt1 → ℕ
at c = pattern_of c.args.m (count_leading_zeros 64 c.args.m)

near : (c : After-newton-4) → mul binary64 (of_bits binary64 (at c.before.before.before.before)) c.newton-4.result ≡ near_root (at c.before.before.before.before)
near c =
    let n3 = c.before in
    let n2 = n3.before in
    let n1 = n2.before in
    let p = at n1.before in
    let h = half_of (of_bits binary64 p) in
    ap (mul binary64 (of_bits binary64 p)) (c.newton-4.ensures ∙ ap (λ (x : Float). newton_of x h) (thrice (first_of p) h n1.newton.ensures n2.newton-2.ensures n3.newton-3.ensures))

pub returns-then-z-gt1 : goal.returns-then-z-gt1
returns-then-z-gt1 c = (rw (lt-ltb _ _ c.if-z-gt1.true), omega arith, omega arith)

pub float_from_bits-x : goal.float_from_bits-x
float_from_bits-x c = small_number _ _

pub float_from_bits-y : goal.float_from_bits-y
float_from_bits-y c = guess_number _

pub float_to_bits-result : goal.float_to_bits-result
float_to_bits-result c = le_number _ _ c.if-r.true

pub returns-then-r : goal.returns-then-r
returns-then-r c = (digits_is _ _ (near c.before) c.if-r.true ∙ rw (le-ltb _ _ c.if-z-gt1.false), omega arith, omega arith)

pub returns : goal.returns
returns c = (no_digits _ _ (near c.before) c.if-r.false ∙ rw (le-ltb _ _ c.if-z-gt1.false), omega arith, omega arith)
