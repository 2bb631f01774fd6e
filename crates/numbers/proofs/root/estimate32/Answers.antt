-- `numbers::root::estimate32` meets its contract. Assumes nothing.
use Rattle.std.proofs.Common.{◌/◌, T, sym, ap, ◌∙◌, subst, le-leb}
use borrow.Author.Tests.{lt-leb}
use lib.Ieee.{Float, binary32, binary64, fits, to_bits, mul}
use Rattle.numbers.specs.Estimate.{near_pattern, first_of, half_of}
use Rattle.numbers.proofs.Estimates.{guess_number, thrice}
use Rattle.numbers.proofs.Plain.{plain, plain_number, plain_widens}
use Rattle.numbers.proofs.root.estimate32.Goals as goal
use Rattle.numbers.proofs.root.estimate32.Goals.{Start}

held : (c : Start) → T (fits binary32 c.args.v)
held c = subst T (sym c.well_formed.0.1) tt

pub float_to_float-x : goal.float_to_float-x
float_to_float-x c = plain_widens c.args.v (held c.before.before) (plain c.args.v c.requires)

pub float_to_bits-b : goal.float_to_bits-b
float_to_bits-b c = plain_number c.args.v (plain c.args.v c.requires)

pub returns-then-b-ge9214364837600034816 : goal.returns-then-b-ge9214364837600034816
returns-then-b-ge9214364837600034816 c = rw (le-leb _ _ c.if-b-ge9214364837600034816.true)

pub float_from_bits-y : goal.float_from_bits-y
float_from_bits-y c = guess_number (to_bits binary64 c.args.v / 2)

pub returns : goal.returns
returns c =
    let n3 = c.before in
    let n2 = n3.before in
    let n1 = n2.before in
    let v = n1.args.v in
    c.near_pattern.ensures
    ∙ ap (λ (x : Float). near_pattern (mul binary64 v x)) (thrice (first_of (to_bits binary64 v)) (half_of v) n1.newton.ensures n2.newton-2.ensures n3.newton-3.ensures)
    ∙ rw (lt-leb _ _ n1.if-b-ge9214364837600034816.false)
