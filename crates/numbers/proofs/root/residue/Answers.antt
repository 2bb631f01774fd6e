-- `numbers::root::residue` meets its contract. Assumes nothing.
use Rattle.numbers.proofs.Estimates.{high_fits, cross_fits, double_fits, low_fits, residue_is}
use Rattle.numbers.proofs.root.residue.Goals as goal

pub overflow_mul-a : goal.overflow_mul-a
overflow_mul-a c = record { fits = high_fits c.args.q c.requires }

pub overflow_mul-a-2 : goal.overflow_mul-a-2
overflow_mul-a-2 c = record { fits = cross_fits c.args.q c.requires }

pub overflow_mul-a-3 : goal.overflow_mul-a-3
overflow_mul-a-3 c = record { fits = double_fits c.args.q c.requires }

pub overflow_mul-b : goal.overflow_mul-b
overflow_mul-b c = record { fits = low_fits c.args.q c.requires }

pub returns : goal.returns
returns c =
    let s = c.before.before.before in
    residue_is s.args.q s.requires s.args.m _ _ _ c.wrapping_sub_u64-d.ensures.value c.wrapping_sub_u64-e.ensures.value c.wrapping_sub_u64.ensures.value
