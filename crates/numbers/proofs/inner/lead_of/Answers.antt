-- `numbers::inner::lead_of` meets its contract: `proofs/LnLaws.antt` has what the count of leading zeros gives.
-- Assumes nothing.
use Rattle.std.proofs.Common.{ℕ, ◌<◌, ◌≤◌, arith}
use lib.Count.{count_leading_zeros}
use Rattle.numbers.proofs.LnLaws.{Counted, zeros, begun}
use Rattle.numbers.proofs.Plain.{plain, plain_finite}
use Rattle.numbers.proofs.inner.lead_of.Goals as goal
use Rattle.numbers.proofs.inner.lead_of.Goals.{After-take_apart32-p}

count : (c : After-take_apart32-p)
    → Counted c.take_apart32-p.result.sig (count_leading_zeros 64 c.take_apart32-p.result.sig)
count c = zeros c.args.v (plain _ c.requires) c.take_apart32-p.result c.take_apart32-p.ensures

most : {s z : ℕ} → Counted s z → 32 ≤ z
most k = let a = k.count in let b = k.digits in omega arith

small : {s z : ℕ} → Counted s z → z < 64
small k = let a = k.count in omega arith

pub take_apart32-p-requires : goal.take_apart32-p-requires
take_apart32-p-requires c = plain_finite c.args.v (plain c.args.v c.requires)

pub overflow_sub-result : goal.overflow_sub-result
overflow_sub-result c = let k = most (count c.before) in omega arith

pub overflow_sub-result-2 : goal.overflow_sub-result-2
overflow_sub-result-2 c = let k = small (count c.before.before.before) in omega arith

pub returns : goal.returns
returns c =
    let a = c.before.before.before in
    begun a.args.v (plain _ a.requires) a.take_apart32-p.result a.take_apart32-p.ensures
