-- `numbers::rounding::nearest64` meets its contract: `proofs/Rounds.antt` says what is dropped and what is kept. Assumes nothing.
use Rattle.std.proofs.Common.{◌≡◌, ℕ, ◌+◌, ◌-◌, ◌<◌, sym, refl, ◌∙◌, inl, le_of_lt, zero-add, arith, lit<, lit≤}
use lib.Count.{leading_le, count_leading_zeros}
use lib.Ieee.{binary64}
use Rattle.numbers.proofs.Rounds.{round_zero, Word, word}
use Rattle.numbers.proofs.rounding.nearest64.Goals as goal
use Rattle.numbers.proofs.rounding.nearest64.Goals.{After-saturating_sub-k}

-- after the subtraction
at : (c : After-saturating_sub-k) → Word binary64 c.args.m c.args.j c.saturating_sub-k.result c.saturating_sub-k.result
at c = word binary64 0 refl c.args.m c.args.j c.saturating_sub-k.result c.saturating_sub-k.result c.ranges.m.fits c.if-m-eq0.false c.saturating_sub-k.ensures (zero-add c.saturating_sub-k.result)

low : (c : After-saturating_sub-k) → c.saturating_sub-k.result < 2048
low c = go (count_leading_zeros 64 c.args.m) c.args.j c.saturating_sub-k.result c.saturating_sub-k.ensures c.requires
  where
    go : (z j k : ℕ) → k ≡ 64 - z + j - 53 → j < 2000 → k < 2048
    go z j k a b = omega arith

pub pack64-requires : goal.pack64-requires
pack64-requires c = (record { fact_1 = (lit≤ tt, inl refl); fact_2 = lit< tt })

pub returns-then-m-eq0 : goal.returns-then-m-eq0
returns-then-m-eq0 c = let s = c.before.before in c.pack64.ensures ∙ sym (round_zero binary64 s.args.neg s.args.m s.args.j c.if-m-eq0.true)

pub overflow_sub-z : goal.overflow_sub-z
overflow_sub-z c = leading_le 64 c.args.m

pub pack64-requires-then-k-x : goal.pack64-requires-then-k-x
pack64-requires-then-k-x c = (record { fact_1 = (at c.before).ok _ ((at c.before).shl c.if-k-x.true); fact_2 = low c.before })

pub pack64-requires-else-k-x : goal.pack64-requires-else-k-x
pack64-requires-else-k-x c = let w = at c.before.before in (record { fact_1 = w.ok _ (c.rounded.ensures ∙ w.cut (le_of_lt c.if-k-x.false)); fact_2 = low c.before.before })

pub returns-then-k-x : goal.returns-then-k-x
returns-then-k-x c = let w = at c.before.before in c.pack64-then-k-x.ensures ∙ w.is _ _ (w.shl c.if-k-x.true)

pub returns-else-k-x : goal.returns-else-k-x
returns-else-k-x c = let w = at c.before.before.before in c.pack64-else-k-x.ensures ∙ w.is _ _ (c.rounded.ensures ∙ w.cut (le_of_lt c.if-k-x.false))
