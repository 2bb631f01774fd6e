-- `numbers::rounding::nearest32` meets its contract: `proofs/Rounds.antt` says what is dropped and what is kept. Assumes nothing.
use Rattle.std.proofs.Common.{◌≡◌, ℕ, ◌+◌, ◌-◌, ◌*◌, ◌%◌, ◌^◌, ◌<◌, ◌≤◌, sym, refl, ◌∙◌, le_of_lt, arith}
use lib.Count.{count_leading_zeros, leading_le}
use lib.Ieee.{binary32}
use lib.Ieee.Nearest.{closest}
use Rattle.numbers.proofs.Rounds.{round_zero, Word, word}
use Rattle.numbers.proofs.rounding.nearest32.Goals as goal
use Rattle.numbers.proofs.rounding.nearest32.Goals.{Else-z-x, Start, Then-z-x}

-- how many digits of the whole part, in units of the smallest f32, a normal f32 drops, by the leading zeros z; a
-- smaller one drops none
normal_drops : (z j : ℕ) → z ≤ 64 → j - (885 + z) ≡ 64 - z + j - 949
normal_drops z j h = omega arith

small_drops : (z j : ℕ) → z ≤ 64 → j < 885 + z → 0 ≡ 64 - z + j - 949
small_drops z j h g = omega arith

normal_digits : (z j : ℕ) → z ≤ 64 → 885 + z ≤ j → 1098 ≤ 149 + (64 - z + j)
normal_digits z j h g = omega arith

-- ---- a normal f32
module _ (c : Then-z-x) where
  abbrev s : Start
  s = c.before.before

  normal : Word binary32 s.args.m s.args.j (s.args.j - (885 + count_leading_zeros 64 s.args.m))
      (925 + (s.args.j - (885 + count_leading_zeros 64 s.args.m)))
  normal = word binary32 925 refl s.args.m s.args.j _ _ s.ranges.m.fits c.if-m-eq0.false
      (normal_drops _ _ (leading_le 64 s.args.m)) refl

  normal_kept : (q : ℕ) → q ≡ closest (s.args.m * 2 ^ count_leading_zeros 64 s.args.m % 2 ^ 64) (2 ^ 40)
      → q ≡ normal.keeps
  normal_kept q e = e ∙ normal.top (normal_digits _ _ (leading_le 64 s.args.m) c.if-z-x.true)

-- ---- a smaller one
module _ (c : Else-z-x) where
  abbrev t : Start
  t = c.before.before

  small : Word binary32 t.args.m t.args.j 0 925
  small = word binary32 925 refl t.args.m t.args.j 0 925 t.ranges.m.fits c.if-m-eq0.false
      (small_drops _ _ (leading_le 64 t.args.m) c.if-z-x.false) refl

pub returns-then-m-eq0 : goal.returns-then-m-eq0
returns-then-m-eq0 c = let s = c.before.before in c.pack32.ensures ∙ sym (round_zero binary32 s.args.neg s.args.m s.args.j c.if-m-eq0.true)

pub pack32-requires-then-z-x : goal.pack32-requires-then-z-x
pack32-requires-then-z-x c = (normal c.before).ok _ (normal_kept c.before _ c.rounded.ensures)

pub returns-then-z-x : goal.returns-then-z-x
returns-then-z-x c =
    c.pack32-then-z-x.ensures
    ∙ (normal c.before.before).is _ _ (normal_kept c.before.before _ c.rounded.ensures)

pub pack32-requires-then-x-ge925 : goal.pack32-requires-then-x-ge925
pack32-requires-then-x-ge925 c = (small c.before).ok _ ((small c.before).shl c.if-x-ge925.true)

pub pack32-requires-else-x-ge925 : goal.pack32-requires-else-x-ge925
pack32-requires-else-x-ge925 c = let w = small c.before.before in
    w.ok _ (c.rounded-else-x-ge925.ensures ∙ w.cut (le_of_lt c.if-x-ge925.false))

pub returns-then-x-ge925 : goal.returns-then-x-ge925
returns-then-x-ge925 c = let w = small c.before.before in c.pack32-then-x-ge925.ensures ∙ w.is _ _ (w.shl c.if-x-ge925.true)

pub returns-else-x-ge925 : goal.returns-else-x-ge925
returns-else-x-ge925 c = let w = small c.before.before.before in
    c.pack32-else-x-ge925.ensures ∙ w.is _ _ (c.rounded-else-x-ge925.ensures ∙ w.cut (le_of_lt c.if-x-ge925.false))
