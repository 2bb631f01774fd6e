-- `numbers::root::certified32` meets its contract. Assumes nothing.
use Rattle.std.proofs.Common.{sym, ◌∙◌, le-ltb, lt-ltb}
use Rattle.numbers.proofs.root.certified32.Goals as goal

pub returns-then-c-le8388608 : goal.returns-then-c-le8388608
returns-then-c-le8388608 c = rw (le-ltb _ _ c.if-c-le8388608.true)

pub returns-then-c-ge2130706432 : goal.returns-then-c-ge2130706432
returns-then-c-ge2130706432 c = rw (lt-ltb _ _ c.if-c-le8388608.false, le-ltb _ _ c.if-c-ge2130706432.true)

pub returns-then-pattern_below : goal.returns-then-pattern_below
returns-then-pattern_below c = rw (lt-ltb _ _ c.if-c-le8388608.false, lt-ltb _ _ c.if-c-ge2130706432.false, sym c.pattern_below.ensures ∙ c.if-pattern_below.true)

pub returns : goal.returns
returns c =
    let t = c.before.before in
    let b = t.before in
    c.pattern_below-2.ensures ∙ rw (lt-ltb _ _ b.if-c-le8388608.false, lt-ltb _ _ b.if-c-ge2130706432.false, sym t.pattern_below.ensures ∙ c.if-pattern_below.false)
