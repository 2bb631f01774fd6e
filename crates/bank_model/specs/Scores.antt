-- How well a mark or a gap fits a hypothesis, and which hypotheses are twins (document 01, "TimingBank"; the Rust's
-- `class_ll`, `mark_ll`, `gap_ll`, `duplicates`).
-- Definitions only.
use Rattle.std.specs.Prelude.{Bool, not, ◌&&◌, Float}
use Rattle.std.specs.Float.{binary32}
use Rattle.std.specs.Float.Ieee.{add, sub, mul, div, lt, le}
use Rattle.numbers.specs.Log.{ln_of}
use Rattle.order.specs.Order.{larger, abs, total_less}
use Rattle.ranges.specs.Settings.{Settings}
use Rattle.ranges.specs.Limits.{nought, floor, decay}
use Rattle.tracker.specs.Model.{Tracker}
use Rattle.tracker.specs.Steps.{dit_estimate}
use Rattle.bank_model.specs.Constants.{sigma_mark, sigma_gap, twin_ratio, minus_half, milli, ln3, ln7}

-- ---- logarithms of centroids (`ln_centroids`)

unfoldable pub log_of : Float → Float
log_of v = ln_of (larger v milli)

abbrev pub ln_dit : Tracker → Float
ln_dit t = log_of t.pair.lo

abbrev pub ln_dah : Tracker → Float
ln_dah t = log_of t.pair.hi

-- ---- a mark or a gap of logarithm x

-- "With z the log distance over 0.25 .. -0.5 times z squared", for one centre c
unfoldable pub fit : Float → Float → Float → Float
fit sigma x c = let z = div binary32 (sub binary32 x c) sigma in mul binary32 (mul binary32 minus_half z) z

-- "a mark scores the best of -0.5 times z squared over two centroids", and not below -3
unfoldable pub mark_fit : Float → Float → Float → Float
mark_fit x lo hi = larger (larger floor (fit sigma_mark x lo)) (fit sigma_mark x hi)

-- "a gap does so over 1, 3 and 7 units with 0.35", for a unit of logarithm u
unfoldable pub gap_fit : Float → Float → Float
gap_fit x u =
    larger (larger (larger floor (fit sigma_gap x u)) (fit sigma_gap x (add binary32 u ln3)))
    (fit sigma_gap x (add binary32 u ln7))

-- "Each adds to 0.90 times the old score"
unfoldable pub decayed : Float → Float → Float
decayed score l = add binary32 (mul binary32 decay score) l

abbrev pub score_mark : Float → Tracker → Float → Float
score_mark score t d = decayed score (mark_fit (ln_of d) (ln_dit t) (ln_dah t))

abbrev pub score_gap : Settings → Float → Tracker → Float → Float
score_gap k score t d = decayed score (gap_fit (ln_of d) (log_of (dit_estimate k t)))

abbrev pub zero_score : Float
zero_score = nought

-- ---- scores compared

-- c is at least 4.0 above p, by one subtraction
abbrev pub ahead : Settings → Float → Float → Bool
ahead k c p = le k.lead (sub binary32 c p)

-- c is 12 or more behind p
abbrev pub behind : Settings → Float → Float → Bool
behind k p c = not (lt (sub binary32 p c) k.prune)

-- by IEEE's comparison, as the Rust compares gap scores and picks the highest
abbrev pub above : Float → Float → Bool
above a b = lt b a

-- by Rust's total order, as the Rust's `min_by` with `total_cmp` picks the least
abbrev pub below : Float → Float → Bool
below a b = total_less a b

-- ---- "twins (both log centroids within 0.25, strictly)" (`duplicates`)

unfoldable pub near : Float → Float → Bool
near a b = lt (abs (sub binary32 a b)) twin_ratio

abbrev pub twins : Float → Float → Float → Float → Bool
twins aLo aHi bLo bHi = near aLo bLo && near aHi bHi

abbrev pub alike : Tracker → Tracker → Bool
alike t u = twins (ln_dit t) (ln_dah t) (ln_dit u) (ln_dah u)
