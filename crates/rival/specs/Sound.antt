-- What makes a challenger sound (document 01, refusal 1). Definitions only.
use Rattle.std.specs.Prelude.{Bool, ◌&&◌, Float}
use Rattle.std.specs.Bool.{beq}
use Rattle.std.specs.Float.Ieee.{eq}
use Rattle.order.specs.Order.{negative}
use Rattle.ranges.specs.Settings.{Settings}
use Rattle.ranges.specs.Limits.{nought, score_min}
use Rattle.ranges.specs.Interval.{within}
use Rattle.tracker.specs.Model as Tracked
use Rattle.tracker.specs.Sound as Tracking
use Rattle.bank_model.specs.Scores.{ln_dit, ln_dah}
use Rattle.rival.specs.declared.TimingHypothesis.{TimingHypothesis}

-- "a score outside -30 to 0"
abbrev pub score : Float → Bool
score s = within score_min nought s

-- one value and one sign
abbrev pub same : Float → Float → Bool
same x y = eq x y && beq (negative x) (negative y)

-- "one holding other logarithms than its centroids have" has not this
abbrev pub logs_same : TimingHypothesis → Bool
logs_same h = let t = Tracked.view h.tracker in same h.ln_lo (ln_dit t) && same h.ln_hi (ln_dah t)

abbrev pub scores_sound : TimingHypothesis → Bool
scores_sound h = score h.score && score h.gap_score

-- a challenger: "one unready, or one holding other logarithms" is not sound, and its tracker and scores are
abbrev pub hyp_sound : Settings → TimingHypothesis → Bool
hyp_sound k h = Tracking.sound k h.tracker && (h.tracker.pair.ready && (logs_same h && scores_sound h))
