-- What makes statistics sound (document 01, refusal 1). Definitions only.
use Rattle.std.specs.Prelude.{Bool, true, ◌&&◌, Float}
use Rattle.std.proofs.Math.Option.{Option, none, some}
use Rattle.std.specs.Float.Ieee.{le}
use Rattle.std.specs.Float.Ieee.Scale.{finite}
use Rattle.ranges.specs.Interval.{within}
use Rattle.ranges.specs.Limits.{nought, class_min, class_max}
use Rattle.sender.specs.Model.{Class, Timing}

-- "variance negative or not finite" is unsound; -0 is not negative
abbrev pub var_sound : Float → Bool
var_sound v = le nought v && finite v

-- "an observed class with mean outside 0.0001 to 13,108, or variance negative or not finite"
unfoldable pub class_sound : Option Class → Bool
class_sound none = true
class_sound (some c) = within class_min class_max c.mean && var_sound c.var

unfoldable pub sound : Timing → Bool
unfolding class_sound
sound t = class_sound t.dot && class_sound t.dash && class_sound t.element_gap && class_sound t.char_gap && class_sound t.word_gap
