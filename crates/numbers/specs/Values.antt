-- Rounding an f64 to an f32 (document 01, "Root, rounding, logarithm"). Definitions only.
use Rattle.std.specs.Prelude.{◌*◌, Float}
use Rattle.std.specs.Float.{nan, inf, fin, binary32}
use Rattle.std.specs.Float.Ieee.{up, down, round}

-- the value of an f64 as the nearest f32, a tie to the even one: a NaN and an infinity stay as they are
unfoldable pub narrow : Float → Float
unfolding round
narrow nan = nan
narrow (inf s) = inf s
narrow (fin s m e) = round binary32 s (m * up e) (down e)
