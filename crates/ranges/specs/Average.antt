-- A moving average. Definitions only.
use Rattle.std.specs.Prelude.{Float}
use Rattle.std.specs.Float.{Format}
use Rattle.std.specs.Float.Ieee.{add, sub, mul}

-- g + w * (d - g): g moved towards d by the weight w, each operation rounded once (the Rust's `g + CLUSTER_ALPHA * (dur_ms - g)`)
abbrev pub average : Format → Float → Float → Float → Float
average f w g d = add f g (mul f w (sub f d g))
