-- Mean and variance of a list of f32, as the Rust sums them in f64. Definitions only.
use Rattle.std.specs.Prelude.{List, [], ◌∷◌, pos, length, Float}
use Rattle.std.specs.Float.{binary64}
use Rattle.std.specs.Float.Ieee.{add, sub, mul, div, of_int}
use Rattle.numbers.specs.Values.{narrow}
use Rattle.ranges.specs.Limits.{nought}

-- the entries added to a, one after another, in f64 (an f32 is an f64 as it is)
unfoldable pub sum_from : Float → List Float → Float
sum_from a [] = a
sum_from a (x ∷ xs) = sum_from (add binary64 a x) xs

-- how many entries, as an f64
abbrev pub count : List Float → Float
count xs = of_int binary64 (pos (length xs))

-- the sum from +0, divided by the count, still an f64
abbrev pub mean64 : List Float → Float
mean64 xs = div binary64 (sum_from nought xs) (count xs)

-- the Rust's `fn mean`: the same as the nearest f32
abbrev pub mean_of : List Float → Float
mean_of xs = narrow (mean64 xs)

-- (x - m) * (x - m), in f64
abbrev pub square_off : Float → Float → Float
square_off m x = mul binary64 (sub binary64 x m) (sub binary64 x m)

-- the squares of the entries' distances from m added to a, in f64
unfoldable pub squares_from : Float → Float → List Float → Float
squares_from m a [] = a
squares_from m a (x ∷ xs) = squares_from m (add binary64 a (square_off m x)) xs

-- the variance about m, in f64: the squares from +0, divided by the count
abbrev pub variance_about : Float → List Float → Float
variance_about m xs = div binary64 (squares_from m nought xs) (count xs)
