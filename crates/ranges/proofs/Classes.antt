-- The mean of an observed class stays from 0.0001 to 13108. Assumes nothing.
use lib.Dec.{T}
use lib.Ieee.{Float, binary32, le, fits, of_bits}
use lib.Ieee.Positive.{positive, between}
use Rattle.ranges.specs.Interval.{In}
use Rattle.ranges.specs.Limits.{class_min, class_max, class_weight}
use Rattle.ranges.specs.Average.{average}
use Rattle.ranges.proofs.Signed.{le_trans_float}
use Rattle.ranges.proofs.Halves.{base}
use Rattle.ranges.proofs.Average.{Weight, average_in}

pub class_weight_law : Weight class_weight
unfolding le of_bits
class_weight_law = record { above = tt; most = tt }

in_class : (x : Float) → In class_min class_max x → T (positive x) × T (le base x)
unfolding le of_bits
in_class x i = (between class_min x class_max tt tt i.0 i.1, le_trans_float base class_min x tt i.0)

pub class_average_in : (g x : Float) → T (fits binary32 g) → T (fits binary32 x) → In class_min class_max g → In class_min class_max x → In class_min class_max (average binary32 class_weight g x)
class_average_in g x F E i j =
    let a = in_class g i in
    let b = in_class x j in
    average_in binary32 class_weight g x class_weight_law F E a.0 b.0 a.1 b.1 class_min class_max i j
