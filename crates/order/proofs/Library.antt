-- What the library says of a float, in the words of this crate. Assumes nothing.
use Rattle.std.proofs.Common.{◌≡◌, refl, false}
use Rattle.std.specs.Float.{Float, nan, inf, fin, float_is_finite, float_with_sign}
use Rattle.std.specs.Float.Ieee.Scale.{finite}
use Rattle.order.specs.Order.{abs}

pub is_finite_law : (v : Float) → float_is_finite v ≡ finite v
unfolding float_is_finite
is_finite_law nan = refl
is_finite_law (inf s) = refl
is_finite_law (fin s m e) = refl

pub abs_law : (v : Float) → float_with_sign false v ≡ abs v
unfolding float_with_sign
abs_law nan = refl
abs_law (inf s) = refl
abs_law (fin s m e) = refl
