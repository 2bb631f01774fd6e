use Rattle.std.proofs.Common.{refl, arith}
use Rattle.bank_model.specs.Departures.{padded}
use Rattle.bank_model.proofs.departures.Departures.none.Goals as goal

pub invariant_of-result : goal.invariant_of-result
unfolding padded
invariant_of-result c = record { listed = record { few = omega arith; whole = refl } }
