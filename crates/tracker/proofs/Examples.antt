-- Document 01's twelve settled examples hold, by computation. Assumes nothing.
use Rattle.std.proofs.Common.{◌≡◌, true, false, [], ◌∷◌, pos, refl}
use lib.Ieee.{Float, fin, size, round, of_int, to_bits, of_bits, add, sub, mul, div, neg, lt, le}
use Rattle.numbers.specs.Root.{root_of, floor_root, root_in, sqrt_of}
use Rattle.numbers.specs.Values.{narrow}
use Rattle.numbers.specs.Log.{ln_said, ln_of, digits}
use Rattle.ranges.specs.Mean.{sum_from, squares_from}
use Rattle.ranges.specs.Settings.{standard}
use Rattle.pair.specs.Model.{Pair}
use Rattle.marks.specs.Sort.{insert, insert_all, ratios, first_largest}
use Rattle.pair.specs.Lock.{locked, constrained, learnt, started}
use Rattle.tracker.specs.Steps.{fresh, on_mark, checked}
use Rattle.ring.specs.Ring.{anchor}
use Rattle.tracker.specs.Examples.{whole, fed, AllHold, settled}

-- the mark that equals the boundary: what a pair learns from it
abbrev with_hi : Float → Pair
with_hi hi =
    record {
      lo = fin false 25 (pos 1);
      hi = hi;
      init = [];
      ready = true;
      confirmed = true;
      placeholder_is_lo = false;
      lo_n = 2;
    }

equal_mark : learnt standard (with_hi (fin false 25 (pos 3))) (fin false 25 (pos 2)) ≡ with_hi (fin false 185 (pos 0))
unfolding learnt sqrt_of root_of floor_root root_in size round of_bits add sub mul lt le
equal_mark = refl

last_hi : (fed fresh (50 ∷ 50 ∷ 200 ∷ 200 ∷ 200 ∷ 100 ∷ [])).pair.hi ≡ whole 185
unfolding AllHold fed on_mark checked anchor insert insert_all ratios first_largest locked constrained started narrow
    ln_said ln_of digits size round sum_from squares_from of_int to_bits of_bits add sub mul div neg lt le
last_hi = rw equal_mark

last_lo : (fed fresh (50 ∷ 50 ∷ 200 ∷ 200 ∷ 200 ∷ 100 ∷ [])).pair.lo ≡ whole 50
unfolding AllHold fed on_mark checked anchor insert insert_all ratios first_largest locked constrained started narrow
    ln_said ln_of digits size round sum_from squares_from of_int to_bits of_bits add sub mul div neg lt le
last_lo = rw equal_mark

pub examples : AllHold settled
unfolding AllHold fed on_mark checked anchor insert insert_all ratios first_largest locked constrained started narrow
    ln_said ln_of digits size round sum_from squares_from of_int to_bits of_bits add sub mul div neg lt le learnt
examples = (
  (refl, refl),
  (
    (refl, refl),
    (
      (refl, refl),
      (
        (refl, refl),
        (
          (refl, refl),
          (
            (refl, refl),
            (
              (refl, refl),
              ((refl, refl), ((refl, refl), ((last_lo, last_hi), (refl, (refl, tt))))),
            ),
          ),
        ),
      ),
    ),
  ),
)
