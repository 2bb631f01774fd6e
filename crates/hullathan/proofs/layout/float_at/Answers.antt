-- `hullathan::layout::float_at` meets its contract. Assumes nothing.
use Prim.Native.Nat.{ℕ, ◌*◌, ◌≤◌}
use native.Mathlib.Omega.{arith}
use lib.Ieee.{binary32, hid, ones}
use Rattle.numbers.proofs.Plain.{number_bits}
use Rattle.hullathan.proofs.layout.float_at.Goals as goal

small : (n : ℕ) → n ≤ 200 → n ≤ ones binary32 * hid binary32
small n h = let k : n ≤ 2139095040 = omega arith in k

pub float_from_bits-result : goal.float_from_bits-result
float_from_bits-result c = number_bits binary32 c.args.n (small c.args.n c.requires)
