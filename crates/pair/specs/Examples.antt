-- "The quotient may then miss 2.2 or 6.0 by rounding; it is not mended twice" (document 01, "ClusterPair and
-- SpeedTracker"): a pair below 2.2 and one above 6.0. Definitions only; proofs/Examples.antt computes them.
use Rattle.std.specs.Prelude.{◌≡◌, true, false, [], ℕ, Float}
use Rattle.std.proofs.Math.Option.{some}
use Rattle.std.specs.Float.{binary32}
use Rattle.std.specs.Float.Ieee.{div, lt, of_bits}
use Rattle.ranges.specs.Settings.{standard}
use Rattle.pair.specs.Model.{Pair}
use Rattle.pair.specs.Lock.{constrained}

-- the f32 with the bits b
abbrev pub of_pattern : ℕ → Float
of_pattern b = of_bits binary32 b

-- a pair whose dah is as long as its dit: no lock gives one, but the constraints look at dit and dah alone
abbrev pub level : Float → Pair
level dit = record { lo = dit; hi = dit; init = []; ready = true; confirmed = true; placeholder_is_lo = false; lo_n = 1 }

-- what the constraints make of it under a hint: dit, dah and their quotient, as bits
pub record Mended (hint dit dah quotient : ℕ) : Type 0 where
  pub dit_is : (constrained standard (some (of_pattern hint)) (level (of_pattern dit))).lo ≡ of_pattern dit
  pub dah_is : (constrained standard (some (of_pattern hint)) (level (of_pattern dit))).hi ≡ of_pattern dah
  pub quotient_is : div binary32 (of_pattern dah) (of_pattern dit) ≡ of_pattern quotient

-- hint 2.2 and a dit of 29.1686 ms: 64.170914, whose quotient is the f32 before 2.2
pub record MissesLow : Type 0 where
  pub mended : Mended 0x400c_cccd 0x41e9_594a 0x4280_5782 0x400c_cccc
  pub below : lt (of_pattern 0x400c_cccc) standard.ratio_min ≡ true

-- hint 6.0 and a dit of 21.333347 ms: 128.00009, whose quotient is the f32 after 6.0
pub record MissesHigh : Type 0 where
  pub mended : Mended 0x40c0_0000 0x41aa_aab2 0x4300_0006 0x40c0_0001
  pub above : lt standard.ratio_max (of_pattern 0x40c0_0001) ≡ true
