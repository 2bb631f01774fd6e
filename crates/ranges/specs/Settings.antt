-- The seven numbers that a later profile may set (document 02, Req 09), with document 01's as the default. Definitions only.
use Rattle.std.specs.Prelude.{T, Float}
use Rattle.std.specs.Float.{binary32}
use Rattle.std.specs.Float.Ieee.{fits, le, lt, of_bits}
use Rattle.ranges.specs.Interval.{In}

pub record Settings : Type 0 where
  pub ratio_min : Float
  pub ratio_max : Float
  pub dit_min : Float
  pub dit_max : Float
  pub weight : Float
  pub lead : Float
  pub prune : Float

-- document 01's numbers, each the nearest f32: ratio 2.2 to 6.0, dit 20 to 150, weight 0.15, lead 4.0, prune 12.0
abbrev pub standard : Settings
standard = record {
  ratio_min = of_bits binary32 0x400c_cccd;
  ratio_max = of_bits binary32 0x40c0_0000;
  dit_min = of_bits binary32 0x41a0_0000;
  dit_max = of_bits binary32 0x4316_0000;
  weight = of_bits binary32 0x3e19_999a;
  lead = of_bits binary32 0x4080_0000;
  prune = of_bits binary32 0x4140_0000;
}

-- ---- good, as 02's Req 09 says it

-- ratio limits from 2 to 8
abbrev pub ratio_least : Float
ratio_least = of_bits binary32 0x4000_0000

abbrev pub ratio_most : Float
ratio_most = of_bits binary32 0x4100_0000

-- the lower at most 3 and the upper at least 3
abbrev pub ratio_middle : Float
ratio_middle = of_bits binary32 0x4040_0000

-- dit limits from 10 to 300
abbrev pub dit_least : Float
dit_least = of_bits binary32 0x4120_0000

abbrev pub dit_most : Float
dit_most = of_bits binary32 0x4396_0000

-- weight from 1/64 to 1/2
abbrev pub weight_least : Float
weight_least = of_bits binary32 0x3c80_0000

abbrev pub weight_most : Float
weight_most = of_bits binary32 0x3f00_0000

-- lead and prune from 1 to 20
abbrev pub lead_least : Float
lead_least = of_bits binary32 0x3f80_0000

abbrev pub lead_most : Float
lead_most = of_bits binary32 0x41a0_0000

-- two limits from least to most, rising
pub record Limited (least most lo hi : Float) : Type 0 where
  pub from : T (le least lo)
  pub upto : T (le hi most)
  pub rising : T (lt lo hi)

pub record Good (s : Settings) : Type 0 where
  pub ratio : Limited ratio_least ratio_most s.ratio_min s.ratio_max
  pub ratio_low : T (le s.ratio_min ratio_middle)
  pub ratio_high : T (le ratio_middle s.ratio_max)
  pub dit : Limited dit_least dit_most s.dit_min s.dit_max
  pub weight_in : In weight_least weight_most s.weight
  pub lead_in : In lead_least lead_most s.lead
  pub prune_in : In lead_least lead_most s.prune

-- the seven are values of f32
pub record Held (s : Settings) : Type 0 where
  pub ratio_min_held : T (fits binary32 s.ratio_min)
  pub ratio_max_held : T (fits binary32 s.ratio_max)
  pub dit_min_held : T (fits binary32 s.dit_min)
  pub dit_max_held : T (fits binary32 s.dit_max)
  pub weight_held : T (fits binary32 s.weight)
  pub lead_held : T (fits binary32 s.lead)
  pub prune_held : T (fits binary32 s.prune)
