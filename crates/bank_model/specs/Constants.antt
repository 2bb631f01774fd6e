-- Numbers of bank.rs that no profile sets and `ranges` does not name, each the nearest f32. Definitions only.
use Rattle.std.specs.Prelude.{Float}
use Rattle.std.specs.Float.{binary32}
use Rattle.std.specs.Float.Ieee.{of_bits}

-- 0.25, `SIGMA_MARK`
abbrev pub sigma_mark : Float
sigma_mark = of_bits binary32 0x3e80_0000

-- 0.35, `SIGMA_GAP`
abbrev pub sigma_gap : Float
sigma_gap = of_bits binary32 0x3eb3_3333

-- 0.25, `DUP_LOG_RATIO`
abbrev pub twin_ratio : Float
twin_ratio = of_bits binary32 0x3e80_0000

-- 12.0, `PAUSE_DITS`
abbrev pub pause_dits : Float
pause_dits = of_bits binary32 0x4140_0000

-- -0.5
abbrev pub minus_half : Float
minus_half = of_bits binary32 0xbf00_0000

-- 0.001: no logarithm is taken of less
abbrev pub milli : Float
milli = of_bits binary32 0x3a83_126f

-- 1.0986123 and 1.9459101, `LN_3` and `LN_7`
abbrev pub ln3 : Float
ln3 = of_bits binary32 0x3f8c_9f54

abbrev pub ln7 : Float
ln7 = of_bits binary32 0x3ff9_1395
