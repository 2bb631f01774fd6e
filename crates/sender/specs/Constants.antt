-- The numbers of the Rust's `SenderTiming`, and of refusal 9, each the nearest f32. Definitions only.
use Rattle.std.specs.Prelude.{ℕ, Float}
use Rattle.std.specs.Float.{binary32}
use Rattle.std.specs.Float.Ieee.{div, of_bits}

-- refusal 9: the dit given to `observe` is from 20 to 150
abbrev pub dit_min : Float
dit_min = of_bits binary32 0x41a0_0000

abbrev pub dit_max : Float
dit_max = of_bits binary32 0x4316_0000

-- 1.0, from which the weight is taken
abbrev pub one : Float
one = of_bits binary32 0x3f80_0000

-- `NOMINAL_WORD_CHAR_RATIO`: 7.0 / 3.0, one f32 division
abbrev pub nominal_ratio : Float
nominal_ratio = div binary32 (of_bits binary32 0x40e0_0000) (of_bits binary32 0x4040_0000)

-- `SENDER_WORD_DITS_CLAMP`: 3.0 to 12.0
abbrev pub word_min : Float
word_min = of_bits binary32 0x4040_0000

abbrev pub word_max : Float
word_max = of_bits binary32 0x4140_0000

-- `PAUSE_MIN_DITS`: 15.0, or 4.0 times the char gap
abbrev pub pause_min : Float
pause_min = of_bits binary32 0x4170_0000

abbrev pub pause_times : Float
pause_times = of_bits binary32 0x4080_0000

-- `RATIO_HINT_MIN_COUNT`
abbrev pub ratio_count : ℕ
ratio_count = 3

-- "Counts saturate": the largest u32
abbrev pub count_max : ℕ
count_max = 4294967295
