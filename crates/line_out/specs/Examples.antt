-- Worked output lines: document 01's five ("Journal program", the block after "prints"), and some that it does not
-- have. Definitions only; proofs/Examples.antt computes them.
use Rattle.std.specs.Prelude.{◌≡◌, List, [], ◌∷◌, ℕ}
use Prim.Native.Char.{code}
use Prim.Native.String.{String, [] as empty, ◌∷◌ as ◌then◌}
use Rattle.line_out.specs.declared.Shown.{Shown}
use Rattle.line_out.specs.declared.ShownCode.{ShownCode}
use Rattle.line_out.specs.declared.ShownCode.TheVariants.{Done, BecameReady, Switched, Nothing, Refused}
use Rattle.line_out.specs.Shown.{line}

-- the bytes of a text, all of whose characters are ASCII's
unfoldable pub bytes : String → List ℕ
bytes empty = []
bytes (c then s) = code c ∷ bytes s

-- what is shown, and the line
pub record Example : Type 0 where
  pub shown : Shown
  pub text : String

abbrev shows : ℕ → ShownCode → ℕ → ℕ → ℕ → ℕ → String → Example
shows letter code dit dah serial challengers text = record {
  shown = record {
    letter = letter;
    code = code;
    dit = dit;
    dah = dah;
    serial = serial;
    challengers = challengers;
  };
  text = text;
}

unfoldable pub AllHold : List Example → Type 0
AllHold [] = Unit {0}
AllHold (x ∷ xs) = (line x.shown ≡ bytes x.text) × AllHold xs

abbrev pub worked : List Example
worked =
    -- document 01's
    shows (code "W") Done 0 0 0 0 "W\t0\t00000000\t00000000\t0\t0\n"
    ∷ shows (code "M") Done 0 0 0 0 "M\t0\t00000000\t00000000\t0\t0\n"
    ∷ shows (code "M") Done 0 0 0 0 "M\t0\t00000000\t00000000\t0\t0\n"
    ∷ shows (code "F") BecameReady 0x4248_0000 0x4316_0000 0 0 "F\t1\t42480000\t43160000\t0\t0\n"
    ∷ shows (code "X") Nothing 0x4248_0000 0x4316_0000 0 0 "X\t3\t42480000\t43160000\t0\t0\n"
    -- a switch, with 60 and 180 ms
    ∷ shows (code "X") Switched 0x4270_0000 0x4334_0000 10 7 "X\t2\t42700000\t43340000\t10\t7\n"
    -- a bad line, with 79.8 and 475.6 ms
    ∷ shows (code "?")
    (Refused 12) 0x429f_abcd 0x43ed_cbaf 4294967294 0 "?\tR12\t429FABCD\t43EDCBAF\t4294967294\t0\n"
    -- the longest of a call, and the longest of any number of 8 bits: no station has such numbers
    ∷ shows (code "M")
    (Refused 12) 0 0xffff_ffff 18446744073709551615 10000000000000000000
    "M\tR12\t00000000\tFFFFFFFF\t18446744073709551615\t10000000000000000000\n"
    ∷ shows (code "M")
    (Refused 255) 0 0xffff_ffff 18446744073709551615 10000000000000000000
    "M\tR255\t00000000\tFFFFFFFF\t18446744073709551615\t10000000000000000000\n"
    ∷ []
