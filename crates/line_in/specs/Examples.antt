-- Lines of the journal and what they say. Definitions only; proofs/Examples.antt computes them.
use Rattle.std.specs.Prelude.{◌≡◌, true, Option, Some, None, List, [], ◌∷◌, ℕ, Float}
use Prim.Native.Char.{code}
use Prim.Native.String.{String, [] as end, ◌∷◌ as ◌then◌}
use Rattle.std.specs.Float.{binary32}
use Rattle.std.specs.Float.Ieee.{of_bits}
use Rattle.station_model.specs.declared.Event.TheVariants.{Mark, Gap, Seed}
use Rattle.line_in.specs.declared.Entry.{Entry}
use Rattle.line_in.specs.declared.Entry.TheVariants.{Watch, Call}
use Rattle.line_in.specs.Form.{entry}

-- the bytes of a text, each character of which is one byte
unfoldable pub bytes : String → List ℕ
bytes end = []
bytes (c then s) = code c ∷ bytes s

-- a line and what it says
pub record Example : Type 0 where
  pub line : String
  pub says : Option Entry

abbrev pub Holds : Example → Type 0
Holds x = entry (bytes x.line) ≡ x.says

unfoldable pub AllHold : List Example → Type 0
AllHold [] = Unit {0}
AllHold (x ∷ xs) = Holds x × AllHold xs

-- 50.0; the next f32 above 262144.0; 16777216.0
abbrev pub fifty : Float
fifty = of_bits binary32 0x4248_0000

abbrev pub above : Float
above = of_bits binary32 0x4880_0001

abbrev pub most : Float
most = of_bits binary32 0x4b80_0000

abbrev pub worked : List Example
worked =
    record { line = "W\t2\t1"; says = Some (Watch 2 true) }
    ∷ record { line = "M\t3200\t1"; says = Some (Call (Mark fifty true)) }
    -- leading zeros, and numbers above 16,777,216
    ∷ record { line = "G\t00003200"; says = Some (Call (Gap fifty)) }
    ∷ record { line = "M\t16777217\t1"; says = Some (Call (Mark above true)) }
    ∷ record { line = "S\t16777217"; says = Some (Call (Seed most)) }
    -- nothing; a tab at the end; nine digits, and none; a flag that is neither 0 nor 1
    ∷ record { line = ""; says = None }
    ∷ record { line = "F\t"; says = None }
    ∷ record { line = "G\t000003200"; says = None }
    ∷ record { line = "G\t"; says = None }
    ∷ record { line = "W\t9\t2"; says = None }
    ∷ []
