-- A code as a line shows it. Definitions only.
use Rattle.std.specs.Prelude.{Bool, true, false, ℕ}
use Rattle.refusals.specs.Refusal as Refusals
use Rattle.station_model.specs.declared.Code.{Code}
use Rattle.station_model.specs.declared.Code.TheVariants as Called
use Rattle.line_out.specs.declared.ShownCode.{ShownCode}
use Rattle.line_out.specs.declared.ShownCode.TheVariants.{Done, BecameReady, Switched, Nothing, Refused}

-- "Codes: 0 done, 1 an unready primary became ready .., 2 switched, 3 nothing to do .., R and the number if refused"
abbrev pub number : ShownCode → ℕ
number Done = 0
number BecameReady = 1
number Switched = 2
number Nothing = 3
number (Refused n) = n

-- whether no R stands before it
abbrev pub taken : ShownCode → Bool
taken Done = true
taken BecameReady = true
taken Switched = true
taken Nothing = true
taken (Refused n) = false

-- that of a call: of one that is refused, by its refusal's number
abbrev pub of_code : Code → ShownCode
of_code Called.Done = Done
of_code Called.BecameReady = BecameReady
of_code Called.Switched = Switched
of_code Called.Nothing = Nothing
of_code (Called.Refused r) = Refused (Refusals.number r)
