-- What a call of this crate says, in document 01's terms: a value, or the number of the refusal that holds.
-- Definitions only.
use Rattle.std.specs.Prelude.{ℕ, Float, Result, Ok, Err}
use Rattle.refusals.specs.Refusal.{number}
use Rattle.refusals.specs.declared.Refusal.{Refusal}

pub data Said : Type 0 where
  value : Float → Said
  refused : ℕ → Said

-- of a type whose values are floats by f
abbrev pub said_as : {A : Type 0} → (A → Float) → Result A Refusal → Said
said_as f (Ok x) = value (f x)
said_as f (Err r) = refused (number r)

abbrev pub said : Result Float Refusal → Said
said r = said_as (λ (x : Float). x) r
