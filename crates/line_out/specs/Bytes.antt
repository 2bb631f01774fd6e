-- Bytes in the first places of an array. Definitions only.
use Rattle.std.specs.Prelude.{List, ℕ, take}
use Rattle.line_out.specs.declared.bytes.Bytes.{Bytes}

-- those that it has
abbrev pub contents : {n : ℕ} → Bytes n → List ℕ
contents b = take b.len b.at
