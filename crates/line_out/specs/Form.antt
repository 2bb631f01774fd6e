-- What holds of every line, and of the numbers in it. Definitions only; proofs/Form.antt proves them.
use Rattle.std.specs.Prelude.{◌≡◌, cond, List, [], ◌∷◌, ℕ, ◌+◌, ◌-◌, ◌*◌, ◌^◌, ◌≤◌, ◌<◌, leb, eqb, length, get_or}
use Prim.Native.Char.{code}
use Rattle.line_out.specs.declared.Shown.{Shown}
use Rattle.line_out.specs.Shown.{tab, newline, hexadecimal, decimal, line}

-- how often a byte stands in a list
unfoldable pub occurs : ℕ → List ℕ → ℕ
occurs b [] = 0
occurs b (x ∷ l) = cond (eqb b x) 1 0 + occurs b l

-- of a line
pub record Formed (s : Shown) : Type 0 where
  pub least : 26 ≤ length (line s)
  pub most : length (line s) ≤ 67
  -- a newline is last, and there is no other; five tabs part six fields
  pub ends : get_or (line s) (length (line s) - 1) 0 ≡ newline
  pub newlines : (s.letter ≡ newline → ⊥) → occurs newline (line s) ≡ 1
  pub tabs : (s.letter ≡ tab → ⊥) → occurs tab (line s) ≡ 5

-- what a digit stands for
abbrev pub figure : ℕ → ℕ
figure d = cond (leb d (code "9")) (d - code "0") (10 + (d - code "A"))

-- what digits to the base b say, read from the left after digits that say v
unfoldable pub value : ℕ → ℕ → List ℕ → ℕ
value b v [] = v
value b v (d ∷ l) = value b (v * b + figure d) l

-- of its numbers: they can be read back, and a decimal one above 0 begins with no `0`
pub record Readable : Type 0 where
  pub hexadecimals : (n : ℕ) → n < 2 ^ 32 → value 16 0 (hexadecimal n) ≡ n
  pub decimals : (n : ℕ) → n < 2 ^ 64 → value 10 0 (decimal n) ≡ n
  pub unpadded : (n : ℕ) → 0 < n → n < 2 ^ 64 → get_or (decimal n) 0 0 ≡ code "0" → ⊥
