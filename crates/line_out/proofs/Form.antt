-- What holds of every line, and of the numbers in it. Assumes nothing.
use mathlib.Core.Path.{◌≡◌, sym, ap, ◌∙◌}
use mathlib.Core.Bool.{Bool, true, false, cond}
use mathlib.Core.List.{List, [], ◌∷◌, ◌++◌}
use Prim.Native.Nat.{ℕ, ◌+◌, ◌-◌, ◌≤◌, ◌<◌}
use native.Mathlib.Nat.{lt_of_lt_of_le}
use native.Mathlib.Omega.{arith}
use lib.Dec.{lit≤}
use lib.ListN.{length, get_or, length-append}
use lib.Seq.{get_or_at}
use borrow.Author.Tests.{ne_eqb}
use Rattle.station_model.specs.declared.Code.{Code}
use Rattle.line_out.specs.declared.Shown.{Shown}
use Rattle.line_out.specs.Codes.{number, of_code, taken}
use Rattle.line_out.specs.Shown.{tab, newline, hexadecimal, decimal, coded, line}
use Rattle.line_out.specs.Form.{occurs, Formed, Readable}
use Rattle.line_out.proofs.Lining.{front, whole, line_most, line_of_call, line_least, small}
use Rattle.line_out.proofs.Reading.{digits_value, tens_value, tens_first, digits_none, tens_none}

-- ---- how often a byte occurs

occurs_append : (b : ℕ) (l m : List ℕ) → occurs b (l ++ m) ≡ occurs b l + occurs b m
unfolding occurs
occurs_append b [] m = omega arith
occurs_append b (x ∷ l) m = omega (arith, occurs_append b l m)

-- the refusal's R and the digits are no byte below `0`
coded_none : (b : ℕ) → b < 48 → (s : Shown) → occurs b (coded s.code) ≡ 0
unfolding occurs
coded_none b h s = marked (taken s.code) (decimal (number s.code)) (tens_none b h 20 (number s.code))
  where
    marked : (t : Bool) (l : List ℕ) → occurs b l ≡ 0 → occurs b (cond t [] (82 ∷ []) ++ l) ≡ 0
    marked true l e = e
    marked false l e = rw (ne_eqb b 82 (λ q. omega (arith, q))) (omega (arith, e))

seven : (b : ℕ) (k l m n o p q : List ℕ)
    → occurs b
    ((((((k ++ l) ++ m) ++ n) ++ o) ++ p) ++ q)
    ≡ occurs b k + occurs b l + occurs b m + occurs b n + occurs b o + occurs b p + occurs b q
seven b k l m n o p q = simp occurs_append

-- below `0` only the letter, the tabs and the newline are left
line_occurs : (b : ℕ) → b < 48 → (s : Shown)
    → occurs b (line s) ≡ occurs b (s.letter ∷ tab ∷ tab ∷ tab ∷ tab ∷ tab ∷ newline ∷ [])
unfolding occurs
line_occurs b h s =
    ap (occurs b) (sym (whole s))
    ∙ seven b (s.letter ∷ []) (tab ∷ coded s.code) (tab ∷ hexadecimal s.dit) (tab ∷ hexadecimal s.dah)
    (tab ∷ decimal s.serial) (tab ∷ decimal s.challengers) (newline ∷ [])
    ∙ omega (
      arith,
      coded_none b h s,
      digits_none b h 16 8 s.dit,
      digits_none b h 16 8 s.dah,
      tens_none b h 20 s.serial,
      tens_none b h 20 s.challengers,
    )

-- the newline is the last byte
line_ends : (s : Shown) → get_or (line s) (length (line s) - 1) 0 ≡ newline
line_ends s =
    ap (λ l. get_or l (length l - 1) 0) (sym (whole s))
    ∙ get_or_at (front s) newline [] 0 (length (front s ++ (newline ∷ [])) - 1)
    (omega (arith, length-append (front s) (newline ∷ [])))

-- every line whose refusal, if it has one, has a number of 8 bits: `Refused` holds a u8
pub formed : (s : Shown) → number s.code < 256 → Formed s
unfolding occurs
formed s h = record {
  least = line_least s;
  most = line_most s h;
  ends = line_ends s;
  newlines = λ n. line_occurs newline (omega arith) s ∙ rw (ne_eqb newline s.letter (λ e. n (sym e)));
  tabs = λ n. line_occurs tab (omega arith) s ∙ rw (ne_eqb tab s.letter (λ e. n (sym e)));
}

-- of a call's code, and a byte shorter at most
pub formed_of_call : (s : Shown) (c : Code) → s.code ≡ of_code c → Formed s × (length (line s) ≤ 66)
formed_of_call s c e = (formed s (omega (arith, ap number e, small c)), line_of_call s c e)

pub readable : Readable
readable = record {
  hexadecimals = λ n h. digits_value 16 8 n (omega arith) (omega arith) (lt_of_lt_of_le h (lit≤ tt));
  decimals = λ n h. tens_value 20 n (lt_of_lt_of_le h (lit≤ tt));
  unpadded = λ n p h e. omega (arith, e, tens_first 20 n p (lt_of_lt_of_le h (lit≤ tt)));
}
