-- The line, field by field from the front, and how long it is. Assumes nothing.
use mathlib.Core.Path.{◌≡◌, sym, ap, ◌∙◌}
use mathlib.Core.Bool.{Bool, true, false, cond}
use mathlib.Core.List.{List, [], ◌∷◌, ◌++◌, append_assoc}
use Prim.Native.Nat.{ℕ, suc, ◌+◌, ◌≤◌, ◌<◌}
use native.Mathlib.Omega.{arith}
use lib.Dec.{lit<}
use lib.ListN.{length, length-append}
use Rattle.refusals.specs.declared.Refusal.{Refusal}
use Rattle.refusals.specs.declared.Refusal.TheVariants.{UnsoundState, FullCounts, TooWide, LongList, EndlessDuration}
use Rattle.refusals.specs.declared.Refusal.TheVariants.{ShortDuration, LongDuration, BadSpeed, BadDit, NoLogarithm}
use Rattle.refusals.specs.declared.Refusal.TheVariants.{NoRoot, BadLine}
use Rattle.refusals.specs.Refusal as Refusals
use Rattle.station_model.specs.declared.Code.{Code}
use Rattle.station_model.specs.declared.Code.TheVariants.{Done, BecameReady, Switched, Nothing, Refused}
use Rattle.line_out.specs.declared.Shown.{Shown}
use Rattle.line_out.specs.declared.ShownCode.{ShownCode}
use Rattle.line_out.specs.Codes.{number, of_code, taken}
use Rattle.line_out.specs.Shown.{tab, newline, hexadecimal, decimal, coded, line}
use Rattle.line_out.proofs.Digits.{digits_length, tens_most, tens_least, tens_short}

-- ---- a code

-- every number of a refusal has two digits at most
small_refusal : (r : Refusal) → Refusals.number r < 100
small_refusal UnsoundState = lit< tt
small_refusal FullCounts = lit< tt
small_refusal TooWide = lit< tt
small_refusal LongList = lit< tt
small_refusal EndlessDuration = lit< tt
small_refusal ShortDuration = lit< tt
small_refusal LongDuration = lit< tt
small_refusal BadSpeed = lit< tt
small_refusal BadDit = lit< tt
small_refusal NoLogarithm = lit< tt
small_refusal NoRoot = lit< tt
small_refusal BadLine = lit< tt

-- and of a call's code
pub small : (c : Code) → number (of_code c) < 100
small Done = lit< tt
small BecameReady = lit< tt
small Switched = lit< tt
small Nothing = lit< tt
small (Refused r) = small_refusal r

marked : (n : ℕ) (t : Bool) (l : List ℕ) → length l ≤ n → length (cond t [] (82 ∷ []) ++ l) ≤ suc n
marked n true l b = omega arith
marked n false l b = omega arith

-- R and three digits at most, where its number has 8 bits, and two of a call's
coded_most : (c : ShownCode) → number c < 256 → length (coded c) ≤ 4
coded_most c h = marked 3 (taken c) (decimal (number c)) (tens_short 20 2 (number c) (omega arith))

pub coded_call : (c : Code) → length (coded (of_code c)) ≤ 3
coded_call c =
    let n = number (of_code c) in
    marked 2 (taken (of_code c)) (decimal n) (tens_short 20 1 n (small c))

-- one byte at least
pub coded_least : (c : ShownCode) → 1 ≤ length (coded c)
coded_least c =
    omega (arith, length-append (cond (taken c) [] (82 ∷ [])) (decimal (number c)), tens_least 19 (number c))

-- ---- the fields, one after the other

-- the line up to its newline
abbrev pub front : Shown → List ℕ
front s =
    (s.letter ∷ [])
    ++ (tab ∷ coded s.code)
    ++ (tab ∷ hexadecimal s.dit)
    ++ (tab ∷ hexadecimal s.dah)
    ++ (tab ∷ decimal s.serial)
    ++ (tab ∷ decimal s.challengers)

regroup : (a t f g h i j n : List ℕ)
    → (((((a ++ (t ++ f)) ++ (t ++ g)) ++ (t ++ h)) ++ (t ++ i)) ++ (t ++ j)) ++ n
    ≡ (a ++ (t ++ (f ++ (t ++ (g ++ (t ++ (h ++ (t ++ (i ++ (t ++ j)))))))))) ++ n
regroup a t f g h i j n = simp append_assoc

pub whole : (s : Shown) → front s ++ (newline ∷ []) ≡ line s
unfolding line
whole s =
    regroup (s.letter ∷ []) (tab ∷ []) (coded s.code) (hexadecimal s.dit) (hexadecimal s.dah) (decimal s.serial)
    (decimal s.challengers) (newline ∷ [])

-- ---- its length

-- of the numbers in it
pub record Lengths (s : Shown) : Type 0 where
  pub dit : length (hexadecimal s.dit) ≡ 8
  pub dah : length (hexadecimal s.dah) ≡ 8
  pub serial : length (decimal s.serial) ≤ 20
  pub challengers : length (decimal s.challengers) ≤ 20

pub lengths : (s : Shown) → Lengths s
lengths s = record {
  dit = digits_length 16 8 s.dit;
  dah = digits_length 16 8 s.dah;
  serial = tens_most 20 s.serial;
  challengers = tens_most 20 s.challengers;
}

-- 23 bytes are the letter, five tabs, two times 8 digits and the newline
pub line_length : (s : Shown)
    → length (line s) ≡ 23 + length (coded s.code) + length (decimal s.serial) + length (decimal s.challengers)
line_length s =
    sym (ap length (whole s))
    ∙ simp length-append (omega (arith, lengths s))

pub line_most : (s : Shown) → number s.code < 256 → length (line s) ≤ 67
line_most s h = omega (arith, line_length s, lengths s, coded_most s.code h)

-- the answer to a call
pub line_of_call : (s : Shown) (c : Code) → s.code ≡ of_code c → length (line s) ≤ 66
line_of_call s c e =
    let h : length (coded s.code) ≤ 3 = rw e (coded_call c) in
    omega (arith, line_length s, lengths s, h)

pub line_least : (s : Shown) → 26 ≤ length (line s)
line_least s = omega (arith, line_length s, coded_least s.code, tens_least 19 s.serial, tens_least 19 s.challengers)
