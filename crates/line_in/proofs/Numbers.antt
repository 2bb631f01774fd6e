-- A field read digit by digit is the number that its form says. Assumes nothing.
use mathlib.Core.Path.{◌≡◌, refl, ◌∙◌}
use mathlib.Core.Bool.{true, false}
use mathlib.Core.List.{List}
use Prim.Native.Nat.{ℕ, ◌+◌, ◌-◌, ◌*◌, ◌^◌, ◌≤◌, ◌<◌}
use native.Mathlib.Nat.{pow-suc, pow-le-pow_right}
use native.Mathlib.Numerals.{add-one}
use native.Mathlib.Omega.{arith}
use lib.Dec.{lit<}
use lib.ListN.{length, drop, get_or, drop_of_length-le}
use lib.Seq.{drop-cons}
use borrow.Author.Tests.{le-leb, lt-leb}
use Rattle.std.specs.Prelude.{Some, None}
use Rattle.line_in.specs.Form.{is_digit, digits, followed, number}

-- ---- a field that is no number, and one that is

pub empty : (f : List ℕ) → length f ≡ 0 → number f ≡ None
unfolding number
empty f e = rw e

pub long : (f : List ℕ) → 8 < length f → number f ≡ None
unfolding number
long f h = rw (le-leb 1 (length f) (omega arith), lt-leb (length f) 8 h)

undigital : (f : List ℕ) → 1 ≤ length f → length f ≤ 8 → digits f ≡ false → number f ≡ None
unfolding number
undigital f h k e = rw (le-leb 1 (length f) h, le-leb (length f) 8 k, e)

-- ---- the first i digits are read, and make n

pub record Read (f : List ℕ) (n i : ℕ) : Type 0 where
  pub within : i ≤ length f
  pub good : digits f ≡ digits (drop i f)
  pub made : followed 0 f ≡ followed n (drop i f)
  pub small : n < 10 ^ i

pub begin : (f : List ℕ) → Read f 0 0
begin f = record { within = omega arith; good = refl; made = refl; small = omega arith }

digit : (b : ℕ) → 48 ≤ b → b ≤ 57 → is_digit b ≡ true
digit b h k = rw (le-leb 48 b h, le-leb b 57 k)

grown : (n d i : ℕ) → n < 10 ^ i → d ≤ 9 → n * 10 + d < 10 ^ (i + 1)
grown n d i h k = rw (add-one, pow-suc) (omega arith)

pub next : (f : List ℕ) (n i : ℕ) → Read f n i → i < length f → 48 ≤ get_or f i 0 → get_or f i 0 ≤ 57
    → Read f (n * 10 + (get_or f i 0 - 48)) (i + 1)
unfolding digits followed
next f n i r h l u = record {
  within = omega arith;
  good = r.good ∙ rw (add-one, drop-cons f i 0, digit (get_or f i 0) l u);
  made = r.made ∙ rw (add-one, drop-cons f i 0);
  small = grown n (get_or f i 0 - 48) i r.small (omega arith);
}

-- what has been read leaves room for one more digit
pub room : (n i : ℕ) → n < 10 ^ i → i < 8 → n < 10000000
room n i h k =
    let b : i ≤ 7 = omega arith in
    let p : 10 ^ i ≤ 10 ^ 7 = pow-le-pow_right (lit< tt) b in
    omega arith

pub below : (f : List ℕ) (n i : ℕ) → Read f n i → length f ≤ 8 → i < length f → get_or f i 0 < 48 → number f ≡ None
unfolding digits
below f n i r k h u =
    undigital f (omega arith) k (r.good ∙ rw (drop-cons f i 0, lt-leb 48 (get_or f i 0) u))

pub above : (f : List ℕ) (n i : ℕ) → Read f n i → length f ≤ 8 → i < length f → 48 ≤ get_or f i 0 → 57 < get_or f i 0
    → number f ≡ None
unfolding digits
above f n i r k h l u =
    undigital f (omega arith) k (r.good ∙ rw (drop-cons f i 0, le-leb 48 (get_or f i 0) l, lt-leb (get_or f i 0) 57 u))

pub ended : (f : List ℕ) (n i : ℕ) → Read f n i → 1 ≤ length f → length f ≤ 8 → length f ≤ i → number f ≡ Some n
unfolding digits followed number
ended f n i r h k e =
    let g : digits f ≡ true = r.good ∙ rw (drop_of_length-le f e) in
    let m : followed 0 f ≡ n = r.made ∙ rw (drop_of_length-le f e) in
    rw (le-leb 1 (length f) h, le-leb (length f) 8 k, g, m)
