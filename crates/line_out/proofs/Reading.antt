-- Digits read back, and what bytes they are. Assumes nothing.
use mathlib.Core.Path.{◌≡◌, refl, ap, ◌∙◌}
use mathlib.Core.Bool.{Bool, true, false, cond}
use mathlib.Core.List.{List, [], ◌∷◌, ◌++◌}
use mathlib.Core.Logic.{⊎_elim}
use Prim.Native.Nat.{ℕ, zero, suc, ◌+◌, ◌-◌, ◌*◌, ◌/◌, ◌%◌, ◌^◌, ◌≤◌, ◌<◌}
use native.Mathlib.Nat.{mod-lt, div-add-mod', div-lt_iff_lt-mul, pow-zero, pow-suc}
use native.Mathlib.Omega.{arith}
use lib.Dec.{ltb}
use lib.ListN.{length, get_or, get_or-append}
use borrow.Author.Tests.{le-leb, lt-leb, lt-ltb, le-ltb, ne_eqb}
use Rattle.line_out.specs.Shown.{glyph, digits, tens}
use Rattle.line_out.specs.Form.{occurs, figure, value}
use Rattle.line_out.proofs.Digits.{ten?, tenth, tens_one, tens_more, tens_least}

-- ---- a digit

-- is at least `0`
pub glyph_least : (d : ℕ) → 48 ≤ glyph d
glyph_least d = of (ltb d 10)
  where
    of : (t : Bool) → 48 ≤ cond t (48 + d) (65 + (d - 10))
    of true = omega arith
    of false = omega arith

-- stands for itself
pub glyph_figure : (d : ℕ) → d < 16 → figure (glyph d) ≡ d
glyph_figure d h = ⊎_elim
    (λ s. rw (lt-ltb d 10 s, le-leb (48 + d) 57 (omega arith)) (omega arith))
    (λ s. rw (le-ltb d 10 s, lt-leb (65 + (d - 10)) 57 (omega arith)) (omega arith))
    (ten? d)

-- ---- read from the left

snoc_value : (b v : ℕ) (l : List ℕ) (d : ℕ) → value b v (l ++ (d ∷ [])) ≡ value b v l * b + figure d
unfolding value
snoc_value b v [] d = refl
snoc_value b v (x ∷ l) d = snoc_value b (v * b + figure x) l d

-- the last digit, after what its quotient's say
last_value : (b n : ℕ) (l : List ℕ) → 0 < b → b ≤ 16 → value b 0 l ≡ n / b → value b 0 (l ++ (glyph (n % b) ∷ [])) ≡ n
last_value b n l p q e =
    snoc_value b 0 l (glyph (n % b))
    ∙ ap (λ m. m * b + figure (glyph (n % b))) e
    ∙ ap (λ m. n / b * b + m) (glyph_figure (n % b) (omega (arith, mod-lt n p)))
    ∙ div-add-mod' n b

pub digits_value : (b k n : ℕ) → 0 < b → b ≤ 16 → n < b ^ k → value b 0 (digits b k n) ≡ n
unfolding digits value
digits_value b zero n p q h = let z = rw pow-zero at h in omega arith
digits_value b (suc k) n p q h =
    last_value b n (digits b k (n / b)) p q
    (digits_value b k (n / b) p q ((div-lt_iff_lt-mul {k = b} {x = n} {y = b ^ k} p).1 (rw pow-suc at h)))

pub tens_value : (k n : ℕ) → n < 10 ^ k → value 10 0 (tens k n) ≡ n
unfolding tens value
tens_value zero n h = omega (arith, h)
tens_value (suc k) n h = ⊎_elim
    (λ s. rw (tens_one k n s) (omega (arith, glyph_figure n (omega arith))))
    (λ s. rw (tens_more k n s) (last_value 10 n (tens k (n / 10)) (omega arith) (omega arith)
    (tens_value k (n / 10) (tenth k n h))))
    (ten? n)

-- ---- the first digit

pub tens_first : (k n : ℕ) → 0 < n → n < 10 ^ k → 49 ≤ get_or (tens k n) 0 0
unfolding tens
tens_first zero n p h = absurd (omega (arith, h))
tens_first (suc k) n p h = ⊎_elim
    (λ s. rw (tens_one k n s, lt-ltb n 10 s) (omega arith))
    (λ s. rw (tens_more k n s, get_or-append (tens k (n / 10)) (glyph (n % 10) ∷ []) 0 0 (first k s (tenth k n h)))
    (tens_first k (n / 10) (omega arith) (tenth k n h)))
    (ten? n)
  where
    first : (j : ℕ) → 10 ≤ n → n / 10 < 10 ^ j → 0 < length (tens j (n / 10))
    first zero s b = absurd (omega (arith, b))
    first (suc j) s b = tens_least j (n / 10)

-- ---- no byte below `0`

none_of : (b : ℕ) → b < 48 → (d : ℕ) (l : List ℕ) → occurs b l ≡ 0 → occurs b (l ++ (glyph d ∷ [])) ≡ 0
unfolding occurs
none_of b h d [] e = rw (ne_eqb b (glyph d) (λ s. omega (arith, s, glyph_least d)))
none_of b h d (x ∷ l) e = omega (arith, e, none_of b h d l (omega (arith, e)))

pub digits_none : (b : ℕ) → b < 48 → (base k n : ℕ) → occurs b (digits base k n) ≡ 0
unfolding digits occurs
digits_none b h base zero n = refl
digits_none b h base (suc k) n = none_of b h (n % base) (digits base k (n / base)) (digits_none b h base k (n / base))

pub tens_none : (b : ℕ) → b < 48 → (k n : ℕ) → occurs b (tens k n) ≡ 0
unfolding tens occurs
tens_none b h zero n = refl
tens_none b h (suc k) n = ⊎_elim
    (λ s. rw (tens_one k n s) (none_of b h n [] refl))
    (λ s. rw (tens_more k n s) (none_of b h (n % 10) (tens k (n / 10)) (tens_none b h k (n / 10))))
    (ten? n)
