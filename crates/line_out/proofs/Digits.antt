-- How many digits a number has, and its digits one by one. Assumes nothing.
use mathlib.Core.Path.{◌≡◌, refl, sym, ap, ◌∙◌}
use mathlib.Core.Bool.{Bool, true, false}
use mathlib.Core.List.{List, [], ◌∷◌, ◌++◌, append_assoc}
use mathlib.Core.Logic.{◌⊎◌, inl, inr, ⊎_elim}
use Prim.Native.Nat.{ℕ, zero, suc, ◌+◌, ◌-◌, ◌*◌, ◌/◌, ◌%◌, ◌^◌, ◌≤◌, ◌<◌}
use native.Mathlib.Nat.{mod-eq_of_lt, pow-suc, div-lt_iff_lt-mul, div-div-eq-div-mul, div-one}
use Rattle.std.proofs.lemmas.Nat.{pow-add}
use native.Mathlib.Numerals.{add-one}
use native.Mathlib.Omega.{arith}
use lib.Dec.{ltb, lit<}
use lib.ListN.{length, length-append, take}
use borrow.Author.Tests.{lt-ltb, le-ltb, ltb-true, ltb-false}
use Rattle.line_out.specs.Shown.{glyph, digits, tens, decimal, hexadecimal}
use Rattle.line_out.proofs.Holding.{again, joins_none}

-- k digits are k
pub digits_length : (b k n : ℕ) → length (digits b k n) ≡ k
unfolding digits
digits_length b zero n = refl
digits_length b (suc k) n =
    omega (arith, length-append (digits b k (n / b)) (glyph (n % b) ∷ []), digits_length b k (n / b))

-- below ten: one digit
pub tens_one : (k n : ℕ) → n < 10 → tens (suc k) n ≡ glyph n ∷ []
unfolding tens
tens_one k n h = rw (lt-ltb n 10 h)

-- from ten on: those of its tenth, and the last one
pub tens_more : (k n : ℕ) → 10 ≤ n → tens (suc k) n ≡ tens k (n / 10) ++ (glyph (n % 10) ∷ [])
unfolding tens
tens_more k n h = rw (le-ltb n 10 h)

-- below ten or not
pub ten? : (n : ℕ) → (n < 10) ⊎ (10 ≤ n)
ten? n = go (ltb n 10) refl
  where
    go : (t : Bool) → ltb n 10 ≡ t → (n < 10) ⊎ (10 ≤ n)
    go true e = inl (ltb-true n 10 e)
    go false e = inr (ltb-false n 10 e)

-- one more digit, one more power of ten
pub tenth : (j n : ℕ) → n < 10 ^ suc j → n / 10 < 10 ^ j
tenth j n h = (div-lt_iff_lt-mul {k = 10} {x = n} {y = 10 ^ j} (lit< tt)).1 (rw pow-suc at h)

pub snoc_length : (l : List ℕ) (b : ℕ) → length (l ++ (b ∷ [])) ≡ suc (length l)
snoc_length l b = length-append l (b ∷ []) ∙ add-one (length l)

-- at most k
pub tens_most : (k n : ℕ) → length (tens k n) ≤ k
unfolding tens
tens_most zero n = omega arith
tens_most (suc k) n =
    ⊎_elim (λ h. rw (tens_one k n h) (omega arith))
    (λ h. rw (tens_more k n h, snoc_length) (omega (arith, tens_most k (n / 10)))) (ten? n)

-- at least one
pub tens_least : (k n : ℕ) → 1 ≤ length (tens (suc k) n)
tens_least k n =
    ⊎_elim (λ h. rw (tens_one k n h) (omega arith)) (λ h. rw (tens_more k n h, snoc_length) (omega arith)) (ten? n)

-- no more than the power of ten above the number says
pub tens_short : (k j n : ℕ) → n < 10 ^ suc j → length (tens k n) ≤ suc j
unfolding tens
tens_short zero j n b = omega arith
tens_short (suc k) zero n b = rw (tens_one k n b) (omega arith)
tens_short (suc k) (suc j) n b =
    ⊎_elim (λ h. rw (tens_one k n h) (omega arith))
    (λ h. rw (tens_more k n h, snoc_length) (omega (arith, tens_short k j (n / 10) (tenth (suc j) n b)))) (ten? n)

-- ---- a number of 64 bits in decimal, by its tenth

-- more room than its digits need changes nothing
roomier : (k n : ℕ) → n < 10 ^ suc k → tens (suc k) n ≡ tens (suc (suc k)) n
roomier zero n b = tens_one zero n b ∙ sym (tens_one 1 n b)
roomier (suc k) n b = ⊎_elim
    (λ h. tens_one (suc k) n h ∙ sym (tens_one (suc (suc k)) n h))
    (λ h. tens_more (suc k) n h ∙ ap (λ l. l ++ (glyph (n % 10) ∷ [])) (roomier k (n / 10) (tenth (suc k) n b))
    ∙ sym (tens_more (suc (suc k)) n h))
    (ten? n)

pub decimal_one : (n : ℕ) → n < 10 → decimal n ≡ glyph (n % 10) ∷ []
decimal_one n h = tens_one 19 n h ∙ ap (λ d. glyph d ∷ []) (sym (mod-eq_of_lt h))

pub decimal_more : (n : ℕ) → n < 2 ^ 64 → 10 ≤ n → decimal n ≡ decimal (n / 10) ++ (glyph (n % 10) ∷ [])
decimal_more n b h = tens_more 19 n h ∙ ap (λ l. l ++ (glyph (n % 10) ∷ [])) (roomier 18 (n / 10) (omega arith))

-- ---- 8 hexadecimal digits, written from the highest on

-- the digits above the place i stand after what stood there before, as far as there is room
pub record Above (l₀ l : List ℕ) (v i : ℕ) : Type 0 where
  pub are : l ≡ take 80 (l₀ ++ digits 16 (8 - i) (v / 16 ^ i))

pub begins : (l m : List ℕ) (v : ℕ) → l ≡ take 80 m → Above l l v 8
unfolding digits
begins l m v e = record { are = joins_none m e }

tenth_of_16 : (v j : ℕ) → v / 16 ^ suc j ≡ v / 16 ^ j / 16
tenth_of_16 v j = ap (λ m. v / m) (pow-suc 16 j) ∙ sym (div-div-eq-div-mul v (16 ^ j) 16)

next_place : (v j : ℕ) (l₀ : List ℕ) → j < 8 →
    (l₀ ++ digits 16 (8 - suc j) (v / 16 ^ suc j)) ++ (glyph (v / 16 ^ j % 16) ∷ []) ≡ l₀
    ++ digits 16 (8 - j) (v / 16 ^ j)
unfolding digits
next_place v j l₀ h =
    let m : 8 - j ≡ suc (8 - suc j) = omega arith in
    rw (tenth_of_16 v j, m) (append_assoc l₀ (digits 16 (8 - suc j) (v / 16 ^ j / 16)) (glyph (v / 16 ^ j % 16) ∷ []))

fours : (j : ℕ) → 2 ^ (4 * j) ≡ 16 ^ j
fours zero = refl
fours (suc j) =
    let m : 4 * suc j ≡ 4 * j + 4 = omega arith in
    ap (λ k. 2 ^ k) m ∙ pow-add 2 (4 * j) 4 ∙ ap (λ k. k * 16) (fours j) ∙ sym (pow-suc 16 j)

pub turned : {l₀ l l' : List ℕ} {v d : ℕ} (i : ℕ) → 0 < i → i ≤ 8 → d ≡ glyph (v / 2 ^ (4 * (i - 1)) % 16)
    → l' ≡ take 80 (l ++ (d ∷ [])) → Above l₀ l v i → Above l₀ l' v (i - 1)
turned {l₀} {l} {l'} {v} {d} zero h k e q w = absurd (omega arith)
turned {l₀} {l} {l'} {v} {d} (suc j) h k e q w =
    let p : suc j - 1 ≡ j = omega arith in
    let b : 2 ^ (4 * j) ≡ 16 ^ j = fours j in
    rw p record {
      are = q
          ∙ rw (e, p, b, w.are) (again 80 (l₀ ++ digits 16 (8 - suc j) (v / 16 ^ suc j)) (glyph (v / 16 ^ j % 16) ∷ [])
          ∙ ap (take 80) (next_place v j l₀ (omega arith)));
    }

pub ended : {l₀ l : List ℕ} {v : ℕ} (i : ℕ) → i ≤ 0 → Above l₀ l v i → l ≡ take 80 (l₀ ++ hexadecimal v)
ended {l₀} {l} {v} zero h w = w.are ∙ ap (λ m. take 80 (l₀ ++ digits 16 8 m)) (div-one v)
ended (suc i) h w = absurd (omega arith)
