-- Bytes in the first places of an array: what is put behind them. Assumes nothing.
use Rattle.std.proofs.Common.{◌≡◌, refl, sym, ap, ◌∙◌, List, [], ◌∷◌, ◌++◌, append_assoc, append-nil, ℕ, zero, suc}
use Rattle.std.proofs.Common.{◌+◌, ◌-◌, ◌≤◌, arith, length, length-take, length-take-le, min, take, take-take, take_at}
use Rattle.std.proofs.Math.Seq.{take-append-add}
use Rattle.std.proofs.lemmas.List.{take_min}
use borrow.Rule.Slice.PartMut.{post_of, put_mid}
use Rattle.line_out.specs.declared.bytes.Bytes.{Bytes}
use Rattle.line_out.specs.Bytes.{contents}

-- the first n, where i of them stand at the front
pub take_past : (n i : ℕ) (p q : List ℕ) → length p ≡ i → i ≤ n → take n (p ++ q) ≡ p ++ take (n - i) q
take_past n i p q e h =
    let s : n ≡ length p + (n - i) = omega arith in
    ap (λ (k : ℕ). take k (p ++ q)) s ∙ take-append-add p q (n - i)

-- m bytes more behind the first i of an array of n
pub copied : (n i m : ℕ) (at more is : List ℕ) → length at ≡ n → i ≤ n → m ≡ min (n - i) (length more)
    → is ≡ take m more → take (i + m) (put_mid i (i + m - i) at is) ≡ take n (take i at ++ more)
copied n i m at more is e h s t =
    let front : length (take i at) ≡ i = length-take-le i at (omega arith) in
    let many : length is ≡ m = ap length t ∙ length-take m more ∙ omega arith in
    let more_of_it : i + m - i ≡ m = omega arith in
    let rest = post_of i (i + m - i) at in
    take_past (i + m) i (take i at) (is ++ rest) front (omega arith)
    ∙ ap (λ (k : ℕ). take i at ++ take k (is ++ rest)) more_of_it
    ∙ ap (λ (l : List ℕ). take i at ++ l)
    (take_at is rest m many ∙ t ∙ ap (λ (k : ℕ). take k more) s ∙ take_min (n - i) more)
    ∙ sym (take_past n i (take i at) more front h)

-- what there was no room for stays away
pub again : (n : ℕ) (l m : List ℕ) → take n (take n l ++ m) ≡ take n (l ++ m)
again zero l m = refl
again (suc n) [] m = refl
again (suc n) (x ∷ l) m = ap (λ (k : List ℕ). x ∷ k) (again n l m)

-- where there is room for 80: first these, and then those
pub joins : (l : List ℕ) {l₁ l₂ : List ℕ} (a b : List ℕ) → l₁ ≡ take 80 (l ++ a) → l₂ ≡ take 80 (l₁ ++ b)
    → l₂ ≡ take 80 (l ++ (a ++ b))
joins l a b e f =
    f ∙ ap (λ (m : List ℕ). take 80 (m ++ b)) e ∙ again 80 (l ++ a) b ∙ ap (take 80) (append_assoc l a b)

-- and then none
pub joins_none : (l : List ℕ) {l₁ : List ℕ} → l₁ ≡ take 80 l → l₁ ≡ take 80 (l₁ ++ [])
joins_none l {l₁} e =
    e ∙ sym (take-take 80 80 l (omega arith)) ∙ ap (take 80) (sym e ∙ sym (append-nil l₁))

pub few : {n : ℕ} (b : Bytes n) → length (contents b) ≤ n
few b = omega (arith, length-take b.len b.at, b.fits)
