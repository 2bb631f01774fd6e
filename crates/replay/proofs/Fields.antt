-- The digits of a field as they are read. Assumes nothing.
use Rattle.std.proofs.Common.{◌≡◌, arith, List, ℕ, suc, ◌+◌, ◌*◌, ◌^◌, ◌≤◌, ◌<◌, ◌∙◌, ◌-◌, lit<, length, length-drop}
use Rattle.std.proofs.Common.{get_or, take, drop, ap}
use lib.Seq.{length-take-le}
use Rattle.std.proofs.Math.Nat.{pow-suc, pow-le-pow_right}
use Rattle.std.proofs.lemmas.List.{get_or-take, get_or-drop}
use Rattle.replay.specs.Text.{digit_of, number_at}

-- the first i digits of the field make n
pub record Read (line : List ℕ) (at n i : ℕ) : Type 0 where
  pub value : n ≡ number_at i line at
  pub small : n < 16 ^ i

-- what has been read leaves room for one more digit
pub room : (n i : ℕ) → n < 16 ^ i → i < 8 → n < 268435456
room n i h k =
    let b : i ≤ 7 = omega arith in
    let p : 16 ^ i ≤ 16 ^ 7 = pow-le-pow_right (lit< tt) b in
    omega arith

grown : (n d i : ℕ) → n < 16 ^ i → d < 16 → n * 16 + d < 16 ^ suc i
grown n d i h k = rw pow-suc (omega arith)

module _ (line : List ℕ) (at : ℕ) (long : length line ≡ 31) (h : at + 8 ≤ 31) where
  -- the field of the line
  abbrev field : List ℕ
  field = take (at + 8 - at) (drop at line)

  same : field ≡ take 8 (drop at line)
  same = let p : at + 8 - at ≡ 8 = omega arith in ap (λ (n : ℕ). take n (drop at line)) p

  pub field_long : length field ≡ 8
  field_long = ap length same ∙ length-take-le 8 (drop at line) (let e = length-drop at line in omega arith)

  pub next : (n i d : ℕ) → Read line at n i → d < 16 → i < length field → d ≡ digit_of (get_or field i 0)
      → Read line at (n * 16 + d) (i + 1)
  next n i d r k l e =
      let j : i < 8 = omega (arith, field_long) in
      let f : d ≡ digit_of (get_or line (at + i) 0) =
      e ∙ ap (λ (x : List ℕ). digit_of (get_or x i 0)) same
      ∙ ap digit_of (get_or-take 8 (drop at line) i 0 j ∙ get_or-drop at line i 0) in
      let v = r.value in
      let s : i + 1 ≡ suc i = omega arith in
      rw s record { value = omega arith; small = grown n d i r.small k }

  pub ended : (n i : ℕ) → Read line at n i → i ≤ length field → length field ≤ i → n ≡ number_at 8 line at
  ended n i r a b = let e : i ≡ 8 = omega (arith, field_long) in r.value ∙ ap (λ (k : ℕ). number_at k line at) e
