-- `numbers::root::extract_root` meets its contract. The invariant: after i turns q is the whole part of the root of m's first i pairs of digits, with `rest` left over, and `left` has the digits that are to come.
-- Assumes nothing.
use Rattle.std.proofs.Common.{◌≡◌, ℕ, ◌+◌, ◌-◌, ◌*◌, ◌/◌, ◌%◌, ◌^◌, ◌<◌, ◌≤◌, sym, ap, ◌∙◌, subst, lt_of_lt_of_le, mul_assoc, mul-div_cancel, mul_left_comm, add-one, arith, lit≤, pow_pos, pow_mono}
use native.Mathlib.Nat.{pow-succ'}
use Rattle.numbers.proofs.LogLaws.{more}
use Rattle.numbers.proofs.root.extract_root.Invariants.{Good}
use Rattle.numbers.proofs.root.extract_root.Goals as goal
use Rattle.numbers.proofs.root.extract_root.Goals.{then-c-next, else-c-next}

-- q stays below 2 ^ 56
low : (q i : ℕ) → i ≤ 56 → q < 2 ^ i → q < 2 ^ 56
low q i h l = lt_of_lt_of_le l (pow_mono h)

-- one more pair of digits
again : (m i : ℕ) → m * 4 ^ (i + 1) ≡ 4 * (m * 4 ^ i)
again m i = ap (λ (x : ℕ). m * x) (ap (λ (x : ℕ). 4 ^ x) (add-one i) ∙ pow-succ' 4 i) ∙ mul_left_comm m 4 (4 ^ i)

high : (x : ℕ) → 4 * x / 2 ^ 64 ≡ 4 * (x / 2 ^ 64) + x % 2 ^ 64 / 2 ^ 62
high x = omega arith

lower : (x : ℕ) → 4 * x % 2 ^ 64 ≡ x % 2 ^ 64 * 4 % 2 ^ 64
lower x = omega arith

pair : (x : ℕ) → x % 2 ^ 64 / 2 ^ 62 ≤ 3
pair x = omega arith

module _ (m left q rest i : ℕ) (g : Good m left q rest i) (h : i < 56) where
  x : ℕ
  x = m * 4 ^ i

  abbrev next : ℕ
  next = 4 * rest + left / 2 ^ 62

  next_is : m * 4 ^ (i + 1) / 2 ^ 64 ≡ 4 * (q * q + rest) + left / 2 ^ 62
  next_is = ap (λ (y : ℕ). y / 2 ^ 64) (again m i) ∙ high (m * 4 ^ i) ∙ ap (λ (y : ℕ). 4 * y + m * 4 ^ i % 2 ^ 64 / 2 ^ 62) (sym g.1) ∙ ap (λ (y : ℕ). 4 * (q * q + rest) + y / 2 ^ 62) (sym g.2)

  left_is : left * 4 % 2 ^ 64 ≡ m * 4 ^ (i + 1) % 2 ^ 64
  left_is = sym (ap (λ (y : ℕ). y % 2 ^ 64) (again m i) ∙ lower (m * 4 ^ i) ∙ ap (λ (y : ℕ). y * 4 % 2 ^ 64) (sym g.2))

  left_le : left / 2 ^ 62 ≤ 3
  left_le = subst (λ (y : ℕ). y / 2 ^ 62 ≤ 3) (sym g.2) (pair (m * 4 ^ i))

  one : 4 * q + 1 ≤ next → Good m (left * 4 % 2 ^ 64) (2 * q + 1) (next - (4 * q + 1)) (i + 1)
  one l = (
    omega arith,
    go (left / 2 ^ 62) l ∙ sym next_is,
    left_is,
    fits (left / 2 ^ 62) left_le g.3 l,
    more q 1 i (lit≤ tt) g.4,
  )
    where
      go : (d : ℕ) → 4 * q + 1 ≤ 4 * rest + d → (2 * q + 1) * (2 * q + 1) + (4 * rest + d - (4 * q + 1)) ≡ 4 * (q * q + rest) + d
      go d k = omega arith

      fits : (d : ℕ) → d ≤ 3 → rest ≤ 2 * q → 4 * q + 1 ≤ 4 * rest + d → 4 * rest + d - (4 * q + 1) ≤ 2 * (2 * q + 1)
      fits d a b k = omega arith

  digit_0 : next < 4 * q + 1 → Good m (left * 4 % 2 ^ 64) (2 * q) next (i + 1)
  digit_0 l = (
    omega arith,
    go (left / 2 ^ 62) ∙ sym next_is,
    left_is,
    fits (left / 2 ^ 62) l,
    less (2 ^ (i + 1)) (more q 1 i (lit≤ tt) g.4),
  )
    where
      go : (d : ℕ) → 2 * q * (2 * q) + (4 * rest + d) ≡ 4 * (q * q + rest) + d
      go d = omega arith

      fits : (d : ℕ) → 4 * rest + d < 4 * q + 1 → 4 * rest + d ≤ 2 * (2 * q)
      fits d k = omega arith

      less : (p : ℕ) → 2 * q + 1 < p → 2 * q < p
      less p k = omega arith

moved : (m left q q' rest rest' i : ℕ) → q ≡ q' → rest ≡ rest' → Good m left q' rest' i → Good m left q rest i
moved m left q q' rest rest' i a b g = subst (λ (z : ℕ). Good m left z rest i) (sym a) (subst (λ (z : ℕ). Good m left q' z i) (sym b) g)

pub loop-init : goal.loop-init
loop-init c = (lit≤ tt, first c.args.m c.ranges.m.fits, all c.args.m c.ranges.m.fits, lit≤ tt, lit≤ tt)
  where
    first : (m : ℕ) → m < 2 ^ 64 → 0 ≡ m * 1 / 2 ^ 64
    first m h = omega arith

    all : (m : ℕ) → m < 2 ^ 64 → m ≡ m * 1 % 2 ^ 64
    all m h = omega arith

pub overflow_mul-next : goal.overflow_mul-next
overflow_mul-next c = let l = c.loop in let b = low l.q l.counter l.invariant.0 l.invariant.4 in omega arith

pub overflow_add-next : goal.overflow_add-next
overflow_add-next c = let l = c.loop in let b = low l.q l.counter l.invariant.0 l.invariant.4 in let d = left_le _ l.left l.q l.rest l.counter l.invariant c.loop-test.true in omega arith

pub overflow_mul-c : goal.overflow_mul-c
overflow_mul-c c = let l = c.loop in let b = low l.q l.counter l.invariant.0 l.invariant.4 in omega arith

pub overflow_add-c : goal.overflow_add-c
overflow_add-c c = let l = c.loop in let b = low l.q l.counter l.invariant.0 l.invariant.4 in omega arith

pub overflow_mul-q : goal.overflow_mul-q
overflow_mul-q c = let l = c.loop in let b = low l.q l.counter l.invariant.0 l.invariant.4 in omega arith

pub overflow_add-q : goal.overflow_add-q
overflow_add-q c = let l = c.loop in let b = low l.q l.counter l.invariant.0 l.invariant.4 in omega arith

pub overflow_mul-q-else-c-next : goal.overflow_mul-q-else-c-next
overflow_mul-q-else-c-next c = let l = c.loop in let b = low l.q l.counter l.invariant.0 l.invariant.4 in omega arith

pub loop-preserved : goal.loop-preserved
loop-preserved c =
    let l = c.loop in
    let k = c.loop-test.true in
    let m = c.args.m in
    elim c.if-c-next.branch [
      | then-c-next a ↦
          moved m (l.left * 4 % 2 ^ 64) c.if-c-next.q (2 * l.q + 1) c.if-c-next.rest (4 * l.rest + l.left / 2 ^ 62 - (4 * l.q + 1))
          (l.counter + 1) a.q-is a.rest-is (one m l.left l.q l.rest l.counter l.invariant k a.if-c-next.true)
      | else-c-next a ↦
          moved m (l.left * 4 % 2 ^ 64) c.if-c-next.q (2 * l.q) c.if-c-next.rest (4 * l.rest + l.left / 2 ^ 62)
          (l.counter + 1) a.q-is a.rest-is (digit_0 m l.left l.q l.rest l.counter l.invariant k a.if-c-next.false)
    ]

pub returns : goal.returns
returns c =
    let l = c.loop in
    let m = c.args.m in
    let e : l.counter ≡ 56 = omega arith in
    record {
      split = l.invariant.1 ∙ ap (λ (x : ℕ). m * 4 ^ x / 2 ^ 64) e ∙ ap (λ (x : ℕ). x / 2 ^ 64) (sym (mul_assoc m (2 ^ 48) (2 ^ 64))) ∙ mul-div_cancel (m * 2 ^ 48) (pow_pos 64);
      rests = l.invariant.3;
      small = low l.q l.counter l.invariant.0 l.invariant.4;
    }
