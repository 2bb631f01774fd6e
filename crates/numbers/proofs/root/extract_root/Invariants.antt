-- `numbers::root::extract_root` meets its contract. The invariant: after i turns q is the whole part of the root of m's first i pairs of digits, with `rest` left over, and `left` has the digits that are to come.
-- Assumes nothing.
use Rattle.std.proofs.Common.{◌≡◌, ℕ, ◌+◌, ◌*◌, ◌/◌, ◌%◌, ◌^◌, ◌<◌, ◌≤◌}
use Rattle.numbers.proofs.root.extract_root.Given as goal

abbrev pub Good : ℕ → ℕ → ℕ → ℕ → ℕ → Type 0
Good m left q rest i = (i ≤ 56) × (q * q + rest ≡ m * 4 ^ i / 2 ^ 64) × (left ≡ m * 4 ^ i % 2 ^ 64) × (rest ≤ 2 * q) × (q < 2 ^ i)

abbrev pub invariant-loop : goal.invariant-loop
invariant-loop l = Good l.m l.left l.q l.rest l.counter
