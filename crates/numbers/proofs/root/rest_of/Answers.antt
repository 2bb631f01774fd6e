-- `numbers::root::rest_of` meets its contract: `proofs/Estimates.antt` puts the halves together. Assumes nothing.
use Rattle.std.proofs.Common.{◌≡◌, ℕ, ◌+◌, ◌-◌, ◌*◌, ◌%◌, ◌^◌, ◌<◌, ◌≤◌, sym, refl, ap, ◌∙◌, le_trans, le_of_eq, arith}
use Rattle.numbers.specs.Estimate.{lifted_of}
use Rattle.numbers.specs.Parts.{Rest}
use Rattle.numbers.proofs.Estimates.{high_fits, cross_fits, double_fits, low_fits, last, rest_split, found, found_above}
use Rattle.numbers.proofs.root.rest_of.Goals as goal
use Rattle.numbers.proofs.root.rest_of.Goals.{After-lifted-rest}

-- where no root is to be found, none is answered
nothing : (m q : ℕ) → ((t : ℕ) → m % 256 ≡ 0 → t ≤ 2 * q → q * q + t ≡ m * 2 ^ 48 → ⊥) → Rest m q (2 ^ 64 - 1)
nothing m q n = record { split = λ k. absurd (k refl); rests = λ k. absurd (k refl); found = λ t e h k. absurd (n t e h k) }

less : (x y : ℕ) → x < y → y ≤ x → ⊥
less x y h k = omega arith

is : (c : After-lifted-rest) → c.lifted-rest.result ≡ last c.args.m c.args.q c.requires
is c = let q = c.args.q in c.lifted-rest.ensures ∙ ap (λ (x : ℕ). lifted_of x (q % 2 ^ 28 * (q % 2 ^ 28))) c.lifted-d.ensures

pub overflow_mul-a : goal.overflow_mul-a
overflow_mul-a c = record { fits = high_fits c.args.q c.requires }

pub returns-then-m-a : goal.returns-then-m-a
returns-then-m-a c = let s = c.before.before in nothing s.args.m s.args.q (λ t e h k. less _ _ c.if-m-a.true (found_above s.args.m s.args.q s.requires t e h k))

pub overflow_mul-a-3 : goal.overflow_mul-a-3
overflow_mul-a-3 c = record { fits = cross_fits c.args.q c.requires }

pub overflow_mul-a-4 : goal.overflow_mul-a-4
overflow_mul-a-4 c = record { fits = double_fits c.args.q c.requires }

pub overflow_mul-b : goal.overflow_mul-b
overflow_mul-b c = let s = c.before.before.before in record { fits = low_fits s.args.q s.requires }

pub returns-then-q-rest : goal.returns-then-q-rest
returns-then-q-rest c =
    let l = c.before in
    let s = l.before.before.before.before in
    nothing s.args.m s.args.q (λ t e h k. less _ _ c.if-q-rest.true (le_trans (le_of_eq (is l ∙ found s.args.m s.args.q s.requires t e h k)) h))

pub returns : goal.returns
returns c =
    let l = c.before in
    let s = l.before.before.before.before in
    record {
      split = λ n.
          ap (λ (x : ℕ). s.args.q * s.args.q + x) (is l)
          ∙ rest_split s.args.m s.args.q s.requires l.if-m-ne0.false l.if-m-a.false (le_trans (le_of_eq (sym (is l))) c.if-q-rest.false);
      rests = λ n. c.if-q-rest.false;
      found = λ t e h k. is l ∙ found s.args.m s.args.q s.requires t e h k;
    }
