-- `numbers::root::positive_root32` meets its contract: what is not below the root, next to what is, is the root. Assumes nothing.
use Rattle.std.proofs.Common.{◌≡◌, ℕ, suc, ◌-◌, ◌*◌, ◌^◌, ◌<◌, ◌≤◌, T, sym, ap, ◌∙◌, subst, arith}
use lib.Ieee.{binary32, fits, of_bits, lt}
use Rattle.numbers.specs.Root.{sqrt_of}
use Rattle.numbers.proofs.BelowRoot.{squeezed}
use Rattle.numbers.proofs.Estimates.{Certified, certified_by}
use Rattle.numbers.proofs.Plain.{number_bits, plain}
use Rattle.numbers.proofs.root.positive_root32.Goals as goal
use Rattle.numbers.proofs.root.positive_root32.Goals.{Start, Then-certified32}

held : (c : Start) → T (fits binary32 c.args.v)
held c = subst T (sym c.well_formed.0.1) tt

test : (c : Then-certified32) → Certified c.estimate32-c.result c.args.v
test c = certified_by c.estimate32-c.result c.args.v (sym c.certified32.ensures ∙ c.if-certified32.true)

again : (n : ℕ) → 2 ^ 23 < n → n ≡ suc (n - 1)
again n h = omega arith

before : (n : ℕ) → 2 ^ 23 < n → 2 ^ 23 ≤ n - 1
before n h = omega arith

under : (n : ℕ) → n < 254 * 2 ^ 23 → n ≤ 255 * 2 ^ 23
under n h = omega arith

pub float_from_bits-result : goal.float_from_bits-result
float_from_bits-result c = number_bits binary32 _ (under c.estimate32-c.result (test c).0.1)

pub returns-then-certified32 : goal.returns-then-certified32
returns-then-certified32 c =
    let r = c.before.before in
    let s = r.before in
    let n = r.estimate32-c.result in
    let k = test c in
    let e : n ≡ suc (n - 1) = again n k.0.0 in
    ap (of_bits binary32) e
    ∙ squeezed (n - 1) (before n k.0.0) (subst (λ (x : ℕ). x < 254 * 2 ^ 23) e k.0.1) s.args.v (plain s.args.v s.requires) (held s) k.2
    (ap (λ (x : ℕ). lt (of_bits binary32 x) (sqrt_of binary32 s.args.v)) (sym e) ∙ k.1)
