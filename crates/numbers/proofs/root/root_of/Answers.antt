-- `numbers::root::root_of` meets its contract: `proofs/RootLaws.antt` has the shift. Assumes nothing.
use Rattle.std.proofs.Common.{ℕ, ◌+◌, ◌*◌, ◌^◌, ◌≤◌, Bool, true, false, cond, eqb, ap, ◌∙◌, arith, lit≤}
use Rattle.numbers.proofs.RootLaws.{sh, z_ge, z_le, large, small, shl_is, even}
use Rattle.numbers.proofs.root.root_of.Goals as goal

bit : (b : Bool) → cond b 0 1 ≤ 1
bit true = lit≤ tt
bit false = lit≤ tt

pub overflow_add-sh : goal.overflow_add-sh
overflow_add-sh c = let b = z_le c.args.sig c.args.j c.requires.0 c.requires.1 in omega arith

pub overflow_sub-sh : goal.overflow_sub-sh
overflow_sub-sh c = let b = z_ge c.args.sig c.args.j c.requires.0 c.requires.1 in omega arith

pub overflow_cast-sh : goal.overflow_cast-sh
overflow_cast-sh c = let b = z_le c.args.sig c.args.j c.requires.0 c.requires.1 in omega arith

pub overflow_shl-sig : goal.overflow_shl-sig
overflow_shl-sig c = let b = z_le c.args.sig c.args.j c.requires.0 c.requires.1 in omega arith

pub overflow_add-w : goal.overflow_add-w
overflow_add-w c = let q = c.leading_root-d.ensures.small in let t = bit (eqb c.leading_root-d.result.rest 0) in let e = c.any.ensures in omega arith

pub overflow_sub-half : goal.overflow_sub-half
overflow_sub-half c = let s = c.before.before.before in let b = z_le s.args.sig s.args.j s.requires.0 s.requires.1 in omega arith

pub returns : goal.returns
returns c =
    let s = c.before.before.before in
    let x = c.leading_root-d in
    record {
      sh = sh s.args.sig s.args.j s.requires.0 s.requires.1;
      q = x.result.q;
      rest = x.result.rest;
      split = x.ensures.split ∙ ap (λ (y : ℕ). y * 2 ^ 48) (shl_is s.args.sig s.args.j s.requires.0 s.requires.1);
      rests = x.ensures.rests;
      large = large s.args.sig s.args.j s.requires.0 s.requires.1;
      small = small s.args.sig s.args.j s.requires.0 s.requires.1;
      even = even s.args.sig s.args.j s.requires.0 s.requires.1;
      is = ap (λ (y : ℕ). 2 * x.result.q + y) c.any.ensures;
    }
