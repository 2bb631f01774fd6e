-- `numbers::root::digits_root32` meets its contract: `proofs/RootLaws.antt` has the rounding. Assumes nothing.
use Rattle.std.proofs.Common.{T, sym, subst}
use lib.Ieee.{binary32, fits}
use Rattle.numbers.proofs.Plain.{plain, plain_finite, plain_widens}
use Rattle.numbers.proofs.RootLaws.{root_fits, root32}
use Rattle.numbers.proofs.root.digits_root32.Goals as goal
use Rattle.numbers.proofs.root.digits_root32.Goals.{Start}

held : (c : Start) → T (fits binary32 c.args.v)
held c = subst T (sym c.well_formed.0.1) tt

pub float_to_float-v : goal.float_to_float-v
float_to_float-v c = plain_widens c.args.v (held c.before.before) (plain c.args.v c.requires)

pub take_apart-p-requires : goal.take_apart-p-requires
take_apart-p-requires c = plain_finite c.args.v (plain c.args.v c.requires)

pub root_of-r-requires : goal.root_of-r-requires
root_of-r-requires c = let s = c.before.before in root_fits s.args.v (plain s.args.v s.requires) c.take_apart-p.result c.take_apart-p.ensures

pub returns : goal.returns
returns c =
    let r = c.before in
    let a = r.before in
    let s = a.before.before in
    root32 s.args.v (plain s.args.v s.requires) a.take_apart-p.result a.take_apart-p.ensures (held c.before.before.before.before) r.root_of-r.result.w r.root_of-r.result.j r.root_of-r.ensures c.nearest32.result c.nearest32.ensures
