-- `numbers::root::positive_root64` meets its contract: `proofs/RootLaws.antt` has the rounding. Assumes nothing.
use Rattle.numbers.proofs.Plain.{plain, plain_finite}
use Rattle.numbers.proofs.RootLaws.{root_fits, root64}
use Rattle.numbers.proofs.root.positive_root64.Goals as goal

pub take_apart-p-requires : goal.take_apart-p-requires
take_apart-p-requires c = plain_finite c.args.v (plain c.args.v c.requires)

pub root_of-r-requires : goal.root_of-r-requires
root_of-r-requires c = let s = c.before in root_fits s.args.v (plain s.args.v s.requires) c.take_apart-p.result c.take_apart-p.ensures

pub returns : goal.returns
returns c =
    let r = c.before in
    let a = r.before in
    let s = a.before in
    root64 s.args.v (plain s.args.v s.requires) a.take_apart-p.result a.take_apart-p.ensures r.root_of-r.result.w r.root_of-r.result.j r.root_of-r.ensures c.nearest64.result c.nearest64.ensures
