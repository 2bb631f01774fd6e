-- `line_out::bytes::Bytes::write` meets its contract. Assumes nothing.
use Rattle.std.proofs.Common.{rules}
use Rattle.line_out.proofs.Holding.{copied}
use Rattle.line_out.proofs.bytes.Bytes.write.Goals as goal

pub returns : goal.returns
returns g c =
    copied _ _ _ _ _ _ (search rules) c.args.self.now.fits c.min-n.ensures c.copy_from_slice.ensures.after
