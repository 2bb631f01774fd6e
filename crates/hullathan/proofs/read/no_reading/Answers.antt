-- `hullathan::read::no_reading` meets its contract. Assumes nothing.
use Rattle.std.proofs.Common.{rules}
use lib.Ieee.{of_bits}
use Rattle.plain.specs.Plain.{blank_record}
use Rattle.hullathan.specs.Host.{no_rival, padded}
use Rattle.hullathan.proofs.Rows.{all_blank}
use Rattle.hullathan.proofs.read.no_reading.Goals as goal

pub returns : goal.returns
unfolding of_bits padded
returns c =
    let d = c.default.ensures in
    let pad = all_blank _ 0 (λ n e. e) 4 _ d.1.1.1.1.0 in
    let rivals = all_blank _ no_rival (λ x e. search rules) 8 _ d.1.1.1.1.1.1.1.1.1.1.1.1.1.1.1.1.1.1.1.1.1.1.1.0 in
    let log =
    all_blank _ blank_record (λ x e. (let p = all_blank _ 0 (λ n k. k) 7 _ e.1.1.1.1 in search (p, rules))) 16 _
    d.1.1.1.1.1.1.1.1.1.1.1.1.1.1.1.1.1.1.1.1.1.1.1.1.1 in
    search (pad, rivals, log, rules)
