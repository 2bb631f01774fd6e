-- `hullathan::call::no_answer` meets its contract. Assumes nothing.
use Rattle.std.proofs.Common.{rules}
use lib.Ieee.{of_bits}
use Rattle.plain.specs.Plain.{no_departure}
use Rattle.hullathan.specs.Host.{padded}
use Rattle.hullathan.proofs.Rows.{all_blank}
use Rattle.hullathan.proofs.call.no_answer.Goals as goal

pub returns : goal.returns
unfolding of_bits padded
returns c =
    let d = c.default.ensures in
    let pad = all_blank _ 0 (λ n e. e) 3 _ d.1.0 in
    let pad_dah = all_blank _ 0 (λ n e. e) 4 _ d.1.1.1.1.0 in
    let left =
    all_blank _ no_departure (λ x e. (let p = all_blank _ 0 (λ n k. k) 7 _ e.1.1 in search (p, rules))) 7 _
    d.1.1.1.1.1.1.1.0 in
    search (pad, pad_dah, left, rules)
