-- `plain_tracker::from::tracker_of` meets its contract. Assumes nothing.
use Rattle.std.proofs.Common.{◌≡◌, map, length, arith, rules}
use Rattle.std.proofs.lemmas.Grind.{common_steps}
use Rattle.marks.proofs.Shifting.{unmapped}
use Rattle.plain_tracker.specs.Plain.{entry_of, blank_entry}
use Rattle.ring.proofs.Ringing.{mapped}
use Rattle.plain_tracker.proofs.from.tracker_of.Goals as goal

pub returns : goal.returns
returns c =
    let l : length c.args.p.ring ≡ 12 = search (unmapped, rules) in
    let h : c.map-ring.result ≡ map entry_of c.args.p.ring =
    mapped entry_of blank_entry _ _ _ c.map-ring.ensures.items l (λ x y p q r. search rules) in
    grind (arith, common_steps, h)
