-- `sender::door::measured` meets its contract. Assumes nothing.
use mathlib.Core.Path.{sym, ◌∙◌}
use Rattle.ranges.proofs.Compare.{passed, within_in}
use Rattle.sender.specs.Constants.{dit_min, dit_max}
use Rattle.sender.proofs.door.measured.Goals as goal

pub in_dits-requires : goal.in_dits-requires
in_dits-requires c = record {
  duration = c.in_ok-dur.dur.held;
  dit = within_in dit_min dit_max c.args.dit_ms.0 (passed (sym c.within.ensures ∙ c.if-not-within.false));
}
