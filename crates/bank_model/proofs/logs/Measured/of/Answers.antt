use Rattle.ranges.proofs.Durations.{duration_positive}
use Rattle.bank_model.proofs.logs.Measured.of.Goals as goal

pub ln_of-ln-requires : goal.ln_of-ln-requires
ln_of-ln-requires c = duration_positive c.args.dur.ms c.args.dur.held
