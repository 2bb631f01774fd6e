-- `PlainPair::from` meets its contract. Assumes nothing.
use Rattle.plain_tracker.proofs.to.PlainPairFromClusterPair.from.Given as goal

abbrev pub ghost-carried : goal.ghost-carried
ghost-carried a = λ d. d
