use Rattle.std.proofs.Common.{◌≤◌, refl, arith}
use Rattle.bank_model.specs.Departures.{widest}
use Rattle.bank.proofs.Emptying.{no_crew, no_streak, no_log, bare_sturdy}
use Rattle.bank.proofs.inner.fresh.fresh.Goals as goal

pub invariant_of-result : goal.invariant_of-result
invariant_of-result c =
    let r = c.requires in
    let m = c.max.ensures in
    let low : 1 ≤ c.max.result = omega arith in
    let high : c.max.result ≤ widest = omega arith in
    record {
      sturdy =
          bare_sturdy _ _ _ _ _ _ _ _ _ _ low high (no_crew _ refl) (no_streak _ _ refl refl) (no_log _ refl);
    }
