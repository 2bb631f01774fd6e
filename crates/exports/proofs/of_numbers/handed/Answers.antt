-- `exports::of_numbers::handed` meets its contract. Assumes nothing.
use Rattle.std.proofs.Common.{ap, ◌∙◌}
use Rattle.numbers.specs.Answers.{said_as}
use Rattle.exports.proofs.Answers.{done, declined}
use Rattle.exports.proofs.of_numbers.handed.Goals as goal

pub returns-in-Ok : goal.returns-in-Ok
returns-in-Ok g c =
    let float = g.F.BinaryFloat.float in
    let the = done (float c.args.out.now) (ap (said_as float) c.in-Ok.is) in
    record { value = the.0; out_after = the.1 }

pub returns-in-Err : goal.returns-in-Err
returns-in-Err g c =
    let float = g.F.BinaryFloat.float in
    let the = declined (float c.args.out.now) (ap (said_as float) c.in-Err.is) in
    record { value = c.into.ensures ∙ the.0; out_after = the.1 }
