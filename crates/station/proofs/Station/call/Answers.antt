-- `station::Station::call` meets its contract. Assumes nothing.
use Rattle.station.proofs.Refusing.{call_unsound}
use Rattle.station.proofs.Answering.{answers_not}
use Rattle.station.proofs.Station.call.Goals as goal

pub returns-in-Err : goal.returns-in-Err
returns-in-Err c =
    let s = c.args.self in
    let h = c.in-Err.ensures.err in
    answers_not s c.args.event c.refuse.result c.in-Err.why (call_unsound s c.args.event c.in-Err.why h.0 h.1) c.refuse.ensures
