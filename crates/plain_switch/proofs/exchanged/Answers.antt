-- `plain_switch::exchanged` meets its contract. Assumes nothing.
use Rattle.plain_switch.proofs.Exchanging.{answered, is_form, no_form, none_there}
use Rattle.plain_switch.proofs.exchanged.Goals as goal

pub returns-in-Ok-try_from : goal.returns-in-Ok-try_from
returns-in-Ok-try_from c =
    let b = c.in-Ok.ensures in
    let t = c.in-Ok-try_from.ensures in
    answered _ _ _ _ _ _ _ (rw (b.0, is_form _ t.0)) b.1 t.1 c.take_switch.ensures c.told.ensures

pub returns-in_default-try_from : goal.returns-in_default-try_from
returns-in_default-try_from c =
    let b = c.in-Ok.ensures in
    let t = c.in_default-try_from.ensures in
    none_there _ _ _ (rw (b.0, no_form _ _ t.0))
