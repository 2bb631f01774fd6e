-- `plain::from::bank_from` meets its contract. Assumes nothing.
use Rattle.plain.specs.Plain.{hyp_of, record_of}
use Rattle.plain.proofs.from.bank_from.Given as goal

abbrev pub ghost-carried : goal.ghost-carried
ghost-carried a = hyp_of

abbrev pub ghost-carried-2 : goal.ghost-carried-2
ghost-carried-2 a = record_of
