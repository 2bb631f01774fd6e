-- `plain::to::plain_log` meets its contract. Assumes nothing.
use Rattle.plain.specs.Plain.{plain_record}
use Rattle.plain.proofs.to.plain_log.Given as goal

abbrev pub ghost-carried : goal.ghost-carried
ghost-carried a = plain_record
