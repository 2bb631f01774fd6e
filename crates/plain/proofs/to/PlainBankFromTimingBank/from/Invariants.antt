-- `PlainBank::from` meets its contract. Assumes nothing.
use Rattle.plain.specs.Plain.{plain_hyp}
use Rattle.plain.proofs.to.PlainBankFromTimingBank.from.Given as goal

abbrev pub ghost-carried : goal.ghost-carried
ghost-carried a = plain_hyp

abbrev pub ghost-carried-2 : goal.ghost-carried-2
ghost-carried-2 a = λ d. d

abbrev pub ghost-carried-3 : goal.ghost-carried-3
ghost-carried-3 a = λ d. d
