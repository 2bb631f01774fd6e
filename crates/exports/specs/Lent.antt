-- How the switch call with a lent tracker leaves by C's way. Definitions only.
use Rattle.refusals.specs.Refusal.{refusal_of}
use Rattle.tracker.specs.Answers.{flag, told}
use Rattle.lent.specs.declared.LentSwitched.{LentSwitched}
use Rattle.plain.specs.declared.PlainBank.{PlainBank}
use Rattle.plain_tracker.specs.declared.PlainTracker.{PlainTracker}
use Rattle.exports.specs.declared.of_bank.BankSwitched.{BankSwitched}
use Rattle.exports.specs.declared.of_lent.BankLent.{BankLent}
use Rattle.exports.specs.Tracker.{yes}
use Rattle.exports.specs.Bank.{handed_on}

-- the answer, and the tracker that is found in the lent one, are together the answer of the call by value
abbrev pub found : BankLent → PlainTracker → BankSwitched
found r p = record { code = r.code; yes = r.yes; bank = r.bank; primary = p; serial = r.serial }

-- an answer of `lent` as C reads it
abbrev pub lent_on : PlainBank → LentSwitched → BankLent
lent_on b a = record { code = refusal_of a.flag; yes = yes (told flag a.flag); bank = handed_on b a.flag a.bank; serial = a.serial }
