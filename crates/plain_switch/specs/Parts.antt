-- What the parts of the code say to each other. Definitions only.
use Rattle.std.specs.Prelude.{Bool, cond, Result, Ok, Err, ℕ}
use Rattle.refusals.specs.declared.Refusal.{Refusal}
use Rattle.bank.specs.declared.Switched.{Switched}
use Rattle.plain_tracker.specs.declared.PlainTracker.{PlainTracker}
use Rattle.plain_tracker.specs.Plain.{plain_tracker}
use Rattle.plain.specs.declared.PlainBank.{PlainBank}
use Rattle.plain.specs.Plain.{plain_bank}
use Rattle.plain_switch.specs.declared.BankExchanged.{BankExchanged}

-- the answer k, which says this, in plain form
abbrev pub told_as : PlainBank → PlainTracker → ℕ → Switched → Result Bool Refusal → BankExchanged
told_as b p serial k (Ok on) = record {
  told = Ok on;
  bank = plain_bank k.bank;
  primary = cond on (plain_tracker k.primary) p;
  serial = cond on k.serial serial;
}
told_as b p serial k (Err r) = record { told = Err r; bank = b; primary = p; serial = serial }
