-- What the parts of the code say of a bank. Definitions only.
use Rattle.std.specs.Prelude.{◌<◌, List}
use Rattle.bank_model.specs.declared.SwitchRecord.{SwitchRecord}
use Rattle.bank_model.specs.Model.{Bank}
use Rattle.bank.specs.declared.TimingBank.{TimingBank}

-- a bank with another log
abbrev pub with_log : Bank → List SwitchRecord → Bank
with_log b l = record {
  width = b.width;
  switching = b.switching;
  score = b.score;
  gap_score = b.gap_score;
  challengers = b.challengers;
  evidence = b.evidence;
  marks = b.marks;
  gaps = b.gaps;
  pending = b.pending;
  log = l;
  started = b.started;
}

-- refusal 2 does not hold
pub record Countable (b : TimingBank) : Type 0 where
  pub marks : b.marks_seen < 4294967295
  pub gaps : b.gaps_seen < 4294967295
