-- How the answers of `sender` leave by C's way. Definitions only.
use Rattle.std.specs.Prelude.{◌≡◌, true, false, ℕ, Float}
use Rattle.std.proofs.Math.Option.{Option, none, some}
use Rattle.ranges.specs.Limits.{nought}
use Rattle.sender.specs.declared.TimingClass.{TimingClass}
use Rattle.sender.specs.declared.ClassStats.{ClassStats}
use Rattle.sender.specs.declared.SenderTiming.{SenderTiming}
use Rattle.sender.specs.Model.{Class, Timing, view, blank_class, blank, stats_of, with_stats}
use Rattle.sender.specs.Steps.{observed, dits}
use Rattle.sender.specs.Answers.{Answer, done, flag, in_dits, ratio, absent, report, refused, unless, state_refusal, observe_refusal, mean_said, Left}
use Rattle.exports.specs.declared.of_sender.SenderNumber.{SenderNumber}
use Rattle.exports.specs.declared.of_sender.SenderFlag.{SenderFlag}
use Rattle.exports.specs.declared.of_sender.SenderReport.{SenderReport}

-- the code where no class has the number given
abbrev pub unknown : ℕ
unknown = 255

-- what `observe` says: the refusal, or that it is done
abbrev pub observe_said : Option TimingClass → Float → Float → Timing → Answer
observe_said (some k) dur dit t = unless (observe_refusal t dur dit) done
observe_said none dur dit t = refused unknown

-- what `mean_dits` says
abbrev pub mean_at : Option TimingClass → Timing → Answer
mean_at (some k) t = unless (state_refusal t) (mean_said k t)
mean_at none t = refused unknown

-- the refusal's number of document 01, and 0 for what is done
abbrev pub code : Answer → ℕ
code done = 0
code (flag b) = 0
code (in_dits x) = 0
code (ratio x) = 0
code absent = 0
code (report d t) = 0
code (refused n) = n

-- an answer with a number, +0 where there is none
abbrev pub numbered : Answer → SenderNumber
numbered (in_dits x) = record { code = 0; has = true; value = x }
numbered (ratio x) = record { code = 0; has = true; value = x }
numbered (refused n) = record { code = n; has = false; value = nought }
numbered absent = record { code = 0; has = false; value = nought }
numbered done = record { code = 0; has = false; value = nought }
numbered (flag b) = record { code = 0; has = false; value = nought }
numbered (report d t) = record { code = 0; has = false; value = nought }

-- yes or no, no where it is refused
abbrev pub flagged : Answer → SenderFlag
flagged (flag b) = record { code = 0; yes = b }
flagged (refused n) = record { code = n; yes = false }
flagged done = record { code = 0; yes = false }
flagged absent = record { code = 0; yes = false }
flagged (in_dits x) = record { code = 0; yes = false }
flagged (ratio x) = record { code = 0; yes = false }
flagged (report d t) = record { code = 0; yes = false }

-- a class of a report; zeros where it is absent
abbrev pub plain_class : Option Class → ClassStats
plain_class none = blank_class
plain_class (some c) = record { mean = record { 0 = c.mean }; var = c.var; n = c.n }

-- a report, and zeros where it is refused
abbrev pub reported_as : Answer → SenderReport
reported_as (report d t) = record {
  code = 0;
  dit_ms = d;
  classes = record { dot = plain_class t.dot; dash = plain_class t.dash; element_gap = plain_class t.element_gap; char_gap = plain_class t.char_gap; word_gap = plain_class t.word_gap };
}
reported_as (refused n) = record { code = n; dit_ms = nought; classes = blank }
reported_as done = record { code = 0; dit_ms = nought; classes = blank }
reported_as absent = record { code = 0; dit_ms = nought; classes = blank }
reported_as (flag b) = record { code = 0; dit_ms = nought; classes = blank }
reported_as (in_dits x) = record { code = 0; dit_ms = nought; classes = blank }
reported_as (ratio x) = record { code = 0; dit_ms = nought; classes = blank }

-- what `observe`, handed s, leaves in r: what the library's own leaves, the other classes bit for bit; s where no class has the number
abbrev pub LeftAt : Option TimingClass → Float → Float → SenderTiming → SenderTiming → Type 0
LeftAt (some k) dur dit s r = Left (observe_refusal (view s) dur dit) s (observed k (dits dur dit) (view s)) r × (r ≡ with_stats k (stats_of k r) s)
LeftAt none dur dit s r = r ≡ s
