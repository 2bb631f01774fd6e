-- What a host hands in and finds of a sender's statistics (document 01, "SenderTiming"): a class by its number, codes and readings in plain numbers. Definitions only.
use Rattle.std.specs.Prelude.{◌≡◌, cond, ℕ, T, eqb, Float}
use Rattle.std.proofs.Math.Option.{Option, none, some}
use Rattle.refusals.specs.Refusal.{coded}
use Rattle.ranges.specs.Limits.{nought}
use Rattle.sender.specs.declared.TimingClass.{TimingClass}
use Rattle.sender.specs.declared.ClassStats.{ClassStats}
use Rattle.sender.specs.declared.SenderTiming.{SenderTiming}
use Rattle.sender.specs.Model.{Class, Timing, at, view, blank_class, with_stats}
use Rattle.sender.specs.Sound.{sound}
use Rattle.sender.specs.Steps.{observed, dits, pauses, ratio, word_dits}
use Rattle.sender.specs.Answers.{first_of, observe_refusal}
use Rattle.plain_tracker.specs.Plain.{as_number, zeros}
use Rattle.plain_sender.specs.declared.SenderReading.{SenderReading}

-- a class in plain numbers; zeros where it is absent
abbrev pub plain_class : Option Class → ClassStats
plain_class none = blank_class
plain_class (some c) = record { mean = record { 0 = c.mean }; var = c.var; n = c.n }

-- ---- one duration of a class

-- 1, 5 to 7, 9; and last, where no class has the number, 12
abbrev pub sent_refusal : Option TimingClass → Float → Float → Timing → ℕ
sent_refusal (some k) dur dit t = observe_refusal t dur dit
sent_refusal none dur dit t = first_of (observe_refusal t dur dit) 12

-- the statistics s with the class k as it is after the duration: "only the class that is named changes"
abbrev pub with_class : Option TimingClass → Float → Float → SenderTiming → SenderTiming
with_class none dur dit s = s
with_class (some k) dur dit s = with_stats k (plain_class (at k (observed k (dits dur dit) (view s)))) s

-- the code, and what is left in the host's memory, in which s stood
pub record Observes (k : Option TimingClass) (dur dit : Float) (s : SenderTiming) (code : ℕ) (r : SenderTiming) : Type 0 where
  pub says : code ≡ coded (sent_refusal k dur dit (view s))
  -- refused: every byte as it was; else the class is the defined one, and every byte of the others as it was
  pub leaves : r ≡ cond (eqb (sent_refusal k dur dit (view s)) 0) (with_class k dur dit s) s
  pub still : sent_refusal k dur dit (view s) ≡ 0 → T (sound (view r))

-- ---- what a host shows

-- a number that may be absent: then it is 0
abbrev pub has : Option Float → ℕ
has none = 0
has (some x) = 1

abbrev pub or_nought : Option Float → Float
or_nought none = nought
or_nought (some x) = x

abbrev pub reading_of : Float → Timing → SenderReading
reading_of dit t = record {
  code = 0;
  has_ratio = has (ratio t.dot t.dash);
  has_word = has (word_dits t.char_gap t.word_gap);
  pad_has_word = zeros 1;
  dit_ms = dit;
  ratio = or_nought (ratio t.dot t.dash);
  word_dits = or_nought (word_dits t.char_gap t.word_gap);
  dot = plain_class t.dot;
  dash = plain_class t.dash;
  element_gap = plain_class t.element_gap;
  char_gap = plain_class t.char_gap;
  word_gap = plain_class t.word_gap;
}

-- where the statistics are unsound: refused by 1
abbrev pub no_reading : SenderReading
no_reading = record {
  code = 129;
  has_ratio = 0;
  has_word = 0;
  pad_has_word = zeros 1;
  dit_ms = nought;
  ratio = nought;
  word_dits = nought;
  dot = blank_class;
  dash = blank_class;
  element_gap = blank_class;
  char_gap = blank_class;
  word_gap = blank_class;
}

abbrev pub reads : Float → SenderTiming → SenderReading
reads dit s = cond (sound (view s)) (reading_of dit (view s)) no_reading

-- whether a closed word gap of x dits is a pause: 0 no, 1 yes; refused by 1 where the statistics are unsound
abbrev pub pauses_at : Float → SenderTiming → ℕ
pauses_at x s = cond (sound (view s)) (as_number (pauses x (view s))) 129
