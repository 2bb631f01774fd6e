-- What a sender's statistics mean: five classes, each of which may be absent. Definitions only.
use Rattle.std.specs.Prelude.{cond, ℕ, eqb, Float}
use Rattle.std.specs.Prelude as P
use Rattle.std.proofs.Math.Option.{Option, none, some}
use Rattle.ranges.specs.Limits.{nought}
use Rattle.sender.specs.declared.TimingClass.{TimingClass}
use Rattle.sender.specs.declared.TimingClass.TheVariants.{Dot, Dash, ElementGap, CharGap, WordGap}
use Rattle.sender.specs.declared.ClassStats.{ClassStats}
use Rattle.sender.specs.declared.SenderTiming.{SenderTiming}
use Rattle.sender.specs.declared.NoClass.{NoClass}
use Rattle.sender.specs.declared.Dits.{Dits}
use Rattle.sender.specs.declared.ClassEstimate.{ClassEstimate}
use Rattle.sender.specs.declared.TimingEstimates.{TimingEstimates}

-- "Five classes, as `TimingClass`": their numbers, as the Rust's `index` gives them
abbrev pub number : TimingClass → ℕ
number Dot = 0
number Dash = 1
number ElementGap = 2
number CharGap = 3
number WordGap = 4

-- the class that has a number, 0 to 4
abbrev pub class_of : ℕ → Option TimingClass
class_of n =
    cond (eqb n 0) (some Dot)
    (cond (eqb n 1) (some Dash)
    (cond (eqb n 2) (some ElementGap)
    (cond (eqb n 3) (some CharGap)
    (cond (eqb n 4) (some WordGap) none))))

-- the class that a conversion gave
abbrev pub class_in : P.Result TimingClass NoClass → Option TimingClass
class_in (P.Ok k) = some k
class_in (P.Err e) = none

-- an observed class: average and variance in dits, and how many samples
pub record Class : Type 0 where
  pub mean : Float
  pub var : Float
  pub n : ℕ

-- the five, by their numbers; a class with no sample is absent
pub record Timing : Type 0 where
  pub dot : Option Class
  pub dash : Option Class
  pub element_gap : Option Class
  pub char_gap : Option Class
  pub word_gap : Option Class

-- the class of that name
abbrev pub at : TimingClass → Timing → Option Class
at Dot t = t.dot
at Dash t = t.dash
at ElementGap t = t.element_gap
at CharGap t = t.char_gap
at WordGap t = t.word_gap

-- the same with c in its place
abbrev pub put : TimingClass → Option Class → Timing → Timing
put Dot c t = record { dot = c; dash = t.dash; element_gap = t.element_gap; char_gap = t.char_gap; word_gap = t.word_gap }
put Dash c t = record { dot = t.dot; dash = c; element_gap = t.element_gap; char_gap = t.char_gap; word_gap = t.word_gap }
put ElementGap c t = record { dot = t.dot; dash = t.dash; element_gap = c; char_gap = t.char_gap; word_gap = t.word_gap }
put CharGap c t = record { dot = t.dot; dash = t.dash; element_gap = t.element_gap; char_gap = c; word_gap = t.word_gap }
put WordGap c t = record { dot = t.dot; dash = t.dash; element_gap = t.element_gap; char_gap = t.char_gap; word_gap = c }

-- ---- the view of the program's structs: "numbers marked absent are no part of a state"

abbrev pub sampled : Float → Float → ℕ → Option Class
sampled m v n = cond (eqb n 0) none (some (record { mean = m; var = v; n = n }))

abbrev pub view_class : ClassStats → Option Class
view_class s = sampled s.mean.0 s.var s.n

abbrev pub view : SenderTiming → Timing
view s = record {
  dot = view_class s.dot;
  dash = view_class s.dash;
  element_gap = view_class s.element_gap;
  char_gap = view_class s.char_gap;
  word_gap = view_class s.word_gap;
}

-- what an Option of the program holds, and the length in one
abbrev pub held : {A : Type 0} → P.Option A → Option A
held (P.Some x) = some x
held P.None = none

abbrev pub length_in : P.Option Dits → Option Float
length_in (P.Some x) = some x.0
length_in P.None = none

-- what is known of a class, where anything is
abbrev pub seen : P.Option ClassStats → Option Class
seen (P.Some c) = some (record { mean = c.mean.0; var = c.var; n = c.n })
seen P.None = none

-- a report's five classes
abbrev pub view_estimate : P.Option ClassEstimate → Option Class
view_estimate (P.Some e) = some (record { mean = e.mean_dits.0; var = e.var_dits2; n = e.n })
view_estimate P.None = none

abbrev pub view_estimates : TimingEstimates → Timing
view_estimates e = record {
  dot = view_estimate e.dot;
  dash = view_estimate e.dash;
  element_gap = view_estimate e.element_gap;
  char_gap = view_estimate e.char_gap;
  word_gap = view_estimate e.word_gap;
}

-- ---- the structs themselves

-- the Rust's `new`: every number is zero
abbrev pub blank_class : ClassStats
blank_class = record { mean = record { 0 = nought }; var = nought; n = 0 }

abbrev pub blank : SenderTiming
blank = record { dot = blank_class; dash = blank_class; element_gap = blank_class; char_gap = blank_class; word_gap = blank_class }

-- the statistics of a class, and those put in
abbrev pub stats_of : TimingClass → SenderTiming → ClassStats
stats_of Dot s = s.dot
stats_of Dash s = s.dash
stats_of ElementGap s = s.element_gap
stats_of CharGap s = s.char_gap
stats_of WordGap s = s.word_gap

abbrev pub with_stats : TimingClass → ClassStats → SenderTiming → SenderTiming
with_stats Dot c s = record { dot = c; dash = s.dash; element_gap = s.element_gap; char_gap = s.char_gap; word_gap = s.word_gap }
with_stats Dash c s = record { dot = s.dot; dash = c; element_gap = s.element_gap; char_gap = s.char_gap; word_gap = s.word_gap }
with_stats ElementGap c s = record { dot = s.dot; dash = s.dash; element_gap = c; char_gap = s.char_gap; word_gap = s.word_gap }
with_stats CharGap c s = record { dot = s.dot; dash = s.dash; element_gap = s.element_gap; char_gap = c; word_gap = s.word_gap }
with_stats WordGap c s = record { dot = s.dot; dash = s.dash; element_gap = s.element_gap; char_gap = s.char_gap; word_gap = c }
