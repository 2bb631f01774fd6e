-- What a bank means: challengers, streak and log as lists, and what may be absent (document 01, "TimingBank").
-- Definitions only.
use Rattle.std.specs.Prelude.{Bool, false, cond, List, [], ◌++◌, ℕ, ◌+◌, ◌-◌, ◌%◌, ◌^◌, ltb, Float}
use Rattle.std.proofs.Math.Option.{Option}
use Rattle.tracker.specs.Model.{Tracker}
use Rattle.bank_model.specs.declared.Origin.{Origin}
use Rattle.bank_model.specs.declared.Origin.TheVariants.{Bootstrap, Streak, FormerPrimary}
use Rattle.bank_model.specs.declared.SwitchRecord.{SwitchRecord}
use Rattle.bank_model.specs.declared.Departure.{Departure}

-- a challenger (`TimingHypothesis`); its logarithms are those of its tracker, and so no part of it
pub record Hyp : Type 0 where
  pub tracker : Tracker
  pub score : Float
  pub gap_score : Float
  pub lead : ℕ
  pub age : ℕ
  pub origin : Origin
  pub reported : Bool
  pub serial : ℕ

-- the marks on one side of the boundary, the gaps between them, the side, and the gap before the next mark
pub record Evidence : Type 0 where
  pub streak : List Float
  pub gaps : List Float
  pub side : Option Bool
  pub last_gap : Option Float

-- `TimingBank`: scores are the primary's; started counts the hypotheses that `spawn` put in
pub record Bank : Type 0 where
  pub width : ℕ
  pub switching : Bool
  pub score : Float
  pub gap_score : Float
  pub challengers : List Hyp
  pub evidence : Evidence
  pub marks : ℕ
  pub gaps : ℕ
  pub pending : Option ℕ
  pub log : List SwitchRecord
  pub started : ℕ

-- a bank after a call, and those that left it in the call
pub record Told : Type 0 where
  pub bank : Bank
  pub left : List Departure

abbrev pub stay : Bank → Told
stay b = record { bank = b; left = [] }

abbrev pub and_then : Told → (Bank → Told) → Told
and_then t f = record { bank = (f t.bank).bank; left = t.left ++ (f t.bank).left }

-- ---- counts

-- one more, or as it is at the largest u32
abbrev pub up1 : ℕ → ℕ
up1 n = cond (ltb n 4294967295) (n + 1) n

-- the serial after n; it wraps
abbrev pub following : ℕ → ℕ
following n = (n + 1) % 2 ^ 64

-- a former primary with marks of protection left
abbrev pub retained : Origin → Bool
retained Bootstrap = false
retained Streak = false
retained (FormerPrimary n) = ltb 0 n

-- one mark of protection less
abbrev pub ticked : Origin → Origin
ticked Bootstrap = Bootstrap
ticked Streak = Streak
ticked (FormerPrimary n) = FormerPrimary (n - 1)

-- ---- one part changed

abbrev pub with_tracker : Hyp → Tracker → Hyp
with_tracker h t = record {
  tracker = t;
  score = h.score;
  gap_score = h.gap_score;
  lead = h.lead;
  age = h.age;
  origin = h.origin;
  reported = h.reported;
  serial = h.serial;
}

abbrev pub with_challengers : Bank → List Hyp → Bank
with_challengers b l = record {
  width = b.width;
  switching = b.switching;
  score = b.score;
  gap_score = b.gap_score;
  challengers = l;
  evidence = b.evidence;
  marks = b.marks;
  gaps = b.gaps;
  pending = b.pending;
  log = b.log;
  started = b.started;
}

-- with one more started
abbrev pub with_new : Bank → List Hyp → Bank
with_new b l = record {
  width = b.width;
  switching = b.switching;
  score = b.score;
  gap_score = b.gap_score;
  challengers = l;
  evidence = b.evidence;
  marks = b.marks;
  gaps = b.gaps;
  pending = b.pending;
  log = b.log;
  started = following b.started;
}

abbrev pub with_evidence : Bank → Evidence → Bank
with_evidence b v = record {
  width = b.width;
  switching = b.switching;
  score = b.score;
  gap_score = b.gap_score;
  challengers = b.challengers;
  evidence = v;
  marks = b.marks;
  gaps = b.gaps;
  pending = b.pending;
  log = b.log;
  started = b.started;
}

abbrev pub with_last_gap : Evidence → Option Float → Evidence
with_last_gap v g = record { streak = v.streak; gaps = v.gaps; side = v.side; last_gap = g }
