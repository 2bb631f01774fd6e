-- The marks of a list: the first bad one decides; and what a call has that no refusal meets. Assumes nothing.
use Rattle.std.proofs.Common.{
  ◌≡◌,
  ℕ,
  zero,
  suc,
  ◌+◌,
  ◌<◌,
  ◌≤◌,
  Bool,
  true,
  false,
  cond,
  not,
  ◌&&◌,
  ◌||◌,
  T,
  leb,
  List,
  [],
  ◌∷◌,
  length,
  get_or,
  drop,
  sym,
  refl,
  ◌∙◌,
  add-one,
  true≢false,
  leb→le,
  leb-false,
  arith,
  drop_of_length-le,
  drop-cons,
}
use Rattle.std.specs.Prelude.{is_some}
use mathlib.Core.Bool.{false≢true}
use lib.Ieee.{Float}
use Rattle.refusals.specs.Refusal.{number}
use Rattle.refusals.specs.declared.Refusal.{Refusal}
use Rattle.refusals.specs.declared.Refusal.TheVariants.{
  UnsoundState,
  FullCounts,
  TooWide,
  LongList,
  EndlessDuration,
  ShortDuration,
  LongDuration,
  BadSpeed,
  BadDit,
  NoLogarithm,
  NoRoot,
  BadLine,
}
use Rattle.ranges.specs.Limits.{duration_min, duration_max, duration_refusal}
use Rattle.ranges.specs.Interval.{AllIn}
use Rattle.ranges.specs.Settings.{standard}
use Rattle.ranges.proofs.Compare.{passed}
use Rattle.ranges.proofs.Door.{unrefused_in}
use Rattle.marks.specs.Lists.{duration}
use Rattle.marks.proofs.Bounds.{both}
use Rattle.tracker.specs.declared.SpeedTracker.{SpeedTracker}
use Rattle.tracker.specs.Sound as Tracking
use Rattle.tracker.proofs.Answering.{good_duration}
use Rattle.bank_model.specs.Departures.{widest}
use Rattle.bank.specs.declared.TimingBank.{TimingBank}
use Rattle.bank.specs.Parts.{Countable}
use Rattle.bank.specs.Sound.{sound}
use Rattle.bank.specs.Sturdy.{Sturdy}
use Rattle.bank.specs.Switching.{Chosen}
use Rattle.bank.specs.Answers.{
  full,
  count_then,
  choice_then,
  first,
  first_refusal,
  marks_refusal,
  both_then,
  heard_refusal,
  ready_refusal,
  switch_refusal,
}

first_zero : (m n : ℕ) → first m n ≡ 0 → (m ≡ 0) × (n ≡ 0)
first_zero zero n e = (refl, e)
first_zero (suc m) n e = absurd (omega arith)

good_marks : (l : List Float) → first_refusal l ≡ 0 → AllIn duration_min duration_max l
unfolding first_refusal AllIn
good_marks [] e = tt
good_marks (x ∷ xs) e = let z = first_zero (duration_refusal x) (first_refusal xs) e in
    (unrefused_in x z.0, good_marks xs z.1)

-- no refusal has number 0
pub some_number : (r : Refusal) → number r ≡ 0 → ⊥
some_number UnsoundState e = omega arith
some_number FullCounts e = omega arith
some_number TooWide e = omega arith
some_number LongList e = omega arith
some_number EndlessDuration e = omega arith
some_number ShortDuration e = omega arith
some_number LongDuration e = omega arith
some_number BadSpeed e = omega arith
some_number BadDit e = omega arith
some_number NoLogarithm e = omega arith
some_number NoRoot e = omega arith
some_number BadLine e = omega arith

-- the first i are good
module _ (l : List Float) where
  pub record Passing (i : ℕ) : Type 0 where
    pub upto : i ≤ length l
    pub is : first_refusal l ≡ first_refusal (drop i l)

  pub pass_begins : Passing 0
  pass_begins = record { upto = omega arith; is = refl }

  next : (i : ℕ) (z : Float) (n : ℕ) → i < length l → n ≡ duration_refusal (get_or l i z) → first_refusal (drop i l)
      ≡ first n (first_refusal (drop (suc i) l))
  unfolding first_refusal
  next i z n h e = rw (drop-cons l i z h, sym e)

  pub pass_turns : (i : ℕ) (z : Float) → i < length l → Passing i → 0 ≡ duration_refusal (get_or l i z) →
      Passing (i + 1)
  pass_turns i z h k e = record { upto = omega arith; is = k.is ∙ next i z 0 h e ∙ rw add-one }

  first_some : (n m : ℕ) → (n ≡ 0 → ⊥) → n ≡ first n m
  first_some zero m h = absurd (h refl)
  first_some (suc n) m h = refl

  pub pass_fails : (i : ℕ) (z : Float) (r : Refusal) → i < length l → Passing i → number r
      ≡ duration_refusal (get_or l i z) → number r ≡ first_refusal l
  pass_fails i z r h k e = first_some (number r) _ (some_number r) ∙ sym (k.is ∙ next i z (number r) h e)

  pub pass_ends : (i : ℕ) → length l ≤ i → Passing i → (0 ≡ first_refusal l) × AllIn duration_min duration_max l
  unfolding first_refusal
  pass_ends i h k =
      let e : first_refusal l ≡ 0 = k.is ∙ rw (drop_of_length-le l {i = i} h) in
      (sym e, good_marks l e)

-- ---- what a call has that no refusal meets

marks_good : (l : List Float) → marks_refusal l ≡ 0 → (length l ≤ 12) × AllIn duration_min duration_max l
marks_good l e = go (leb (length l) 12) refl e
  where
    go : (b : Bool) → leb (length l) 12 ≡ b → cond b (first_refusal l) 4 ≡ 0
        → (length l ≤ 12) × AllIn duration_min duration_max l
    go true h e = (leb→le (length l) 12 (passed h), good_marks l e)
    go false h e = absurd (omega arith)

cond_first : (b : Bool) (n m : ℕ) → cond b n (suc m) ≡ 0 → T b × (n ≡ 0)
cond_first true n m e = (tt, e)
cond_first false n m e = absurd (omega arith)

cond_second : (b : Bool) (n m : ℕ) → cond b (suc m) n ≡ 0 → (b ≡ false) × (n ≡ 0)
cond_second true n m e = absurd (omega arith)
cond_second false n m e = (refl, e)

neither : (a b : Bool) → (a || b) ≡ false → (a ≡ false) × (b ≡ false)
neither true b e = absurd (true≢false e)
neither false b e = (refl, e)

both_of : (b : TimingBank) (p : SpeedTracker) (n : ℕ) → both_then standard b p n ≡ 0
    → T (Tracking.sound standard p) × (n ≡ 0)
both_of b p n e =
    let c = cond_first (sound standard widest b && Tracking.sound standard p) n 0 e in
    ((both (sound standard widest b) (Tracking.sound standard p) c.0).1, c.1)

count_of : (b : TimingBank) (n : ℕ) → count_then b n ≡ 0 → Countable b × (n ≡ 0)
count_of b n e =
    let c = cond_second (full b.marks_seen b.gaps_seen) n 1 e in
    let d = neither (leb 4294967295 b.marks_seen) (leb 4294967295 b.gaps_seen) c.0 in
    (record { marks = leb-false 4294967295 b.marks_seen d.0; gaps = leb-false 4294967295 b.gaps_seen d.1 }, c.1)

choice_of : (b : TimingBank) (p : SpeedTracker) (n : ℕ) → choice_then b p n ≡ 0 → Chosen b p × (n ≡ 0)
choice_of b p n e =
    let c = cond_second (is_some b.pending && not p.pair.ready) n 0 e in
    (go (is_some b.pending) p.pair.ready c.0, c.1)
  where
    go : (a r : Bool) → (a && not r) ≡ false → a ≡ true → r ≡ true
    go true true e h = refl
    go true false e h = absurd (true≢false e)
    go false r e h = absurd (false≢true h)

pub heard_needs : (b : TimingBank) (p : SpeedTracker) (d : Float) (n : ℕ)
    → (n ≡ heard_refusal standard b p d) × (n ≡ 0 → Sturdy b) → n ≡ 0
    → (Sturdy b × Countable b) × (T (Tracking.sound standard p) × T (duration d))
heard_needs b p d n k z =
    let x = both_of b p (count_then b (duration_refusal d)) (sym k.0 ∙ z) in
    let y = count_of b (duration_refusal d) x.1 in
    ((k.1 z, y.0), (x.0, good_duration d y.1))

pub ready_needs : (b : TimingBank) (p : SpeedTracker) (l : List Float) (n : ℕ)
    → (n ≡ ready_refusal standard b p l) × (n ≡ 0 → Sturdy b) → n ≡ 0
    → Sturdy b × (T (Tracking.sound standard p) × ((length l ≤ 12) × AllIn duration_min duration_max l))
ready_needs b p l n k z =
    let x = both_of b p (count_then b (marks_refusal l)) (sym k.0 ∙ z) in
    let y = count_of b (marks_refusal l) x.1 in
    (k.1 z, (x.0, marks_good l y.1))

pub switch_needs : (b : TimingBank) (p : SpeedTracker) (n : ℕ)
    → (n ≡ switch_refusal standard b p) × (n ≡ 0 → Sturdy b) → n ≡ 0
    → Sturdy b × (T (Tracking.sound standard p) × Chosen b p)
switch_needs b p n k z =
    let x = both_of b p (choice_then b p (count_then b 0)) (sym k.0 ∙ z) in
    let y = choice_of b p (count_then b 0) x.1 in
    (k.1 z, (x.0, y.0))
