-- The streak and its candidate. Assumes nothing.
use Rattle.std.proofs.Common.{
  ◌≡◌,
  ℕ,
  ◌+◌,
  ◌<◌,
  ◌≤◌,
  Bool,
  true,
  false,
  cond,
  ◌&&◌,
  ltb,
  List,
  [],
  ◌∷◌,
  ◌++◌,
  length,
  take,
  set,
  sym,
  refl,
  ap,
  ◌∙◌,
  subst,
  arith,
  length-set,
  length-take-le,
  le-ltb,
  lt-ltb,
  ltb→lt,
}
use Rattle.std.specs.Prelude as Given
use Rattle.std.specs.Prelude.{None, Some}
use mathlib.Core.Bool.{false≢true}
use mathlib.Core.Option.{Option, none, some}
use lib.Ieee.{Float}
use Rattle.ranges.specs.Settings.{standard}
use Rattle.ranges.specs.Limits.{duration_min, duration_max}
use Rattle.ranges.specs.Interval.{In, AllIn}
use Rattle.ranges.proofs.Compare.{passed}
use Rattle.tracker.specs.declared.SpeedTracker.{SpeedTracker}
use Rattle.tracker.specs.Model.{Tracker}
use Rattle.tracker.specs.Model as Tracked
use Rattle.tracker.specs.Steps.{from_marks, three_to_one}
use Rattle.bank_model.specs.declared.Origin.TheVariants.{Streak}
use Rattle.bank_model.specs.declared.logs.LogPair.{LogPair}
use Rattle.bank_model.specs.Model.{Evidence, Bank, Told, stay, with_evidence}
use Rattle.bank_model.specs.Scores.{ln_dit, ln_dah, twins}
use Rattle.bank_model.specs.Steps.{
  one,
  same_side,
  goes_on,
  streak_on,
  emptied,
  short,
  turned_if,
  candidate_at,
  spawned_if_at,
  streak_at,
}
use Rattle.bank_model.proofs.Ready.{from_ready, turned_ready}
use Rattle.bank.specs.declared.TimingBank.{TimingBank}
use Rattle.bank.specs.declared.run.Run.{Run}
use Rattle.bank.specs.View.{view}
use Rattle.bank.specs.Streaks.{Streaks}
use Rattle.bank.specs.Sturdy.{Sturdy}
use Rattle.bank.specs.Beats.{Runs}
use Rattle.bank.proofs.Lists.{put_at_end, append-nil}

-- a bank with another streak
abbrev pub stroke : TimingBank → List Float → ℕ → List Float → ℕ → Given.Option Bool → TimingBank
stroke b streak n gaps m side = record {
  width = b.width;
  switching = b.switching;
  primary_score = b.primary_score;
  primary_gap_score = b.primary_gap_score;
  challengers = b.challengers;
  challengers_len = b.challengers_len;
  streak = streak;
  streak_len = n;
  streak_gaps = gaps;
  streak_gaps_len = m;
  streak_side = side;
  last_gap = b.last_gap;
  marks_seen = b.marks_seen;
  gaps_seen = b.gaps_seen;
  pending = b.pending;
  log = b.log;
  log_len = b.log_len;
  started = b.started;
}

append_in : (lo hi : Float) (l : List Float) (x : Float) → AllIn lo hi l → In lo hi x → AllIn lo hi (l ++ (x ∷ []))
unfolding AllIn
append_in lo hi [] x a i = (i, tt)
append_in lo hi (y ∷ ys) x a i = (a.0, append_in lo hi ys x a.1 i)

none_in : (lo hi : Float) → AllIn lo hi []
unfolding AllIn
none_in lo hi = tt

abbrev Long : List Float → Type 0
Long l = AllIn duration_min duration_max l

put_in : (l : List Float) (n : ℕ) (x : Float) → n < length l → Long (take n l) → In duration_min duration_max x →
    Long (take (n + 1) (set l n x))
put_in l n x h a i = subst Long (sym (put_at_end l n x h)) (append_in duration_min duration_max (take n l) x a i)

first : (l : List Float) (d : Float) → 0 < length l → take 1 (set l 0 d) ≡ d ∷ []
first [] d h = absurd (omega arith)
first (x ∷ xs) d h = refl

module _ (b : TimingBank) (s : Sturdy b) where
  pub stroke_sturdy : (streak : List Float) (n : ℕ) (gaps : List Float) (m : ℕ) (side : Given.Option Bool) →
      Streaks streak n gaps m → Sturdy (stroke b streak n gaps m side)
  stroke_sturdy streak n gaps m side k = record {
    wide_enough = s.wide_enough;
    wide = s.wide;
    below = s.below;
    crew = s.crew;
    score = s.score;
    score_gap = s.score_gap;
    streaks = k;
    last_gap = s.last_gap;
    log = s.log;
    pending = s.pending;
  }

  -- ---- whether it goes on
  pub size : length (view b).evidence.streak ≡ b.streak_len
  size = let k = s.streaks.few in let l = s.streaks.long in length-take-le b.streak_len b.streak (omega arith)

  yes_short : (a c : Bool) → (a && c) ≡ true → c ≡ true
  yes_short true c e = e
  yes_short false c e = absurd (false≢true e)

  module _ (side : Bool) (d : Float) (i : In duration_min duration_max d) where
    abbrev v : Evidence
    v = (view b).evidence

    abbrev n : ℕ
    n = b.streak_len

    abbrev m : ℕ
    m = b.streak_gaps_len

    -- it begins
    pub begun_streaks : Streaks (set b.streak 0 d) 1 b.streak_gaps 0
    begun_streaks =
        let l = s.streaks.long in
        let e = first b.streak d (omega arith) in
        record {
          few = omega arith;
          paired = omega arith;
          long = length-set b.streak 0 d ∙ l;
          gaps_long =
              s.streaks.gaps_long;
          marks =
              subst Long (sym e) (append_in duration_min duration_max [] d (none_in duration_min duration_max) i);
          between = none_in duration_min duration_max;
        }

    pub begun : (gap : Option Float) (r : Run) → goes_on v side ≡ false → take r.marks_len r.marks
        ≡ take 1 (set b.streak 0 d) → take r.gaps_len r.gaps ≡ [] → Runs v side d gap r
    begun gap r e em eg =
        let l = s.streaks.long in
        record {
          marks = em ∙ first b.streak d (omega arith)
              ∙ ap (λ (z : Bool). cond z (v.streak ++ (d ∷ [])) (d ∷ [])) (sym e);
          gaps = eg ∙ ap (λ (z : Bool). cond z (v.gaps ++ one gap) []) (sym e);
        }

    -- it goes on
    module _ (e : goes_on v side ≡ true) where
      pub room : n < 4
      room = ltb→lt n 4 (passed (ap (λ (z : ℕ). ltb z 4) (sym size) ∙ yes_short (same_side v.side side) _ e))

      pub gaps_room : m < 4
      gaps_room = let k = s.streaks.paired in let r = room in omega arith

      put_mark : take (n + 1) (set b.streak n d) ≡ v.streak ++ (d ∷ [])
      put_mark = let r = room in let l = s.streaks.long in put_at_end b.streak n d (omega arith)

      pub longer : Streaks (set b.streak n d) (n + 1) b.streak_gaps m
      longer =
          let k = s.streaks in
          let p = k.paired in
          let l = k.long in
          let r = room in
          record {
            few = omega arith;
            paired = omega arith;
            long = length-set b.streak n d ∙ l;
            gaps_long = k.gaps_long;
            marks = put_in b.streak n d (omega arith) k.marks i;
            between = k.between;
          }

      pub longer_by : (g : Float) → In duration_min duration_max g →
          Streaks (set b.streak n d) (n + 1) (set b.streak_gaps m g) (m + 1)
      longer_by g j =
          let k = s.streaks in
          let p = k.paired in
          let l = k.gaps_long in
          let r = room in
          record {
            few = omega arith;
            paired = omega arith;
            long = longer.long;
            gaps_long = length-set b.streak_gaps m g
                ∙ l;
            marks = longer.marks;
            between = put_in b.streak_gaps m g (omega arith) k.between j;
          }

      went_on : (gap : Option Float) (r : Run) → take r.marks_len r.marks ≡ take (n + 1) (set b.streak n d) →
          take r.gaps_len r.gaps ≡ v.gaps ++ one gap → Runs v side d gap r
      went_on gap r em eg = record {
        marks = em ∙ put_mark ∙ ap (λ (z : Bool). cond z (v.streak ++ (d ∷ [])) (d ∷ [])) (sym e);
        gaps = eg ∙ ap (λ (z : Bool). cond z (v.gaps ++ one gap) []) (sym e);
      }

      pub went_alone : (r : Run) → take r.marks_len r.marks ≡ take (n + 1) (set b.streak n d) → take r.gaps_len r.gaps
          ≡ v.gaps → Runs v side d none r
      went_alone r em eg = went_on none r em (eg ∙ sym (append-nil v.gaps))

      pub went_by : (g : Float) (r : Run) → take r.marks_len r.marks ≡ take (n + 1) (set b.streak n d) →
          take r.gaps_len r.gaps ≡ take (m + 1) (set b.streak_gaps m g) → Runs v side d (some g) r
      went_by g r em eg = let k = gaps_room in let l = s.streaks.gaps_long in
          went_on (some g) r em (eg ∙ put_at_end b.streak_gaps m g (omega arith))

  pub emptied_sturdy : Sturdy (stroke b b.streak 0 b.streak_gaps 0 b.streak_side)
  emptied_sturdy =
      stroke_sturdy b.streak 0 b.streak_gaps 0 b.streak_side (record {
        few = omega arith;
        paired = omega arith;
        long =
            s.streaks.long;
        gaps_long = s.streaks.gaps_long;
        marks = none_in duration_min duration_max;
        between =
            none_in duration_min duration_max;
      })

  pub short_yes : b.streak_len < 4 → short (view b).evidence ≡ true
  short_yes h = let k = size in lt-ltb (length (view b).evidence.streak) 4 (omega arith)

  pub short_no : 4 ≤ b.streak_len → short (view b).evidence ≡ false
  short_no h = let k = size in le-ltb (length (view b).evidence.streak) 4 (omega arith)

-- the streak after a mark, in the bank
pub grown : (b : TimingBank) (side : Bool) (d : Float) (gap : Option Float) (r : Run) →
    Runs (view b).evidence side d gap r
    → view (stroke b r.marks r.marks_len r.gaps r.gaps_len (Some side))
    ≡ with_evidence (view b) (streak_on (view b).evidence side d gap)
grown b side d gap r k =
    ap (λ (l : List Float). with_evidence (view b) (record {
      streak = l;
      gaps = take r.gaps_len r.gaps;
      side =
          some side;
      last_gap = (view b).evidence.last_gap;
    })) k.marks
    ∙ ap (λ (l : List Float). with_evidence (view b) (record {
      streak = (streak_on (view b).evidence side d gap).streak;
      gaps = l;
      side = some side;
      last_gap = (view b).evidence.last_gap;
    })) k.gaps

-- ---- the candidate
module _ (lo hi : Float) (v : Evidence) (t : SpeedTracker) (l : LogPair) (et : Tracked.view t
    ≡ from_marks standard v.streak v.gaps) (el : (l.lo ≡ ln_dit (Tracked.view t))
    × (l.hi ≡ ln_dah (Tracked.view t))) (p : Bool) (ep : p ≡ twins l.lo l.hi lo hi) where
  twin : twins (ln_dit (Tracked.view t)) (ln_dah (Tracked.view t)) lo hi ≡ p
  twin = sym (ep ∙ ap (λ (x : Float). twins x l.hi lo hi) el.0
      ∙ ap (λ (x : Float). twins (ln_dit (Tracked.view t)) x lo hi) el.1)

  abbrev by : Bool → Tracker → Option Tracker
  by z m = cond z (three_to_one standard m) (some m)

  pub candidate_is : (r : Option Tracker) → r ≡ by p (Tracked.view t) → r ≡ candidate_at standard lo hi v
  unfolding candidate_at
  candidate_is r e = e ∙ ap (λ (z : Bool). by z (Tracked.view t)) (sym twin) ∙ ap (turned_if standard lo hi) et

pub marks_ready : (t : SpeedTracker) (l g : List Float) → Tracked.view t ≡ from_marks standard l g → t.pair.ready ≡ true
marks_ready t l g e = ap (λ (m : Tracker). m.pair.ready) e ∙ from_ready l g

abbrev pick : Tracker → Option Tracker → Tracker
pick d none = d
pick d (some x) = x

ready_by : (m : Tracker) (z : Bool) (r : Tracker) → m.pair.ready ≡ true → cond z (three_to_one standard m) (some m)
    ≡ some r → r.pair.ready ≡ true
ready_by m true r h e = turned_ready standard m r e
ready_by m false r h e = subst (λ (x : Tracker). x.pair.ready ≡ true) (ap (pick m) e) h

pub candidate_ready : (lo hi : Float) (v : Evidence) (t : SpeedTracker) → some (Tracked.view t)
    ≡ candidate_at standard lo hi v → t.pair.ready ≡ true
unfolding candidate_at
candidate_ready lo hi v t o =
    ready_by (from_marks standard v.streak v.gaps)
    (twins (ln_dit (from_marks standard v.streak v.gaps)) (ln_dah (from_marks standard v.streak v.gaps)) lo hi)
    (Tracked.view t) (from_ready v.streak v.gaps) (sym o)

-- ---- the whole step: c has the streak after the mark
module _ (b c : TimingBank) (lo hi : Float) (side : Bool) (d : Float) (gap : Option Float) (ec : view c
    ≡ with_evidence (view b) (streak_on (view b).evidence side d gap)) where
  abbrev w : Evidence
  w = streak_on (view b).evidence side d gap

  abbrev end : Bool → Option Tracker → Told
  end z k = cond z (stay (with_evidence (view b) w)) (spawned_if_at (with_evidence (view b) (emptied w)) lo hi Streak k)

  pub short_told : short (view c).evidence ≡ true → stay (view c) ≡ streak_at standard (view b) lo hi side d gap
  unfolding streak_at
  short_told h =
      ap stay ec ∙ ap (λ (z : Bool). end z (candidate_at standard lo hi w))
      (sym (ap (λ (m : Bank). short m.evidence) (sym ec) ∙ h))

  pub long_told : (e : TimingBank) (k : Option Tracker) → short (view c).evidence ≡ false → view e
      ≡ with_evidence (view c) (emptied (view c).evidence) → k ≡ candidate_at standard lo hi (view c).evidence
      → spawned_if_at (view e) lo hi Streak k ≡ streak_at standard (view b) lo hi side d gap
  unfolding streak_at
  long_told e k h ee ek =
      ap (λ (m : Bank). spawned_if_at m lo hi Streak k) (ee
      ∙ ap (λ (m : Bank). with_evidence m (emptied m.evidence)) ec)
      ∙ ap (spawned_if_at (with_evidence (view b) (emptied w)) lo hi Streak) (ek
      ∙ ap (λ (m : Bank). candidate_at standard lo hi m.evidence) ec)
      ∙ ap (λ (z : Bool). end z (candidate_at standard lo hi w)) (sym (ap (λ (m : Bank). short m.evidence) (sym ec)
      ∙ h))
