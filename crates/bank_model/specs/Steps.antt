-- What the calls of a bank do (document 01, "TimingBank" and the serials and departures of "Station"; the Rust's
-- `TimingBank`). Definitions only.
use Rattle.std.specs.Prelude.{
  Bool,
  true,
  false,
  cond,
  not,
  ◌&&◌,
  ◌||◌,
  List,
  [],
  ◌∷◌,
  ◌++◌,
  map,
  ℕ,
  zero,
  suc,
  ◌+◌,
  ◌<◌,
  length,
  set,
  ltb,
  leb,
  eqb,
  Float,
}
use Rattle.std.specs.Prelude as Searched
use Rattle.std.specs.Prelude.{None, Some}
use Rattle.std.specs.Bool.{beq}
use Rattle.std.proofs.Math.Option.{Option, none, some}
use Rattle.std.proofs.Math.ListN.{get_elem?}
use Rattle.std.specs.Float.{binary32}
use Rattle.std.specs.Float.Ieee.{mul, le}
use Rattle.order.specs.Order.{larger, total_less}
use Rattle.ranges.specs.Settings.{Settings}
use Rattle.marks.specs.Lists as Lists
use Rattle.tracker.specs.Model.{Tracker}
use Rattle.pair.specs.Lock.{boundary}
use Rattle.tracker.specs.Steps.{dit_estimate, element_gap, from_marks, three_to_one, settled}
use Rattle.tracker.specs.Steps as Tracking
use Rattle.bank_model.specs.declared.Origin.{Origin}
use Rattle.bank_model.specs.declared.Origin.TheVariants.{Bootstrap, Streak, FormerPrimary}
use Rattle.bank_model.specs.declared.Cause.{Cause}
use Rattle.bank_model.specs.declared.Cause.TheVariants.{Twin, Outscored, Aged, Replaced, Cleared}
use Rattle.bank_model.specs.declared.Departure.{Departure}
use Rattle.bank_model.specs.declared.SwitchRecord.{SwitchRecord}
use Rattle.bank_model.specs.Constants.{pause_dits}
use Rattle.bank_model.specs.Model.{
  Hyp,
  Evidence,
  Bank,
  Told,
  stay,
  and_then,
  up1,
  following,
  retained,
  ticked,
  with_challengers,
  with_new,
  with_evidence,
  with_last_gap,
}
use Rattle.bank_model.specs.Scores.{
  score_mark,
  score_gap,
  zero_score,
  ahead,
  behind,
  above,
  below,
  ln_dit,
  ln_dah,
  twins,
}

abbrev pub none_yet : Evidence
none_yet = record { streak = []; gaps = []; side = none; last_gap = none }

-- width 0 counts as 1
abbrev pub fresh_bank : ℕ → Bool → Bank
fresh_bank width switching = record {
  width = cond (leb 1 width) width 1;
  switching = switching;
  score = zero_score;
  gap_score = zero_score;
  challengers = [];
  evidence = none_yet;
  marks = 0;
  gaps = 0;
  pending = none;
  log = [];
  started = 0;
}

abbrev pub on : Bank → Bool
on b = leb 2 b.width

-- a bank that is off, or whose primary is not ready, hears nothing
abbrev pub hears : Bank → Tracker → Bool
hears b p = on b && p.pair.ready

-- ---- the places of the first least and of the first highest score among those that a test picks

-- the place of the best score found so far, and that score
abbrev pub Best : Type 0
Best = Searched.Option (ℕ × Float)

abbrev pub place : Best → Option ℕ
place None = none
place (Some f) = some f.0

-- what was found, if anything, is before place n
abbrev pub Before : ℕ → Best → Type 0
Before n None = Unit {0}
Before n (Some f) = f.0 < n

abbrev pub lesser : ℕ → Float → Best → Best
lesser i s None = Some (i, s)
lesser i s (Some f) = cond (below s f.1) (Some (i, s)) (Some f)

abbrev pub higher : ℕ → Float → Best → Best
higher i s None = Some (i, s)
higher i s (Some f) = cond (above s f.1) (Some (i, s)) (Some f)

unfoldable pub least_from : (Hyp → Bool) → ℕ → Best → List Hyp → Best
least_from q i acc [] = acc
least_from q i acc (h ∷ l) = least_from q (suc i) (cond (q h) (lesser i h.score acc) acc) l

unfoldable pub highest_from : (Hyp → Bool) → ℕ → Best → List Hyp → Best
highest_from q i acc [] = acc
highest_from q i acc (h ∷ l) = highest_from q (suc i) (cond (q h) (higher i h.score acc) acc) l

-- ---- `spawn`

-- a tracker with these logarithms duplicates one of these
unfoldable pub any_twin : Float → Float → List Hyp → Bool
any_twin lo hi [] = false
any_twin lo hi (h ∷ l) = twins lo hi (ln_dit h.tracker) (ln_dah h.tracker) || any_twin lo hi l

abbrev pub any_alike : Tracker → List Hyp → Bool
any_alike t l = any_twin (ln_dit t) (ln_dah t) l

-- it duplicates a live hypothesis; the primary has the logarithms lo and hi
abbrev pub duplicate_at : Bank → Float → Float → Tracker → Bool
duplicate_at b lo hi t = twins (ln_dit t) (ln_dah t) lo hi || any_alike t b.challengers

abbrev pub duplicate : Bank → Tracker → Tracker → Bool
duplicate b p t = duplicate_at b (ln_dit p) (ln_dah p) t

abbrev pub roomy : Bank → Bool
roomy b = ltb (length b.challengers + 1) b.width

abbrev pub newborn : Bank → Tracker → Origin → Hyp
newborn b t o = record {
  tracker = t;
  score = b.score;
  gap_score = b.gap_score;
  lead = 0;
  age = 0;
  origin = o;
  reported = false;
  serial = following b.started;
}

abbrev pub eligible : Hyp → Bool
eligible h = leb 8 h.age && not (retained h.origin)

abbrev pub victim : List Hyp → Option ℕ
victim l = place (least_from eligible 0 None l)

abbrev pub pushed : Bank → Hyp → Told
pushed b h = record { bank = with_new b (b.challengers ++ (h ∷ [])); left = [] }

abbrev pub replaced_by : Bank → Hyp → ℕ → Option Hyp → Told
replaced_by b h i none = stay b
replaced_by b h i (some v) = record {
  bank = with_new b (set b.challengers i h);
  left = record { serial = v.serial; cause = Replaced } ∷ [];
}

abbrev pub replacing : Bank → Hyp → Option ℕ → Told
replacing b h none = stay b
replacing b h (some i) = replaced_by b h i (get_elem? b.challengers i)

unfoldable pub spawned_at : Bank → Float → Float → Origin → Tracker → Told
spawned_at b lo hi o t =
    cond (duplicate_at b lo hi t) (stay b)
    (cond (roomy b) (pushed b (newborn b t o))
    (replacing b (newborn b t o) (victim b.challengers)))

abbrev pub spawned : Bank → Tracker → Origin → Tracker → Told
spawned b p o t = spawned_at b (ln_dit p) (ln_dah p) o t

abbrev pub spawned_if_at : Bank → Float → Float → Origin → Option Tracker → Told
spawned_if_at b lo hi o none = stay b
spawned_if_at b lo hi o (some t) = spawned_at b lo hi o t

abbrev pub spawned_if : Bank → Tracker → Origin → Option Tracker → Told
spawned_if b p o t = spawned_if_at b (ln_dit p) (ln_dah p) o t

-- ---- `on_ready`

-- the place of the first least of a list, by Rust's total order; its head has place i, and the least before it is at
-- place best
unfoldable pub first_least : ℕ → ℕ → Float → List Float → ℕ
first_least i best low [] = best
first_least i best low (x ∷ xs) =
    first_least (suc i) (cond (total_less x low) i best) (cond (total_less x low) x low) xs

unfoldable pub least_place : List Float → ℕ
least_place [] = 0
least_place (x ∷ xs) = first_least 1 0 x xs

-- all but the one at place i
unfoldable pub without : ℕ → List Float → List Float
without i [] = []
without zero (x ∷ xs) = xs
without (suc i) (x ∷ xs) = x ∷ without i xs

-- a lock whose dit is one mark of three or more; `other` asks it of a confirmed one (the fragment's shape)
abbrev pub lone : Tracker → List Float → Bool
lone p marks = eqb p.pair.lo_n 1 && leb 3 (length marks)

-- the other reading of a lock that may be wrong: three-to-one, or that of the marks without the first least
unfoldable pub other : Settings → Tracker → List Float → Option Tracker
other k p marks =
    cond p.pair.confirmed
    (cond (lone p marks) (some (from_marks k (without (least_place marks) marks) [])) none)
    (three_to_one k p)

unfoldable pub on_ready : Settings → Bank → Tracker → List Float → Told
on_ready k b p marks = cond (on b) (spawned_if b p Bootstrap (other k p marks)) (stay b)

-- ---- `on_mark`

-- a challenger is scored before it learns; protection is counted down
unfoldable pub marked : Settings → Float → Bool → Hyp → Hyp
marked k d live h = record {
  tracker = cond live (settled (Tracking.on_mark k h.tracker d)) h.tracker;
  score = score_mark h.score h.tracker d;
  gap_score = h.gap_score;
  lead = h.lead;
  age = up1 h.age;
  origin = ticked h.origin;
  reported = h.reported;
  serial = h.serial;
}

-- the held gap is taken out
abbrev pub scored : Settings → Bank → Tracker → Float → Bool → Bank
scored k b p d live = record {
  width = b.width;
  switching = b.switching;
  score = score_mark b.score p d;
  gap_score = b.gap_score;
  challengers = map (marked k d live) b.challengers;
  evidence = with_last_gap b.evidence none;
  marks = b.marks + 1;
  gaps = b.gaps;
  pending = b.pending;
  log = b.log;
  started = b.started;
}

abbrev pub same_side : Option Bool → Bool → Bool
same_side none side = false
same_side (some s) side = beq s side

abbrev pub one : Option Float → List Float
one none = []
one (some g) = g ∷ []

abbrev pub goes_on : Evidence → Bool → Bool
goes_on v side = same_side v.side side && ltb (length v.streak) 4

-- "Four live marks on one side make a candidate": the streak goes on, or begins anew
abbrev pub streak_on : Evidence → Bool → Float → Option Float → Evidence
streak_on v side d gap = record {
  streak = cond (goes_on v side) (v.streak ++ (d ∷ [])) (d ∷ []);
  gaps = cond (goes_on v side) (v.gaps ++ one gap) [];
  side = some side;
  last_gap = v.last_gap;
}

-- the side is kept after a candidate
abbrev pub emptied : Evidence → Evidence
emptied v = record { streak = []; gaps = []; side = v.side; last_gap = v.last_gap }

-- a twin of the primary is turned to its three-to-one reading, or dropped
-- (the primary has the logarithms lo and hi)
abbrev pub turned_if : Settings → Float → Float → Tracker → Option Tracker
turned_if k lo hi t = cond (twins (ln_dit t) (ln_dah t) lo hi) (three_to_one k t) (some t)

unfoldable pub candidate_at : Settings → Float → Float → Evidence → Option Tracker
candidate_at k lo hi v = turned_if k lo hi (from_marks k v.streak v.gaps)

abbrev pub candidate : Settings → Tracker → Evidence → Option Tracker
candidate k p v = candidate_at k (ln_dit p) (ln_dah p) v

abbrev pub short : Evidence → Bool
short v = ltb (length v.streak) 4

abbrev pub streak_end : Settings → Bank → Float → Float → Evidence → Told
streak_end k b lo hi v =
    cond (short v) (stay (with_evidence b v))
    (spawned_if_at (with_evidence b (emptied v)) lo hi Streak (candidate_at k lo hi v))

unfoldable pub streak_at : Settings → Bank → Float → Float → Bool → Float → Option Float → Told
streak_at k b lo hi side d gap = streak_end k b lo hi (streak_on b.evidence side d gap)

-- the mark is at the boundary or above it
abbrev pub high : Tracker → Float → Bool
high p d = le (boundary p.pair) d

abbrev pub streaked : Settings → Bank → Tracker → Float → Option Float → Told
streaked k b p d gap = streak_at k b (ln_dit p) (ln_dah p) (high p d) d gap

-- why a challenger leaves at `prune`, if it does
-- (the primary has the logarithms lo and hi)
unfoldable pub cause_at : Settings → Float → Float → Float → Hyp → Option Cause
cause_at k score lo hi h =
    cond (twins (ln_dit h.tracker) (ln_dah h.tracker) lo hi) (some Twin)
    (cond (retained h.origin) none
    (cond (behind k score h.score) (some Outscored)
    (cond (leb 64 h.age) (some Aged) none)))

abbrev pub cause : Settings → Float → Tracker → Hyp → Option Cause
cause k score p h = cause_at k score (ln_dit p) (ln_dah p) h

abbrev pub stay_if : Option Cause → Hyp → List Hyp → List Hyp
stay_if none h l = h ∷ l
stay_if (some c) h l = l

abbrev pub leave_if : Option Cause → Hyp → List Departure → List Departure
leave_if none h l = l
leave_if (some c) h l = record { serial = h.serial; cause = c } ∷ l

unfoldable pub staying : (Hyp → Option Cause) → List Hyp → List Hyp
staying f [] = []
staying f (h ∷ l) = stay_if (f h) h (staying f l)

unfoldable pub leaving : (Hyp → Option Cause) → List Hyp → List Departure
leaving f [] = []
leaving f (h ∷ l) = leave_if (f h) h (leaving f l)

unfoldable pub pruned_at : Settings → Float → Float → Bank → Told
pruned_at k lo hi b = record {
  bank = with_challengers b (staying (cause_at k b.score lo hi) b.challengers);
  left = leaving (cause_at k b.score lo hi) b.challengers;
}

abbrev pub pruned : Settings → Tracker → Bank → Told
pruned k p b = pruned_at k (ln_dit p) (ln_dah p) b

unfoldable pub led : Settings → Float → Hyp → Hyp
led k p h = record {
  tracker = h.tracker;
  score = h.score;
  gap_score = h.gap_score;
  lead = cond (ahead k h.score p) (up1 h.lead) 0;
  age = h.age;
  origin = h.origin;
  reported = cond (ahead k h.score p) h.reported false;
  serial = h.serial;
}

abbrev pub qualifies : Float → Hyp → Bool
qualifies gap_score h = leb 2 h.lead && (leb 2 h.age && above h.gap_score gap_score)

unfoldable pub qualified : Settings → Bank → Bank
qualified k b = record {
  width = b.width;
  switching = b.switching;
  score = b.score;
  gap_score = b.gap_score;
  challengers = map (led k b.score) b.challengers;
  evidence = b.evidence;
  marks = b.marks;
  gaps = b.gaps;
  pending = place (highest_from (qualifies b.gap_score) 0 None (map (led k b.score) b.challengers));
  log = b.log;
  started = b.started;
}

-- scored, and, if live, the streak's candidate put in
abbrev pub marked_told : Settings → Bank → Tracker → Float → Bool → Told
marked_told k b p d live =
    cond live (streaked k (scored k b p d live) p d b.evidence.last_gap) (stay (scored k b p d live))

abbrev pub leading : Settings → Told → Told
leading k t = record { bank = qualified k t.bank; left = t.left }

abbrev pub heard_mark : Settings → Bank → Tracker → Float → Bool → Told
heard_mark k b p d live = leading k (and_then (marked_told k b p d live) (pruned k p))

unfoldable pub on_mark : Settings → Bank → Tracker → Float → Bool → Told
on_mark k b p d live = cond (hears b p) (heard_mark k b p d live) (stay b)

-- ---- `on_gap`

-- a challenger hears it as an element gap, if it is below 2.0 of its dit estimates
unfoldable pub gapped : Settings → Float → Hyp → Hyp
gapped k d h = record {
  tracker = element_gap k h.tracker d;
  score = score_gap k h.score h.tracker d;
  gap_score = score_gap k h.gap_score h.tracker d;
  lead = h.lead;
  age = h.age;
  origin = h.origin;
  reported = h.reported;
  serial = h.serial;
}

abbrev pub heard_gap : Settings → Bank → Tracker → Float → Bank
heard_gap k b p d = record {
  width = b.width;
  switching = b.switching;
  score = score_gap k b.score p d;
  gap_score = score_gap k b.gap_score p d;
  challengers = map (gapped k d) b.challengers;
  evidence = with_last_gap b.evidence (some d);
  marks = b.marks;
  gaps = b.gaps + 1;
  pending = b.pending;
  log = b.log;
  started = b.started;
}

abbrev pub held_gap_out : Bank → Bank
held_gap_out b = with_evidence b (with_last_gap b.evidence none)

-- the greatest of u and the challengers' dit estimates
unfoldable pub greatest_unit : Settings → Float → List Hyp → Float
greatest_unit k u [] = u
greatest_unit k u (h ∷ l) = greatest_unit k (larger u (dit_estimate k h.tracker)) l

-- "A gap of 12 greatest units or more scores nothing and empties the held gap"
-- (the primary's unit is u)
unfoldable pub pausing_at : Settings → Bank → Float → Float → Bool
pausing_at k b u d = le (mul binary32 pause_dits (greatest_unit k u b.challengers)) d

abbrev pub pausing : Settings → Bank → Tracker → Float → Bool
pausing k b p d = pausing_at k b (dit_estimate k p) d

unfoldable pub on_gap : Settings → Bank → Tracker → Float → Bank
on_gap k b p d =
    cond (hears b p)
    (cond (pausing k b p d) (held_gap_out b) (heard_gap k b p d))
    b

-- ---- `clear`

abbrev pub cleared_out : Bank → Bank
cleared_out b = record {
  width = b.width;
  switching = b.switching;
  score = zero_score;
  gap_score = zero_score;
  challengers = [];
  evidence = none_yet;
  marks = b.marks;
  gaps = b.gaps;
  pending = none;  -- no choice outlives a clear
  log = b.log;
  started = b.started;
}

abbrev pub gone_cleared : Hyp → Departure
gone_cleared h = record { serial = h.serial; cause = Cleared }

unfoldable pub clear : Bank → Told
clear b = cond (on b) (record { bank = cleared_out b; left = map gone_cleared b.challengers }) (stay b)

-- ---- `take_switch`: the bank, the primary, its serial, and whether they were exchanged

pub record Taken : Type 0 where
  pub bank : Bank
  pub primary : Tracker
  pub serial : ℕ
  pub switched : Bool

-- the last 16
abbrev pub logged : List SwitchRecord → SwitchRecord → List SwitchRecord
logged l r = Lists.pushed 16 l r

abbrev pub formerly : Bank → Tracker → ℕ → Hyp
formerly b p serial = record {
  tracker = p;
  score = b.score;
  gap_score = b.gap_score;
  lead = 0;  -- it was no challenger at the last mark
  age = 0;  -- since it ceased to be primary
  origin = FormerPrimary 24;
  reported = false;
  serial = serial;
}

abbrev pub exchanged : Bank → Tracker → ℕ → ℕ → Hyp → Taken
exchanged b p serial i c = record {
  bank = record {
    width = b.width;
    switching = b.switching;
    score = c.score;
    gap_score = c.gap_score;
    challengers = set b.challengers i (formerly b p serial);
    evidence = record { streak = []; gaps = []; side = none; last_gap = b.evidence.last_gap };
    marks = b.marks;
    gaps = b.gaps;
    pending = none;  -- the choice was acted on
    log = logged b.log (record {
      mark_index = b.marks;
      from_dit_ms = p.pair.lo;
      to_dit_ms = c.tracker.pair.lo;
      applied =
          true;
    });
    started = b.started;
  };
  primary = settled c.tracker;
  serial = c.serial;  -- it travels with its tracker
  switched = true;
}

abbrev pub reporting : Hyp → Hyp
reporting h = record {
  tracker = h.tracker;
  score = h.score;
  gap_score = h.gap_score;
  lead = h.lead;
  age = h.age;
  origin = h.origin;
  reported = true;
  serial = h.serial;
}

abbrev pub unpended : Bank → List Hyp → List SwitchRecord → Bank
unpended b l log = record {
  width = b.width;
  switching = b.switching;
  score = b.score;
  gap_score = b.gap_score;
  challengers = l;
  evidence = b.evidence;
  marks = b.marks;
  gaps = b.gaps;
  pending = none;
  log = log;
  started = b.started;
}

-- only noted, and once a lead
abbrev pub observed : Bank → Tracker → ℕ → Hyp → Bank
observed b p i c =
    cond c.reported
    (unpended b b.challengers b.log)
    (unpended b (set b.challengers i (reporting c))
    (logged b.log (record {
      mark_index = b.marks;
      from_dit_ms = p.pair.lo;
      to_dit_ms = c.tracker.pair.lo;
      applied =
          false;
    })))

abbrev pub untaken : Bank → Tracker → ℕ → Taken
untaken b p serial = record { bank = b; primary = p; serial = serial; switched = false }

-- (a pending place that no challenger has is not found in a sound bank)
abbrev pub taken_at : Bank → Tracker → ℕ → ℕ → Option Hyp → Taken
taken_at b p serial i none = untaken (unpended b b.challengers b.log) p serial
taken_at b p serial i (some c) = cond b.switching (exchanged b p serial i c) (untaken (observed b p i c) p serial)

abbrev pub taken_of : Bank → Tracker → ℕ → Option ℕ → Taken
taken_of b p serial none = untaken b p serial
taken_of b p serial (some i) = taken_at b p serial i (get_elem? b.challengers i)

unfoldable pub take_switch : Bank → Tracker → ℕ → Taken
take_switch b p serial = cond (on b) (taken_of b p serial b.pending) (untaken b p serial)
