-- The log, and what a switch call makes of a bank. Assumes nothing.
use Rattle.std.proofs.Common.{
  ◌≡◌,
  ℕ,
  zero,
  suc,
  ◌+◌,
  ◌<◌,
  ◌≤◌,
  Bool,
  true,
  false,
  cond,
  T,
  leb,
  List,
  [],
  ◌∷◌,
  ◌++◌,
  map,
  length,
  get_or,
  take,
  drop,
  set,
  sym,
  refl,
  ap,
  ◌∙◌,
  subst,
  arith,
  length-append,
  length-drop,
  length-set,
  take_all,
}
use Rattle.std.specs.Prelude as Given
use Rattle.std.specs.Prelude.{None, Some, is_some}
use Rattle.std.specs.List.{AllByRecursion}
use mathlib.Core.Option.{Option, none, some}
use lib.ListN.{get_elem?}
use lib.Seq.{take-set-lt}
use lib.Ieee.{Float, le, of_bits}
use Rattle.ranges.specs.Settings.{standard}
use Rattle.ranges.specs.Limits.{nought, score_min, duration_min, duration_max}
use Rattle.ranges.specs.Interval.{In}
use Rattle.ranges.proofs.Interval.{in_widen}
use Rattle.tracker.specs.declared.SpeedTracker.{SpeedTracker}
use Rattle.tracker.specs.Model.{Tracker}
use Rattle.tracker.specs.Model as Tracked
use Rattle.tracker.specs.Steps.{settled}
use Rattle.tracker.specs.Parts.{unflagged}
use Rattle.tracker.specs.Sound.{sound}
use Rattle.tracker.proofs.Soundness.{sound_fine}
use Rattle.tracker.proofs.Stored.{unflagged_view}
use Rattle.pair.proofs.Soundness.{ready_in}
use Rattle.marks.proofs.Shifting.{push_room, push_full}
use Rattle.bank_model.specs.declared.SwitchRecord.{SwitchRecord}
use Rattle.bank_model.specs.Model.{Hyp, Bank}
use Rattle.bank_model.specs.Steps.{
  logged,
  formerly,
  exchanged,
  reporting,
  unpended,
  observed,
  untaken,
  taken_at,
  taken_of,
  take_switch,
}
use Rattle.bank_model.specs.Steps as Steps
use Rattle.rival.specs.declared.TimingHypothesis.{TimingHypothesis}
use Rattle.rival.proofs.Each.{refit}
use Rattle.bank.specs.declared.TimingBank.{TimingBank}
use Rattle.bank.specs.declared.inner.switch.Taken.{Taken}
use Rattle.rival.specs.View.{view_hyp}
use Rattle.pair.specs.Model.{held}
use Rattle.bank.specs.View.{view_all, view}
use Rattle.rival.specs.Parts.{Fit}
use Rattle.bank.specs.Streaks.{Streaks}
use Rattle.bank.specs.Sturdy.{Recorded, Log, Sturdy}
use Rattle.bank.specs.Parts.{with_log}
use Rattle.bank.specs.Switching.{taking, noting, moved_in, chosen_of, Took}
use Rattle.bank.proofs.Lists.{all_append, put_at_end, map_set, view_length, view_at}
use Rattle.bank.proofs.Stock.{room, member, crew_set}
use Rattle.bank.proofs.Coming.{elem}
use Rattle.bank.proofs.Emptying.{no_streak}

-- ---- the log
all_drop : {A : Type 0} (P : A → Type 0) (l : List A) → AllByRecursion P l → AllByRecursion P (drop 1 l)
all_drop P [] a = tt
all_drop P (x ∷ xs) a = a.1

-- the log l of n records means m
pub record Logging (l : List SwitchRecord) (n : ℕ) (m : List SwitchRecord) : Type 0 where
  pub log : Log l n
  pub is : take n l ≡ m

-- a log that was turned by one, and its last record set
last_set : {A : Type 0} (l : List A) (y x : A) (n : ℕ) → length l ≡ n → set (l ++ (y ∷ [])) n x ≡ l ++ (x ∷ [])
last_set [] y x zero h = refl
last_set [] y x (suc n) h = absurd (omega arith)
last_set (z ∷ l) y x zero h = absurd (omega arith)
last_set {A = A} (z ∷ l) y x (suc n) h = ap (λ (r : List A). z ∷ r) (last_set l y x n (omega arith))

turned : {A : Type 0} (l : List A) (x : A) (n : ℕ) → length l ≡ suc n → set (drop 1 l ++ take 1 l) n x ≡ drop 1 l
    ++ (x ∷ [])
turned [] x n h = absurd (omega arith)
turned (y ∷ l) x n h = last_set l y x n (omega arith)

module _ (l : List SwitchRecord) (n : ℕ) (e : SwitchRecord) (k : Log l n) (r : Recorded e) where
  pub log_room : n < 16 → Logging (set l n e) (n + 1) (logged (take n l) e)
  log_room h =
      let w = k.long in
      let end : take (n + 1) (set l n e) ≡ take n l ++ (e ∷ []) = put_at_end l n e (omega arith) in
      record {
        is = push_room 16 l n e (omega arith) h;
        log = record {
          few = omega arith;
          long = length-set l n e ∙ w;
          each =
              subst (AllByRecursion Recorded) (sym end) (all_append Recorded (take n l) e k.each r);
        };
      }

  pub log_full : 16 ≤ n → (s : List SwitchRecord) → s ≡ drop 1 l ++ take 1 l →
      Logging (set s 15 e) n (logged (take n l) e)
  log_full h s es =
      let w = k.long in
      let f = k.few in
      let t : set s 15 e ≡ drop 1 l ++ (e ∷ []) = ap (λ (x : List SwitchRecord). set x 15 e) es ∙ turned l e 15 w in
      let all : AllByRecursion Recorded l = subst (AllByRecursion Recorded) (take_all n l (omega arith)) k.each in
      let size : length (set s 15 e) ≡ 16 = ap length t ∙ simp (length-append, length-drop) (omega arith) in
      record {
        is = push_full 16 l (set s 15 e) n e w (omega arith) (omega arith) t;
        log = record {
          few = f;
          long = size;
          each =
              subst (AllByRecursion Recorded) (sym (take_all n (set s 15 e) (omega arith) ∙ t))
              (all_append Recorded (drop 1 l) e (all_drop Recorded l all) r);
        };
      }

-- a ready tracker's dit is a duration
dit_wide : (x : Float) → In standard.dit_min standard.dit_max x → In duration_min duration_max x
unfolding le of_bits
dit_wide x i = in_widen standard.dit_min standard.dit_max duration_min duration_max x tt tt i

pub dit_duration : (t : SpeedTracker) → T (sound standard t) → t.pair.ready ≡ true →
    In duration_min duration_max t.pair.lo
dit_duration t s u = dit_wide t.pair.lo (ready_in standard (Tracked.view t).pair u (sound_fine standard t s).pair).0

-- a bank with another log
abbrev pub relogged : TimingBank → List SwitchRecord → ℕ → TimingBank
relogged b l n = record {
  width = b.width;
  switching = b.switching;
  primary_score = b.primary_score;
  primary_gap_score = b.primary_gap_score;
  challengers = b.challengers;
  challengers_len = b.challengers_len;
  streak = b.streak;
  streak_len = b.streak_len;
  streak_gaps = b.streak_gaps;
  streak_gaps_len = b.streak_gaps_len;
  streak_side = b.streak_side;
  last_gap = b.last_gap;
  marks_seen = b.marks_seen;
  gaps_seen = b.gaps_seen;
  pending = b.pending;
  log = l;
  log_len = n;
  started = b.started;
}

module _ (b : TimingBank) (l : List SwitchRecord) (n : ℕ) (m : List SwitchRecord) (k : Logging l n m) where
  pub relogged_sturdy : Sturdy b → Sturdy (relogged b l n)
  relogged_sturdy s = record {
    wide_enough = s.wide_enough;
    wide = s.wide;
    below = s.below;
    crew = s.crew;
    score = s.score;
    score_gap = s.score_gap;
    streaks = s.streaks;
    last_gap = s.last_gap;
    log = k.log;
    pending = s.pending;
  }

  pub relogged_is : view (relogged b l n) ≡ with_log (view b) m
  relogged_is = ap (with_log (view b)) k.is

-- ---- the bank c with f at place i, and no choice
abbrev pub swapped : TimingBank → ℕ → TimingHypothesis → Float → Float → ℕ → ℕ → Given.Option Bool → TimingBank
swapped c i f s g n m side = record {
  width = c.width;
  switching = c.switching;
  primary_score = s;
  primary_gap_score = g;
  challengers = set c.challengers i f;
  challengers_len = c.challengers_len;
  streak = c.streak;
  streak_len = n;
  streak_gaps = c.streak_gaps;
  streak_gaps_len = m;
  streak_side = side;
  last_gap = c.last_gap;
  marks_seen = c.marks_seen;
  gaps_seen = c.gaps_seen;
  pending = None;
  log = c.log;
  log_len = c.log_len;
  started = c.started;
}

pub swapped_sturdy : (c : TimingBank) (i : ℕ) (f : TimingHypothesis) (s g : Float) (n m : ℕ)
    (side : Given.Option Bool) → Sturdy c → Fit f → In score_min nought s → In score_min nought g →
    Streaks c.streak n c.streak_gaps m → Sturdy (swapped c i f s g n m side)
swapped_sturdy c i f s g n m side y fit is ig k = record {
  wide_enough = y.wide_enough;
  wide = y.wide;
  below = y.below;
  crew = crew_set c.challengers_len c.challengers i f fit y.crew;
  score = is;
  score_gap = ig;
  streaks = k;
  last_gap = y.last_gap;
  log = y.log;
  pending = tt;
}

-- where a bank is as another but for its log, the one at place i stands there
module _ (b : TimingBank) (s : Sturdy b) (i : ℕ) (lt : i < b.challengers_len) (z : TimingHypothesis) where
  abbrev it : TimingHypothesis
  it = get_or b.challengers i z

  pub it_fit : Fit it
  it_fit = member b.challengers_len b.challengers i z lt s.crew

  there : i < length b.challengers
  there = let r = room b.challengers_len b.challengers s.crew in omega arith

  found : get_elem? (view b).challengers i ≡ some (view_hyp it)
  found =
      let v = view_length view_hyp b.challengers_len b.challengers (room b.challengers_len b.challengers s.crew) in
      elem (view b).challengers i (view_hyp z) (omega arith)
      ∙ ap some (view_at view_hyp b.challengers_len b.challengers i z lt)

  abbrev Rec : SpeedTracker → Bool → SwitchRecord
  Rec p a = record { mark_index = b.marks_seen; from_dit_ms = p.pair.lo; to_dit_ms = it.tracker.pair.lo; applied = a }

  pub recorded : (p : SpeedTracker) (a : Bool) → T (sound standard p) → p.pair.ready ≡ true → Recorded (Rec p a)
  recorded p a t r = let f = it_fit in
      record { from = dit_duration p t r; to = dit_duration it.tracker f.tracker f.ready }

  module _ (c : TimingBank) (y : Sturdy c) (lg : List SwitchRecord) (e : view c
      ≡ with_log (view b) lg) (f : TimingHypothesis) where
    placed : view_all c.challengers_len (set c.challengers i f) ≡ set (view c).challengers i (view_hyp f)
    placed =
        let v = view_length view_hyp b.challengers_len b.challengers (room b.challengers_len b.challengers s.crew) in
        let w = view_length view_hyp c.challengers_len c.challengers (room c.challengers_len c.challengers y.crew) in
        let k = ap (λ (m : Bank). length m.challengers) e in
        let h : i < c.challengers_len = omega arith in
        ap (map view_hyp) (take-set-lt c.challengers_len c.challengers i f h)
        ∙ map_set view_hyp (take c.challengers_len c.challengers) i f

    -- ---- exchanged
    abbrev m_out : Bank → List Hyp → Bank
    m_out m l = record {
      width = m.width;
      switching = m.switching;
      score = it.score;
      gap_score = it.gap_score;
      challengers = l;
      evidence = record { streak = []; gaps = []; side = none; last_gap = m.evidence.last_gap };
      marks = m.marks;
      gaps = m.gaps;
      pending = none;
      log = m.log;
      started = m.started;
    }

    abbrev out : TimingBank
    out = swapped c i f it.score it.gap_score 0 0 None

    pub out_sturdy : Fit f → Sturdy out
    out_sturdy fit =
        swapped_sturdy c i f it.score it.gap_score 0 0 None y fit it_fit.score it_fit.score_gap
        (no_streak c.streak c.streak_gaps y.streaks.long y.streaks.gaps_long)

    out_is : (h : Hyp) → view_hyp f ≡ h → view out ≡ m_out (with_log (view b) lg) (set (view b).challengers i h)
    out_is h eh =
        ap (m_out (view c)) (placed ∙ ap (set (view c).challengers i) eh)
        ∙ ap (λ (m : Bank). m_out m (set m.challengers i h)) e

    pub exchange_took : (p q : SpeedTracker) (serial : ℕ) (r : Taken) → lg ≡ logged (view b).log (Rec p true) →
        view_hyp f ≡ formerly (view b) (Tracked.view p) serial
        → q ≡ unflagged it.tracker → b.pending ≡ Some i → (view r.bank.bank ≡ view out)
        × ((r.primary.tracker ≡ q) × ((r.serial ≡ it.serial) × (r.switched ≡ true)))
        → Took b p r (taking exchanged (view b) (Tracked.view p) serial i (get_elem? (view b).challengers i))
    exchange_took p q serial r el ef eq ei er = record {
      is =
          ap (λ (m : Bank). record {
            bank = m;
            primary = Tracked.view r.primary.tracker;
            serial = r.serial;
            switched =
                r.switched;
          }) (er.0 ∙ out_is _ ef)
          ∙ ap (λ (l : List SwitchRecord). record {
            bank =
                m_out (with_log (view b) l) (set (view b).challengers i (formerly (view b) (Tracked.view p) serial));
            primary = Tracked.view r.primary.tracker;
            serial = r.serial;
            switched = r.switched;
          }) el
          ∙ ap (λ (m : Tracker). record {
            bank = m_out (with_log (view b) (logged (view b).log (Rec p true)))
                (set (view b).challengers i (formerly (view b) (Tracked.view p) serial));
            primary = m;
            serial = r.serial;
            switched = r.switched;
          })
          (ap Tracked.view er.1.0 ∙ unflagged_view q it.tracker eq)
          ∙ ap (λ (n : ℕ). record {
            bank = m_out (with_log (view b) (logged (view b).log (Rec p true)))
                (set (view b).challengers i (formerly (view b) (Tracked.view p) serial));
            primary = settled (Tracked.view it.tracker);
            serial = n;
            switched = r.switched;
          })
          er.1.1.0
          ∙ ap (λ (z : Bool). record {
            bank = m_out (with_log (view b) (logged (view b).log (Rec p true)))
                (set (view b).challengers i (formerly (view b) (Tracked.view p) serial));
            primary = settled (Tracked.view it.tracker);
            serial = it.serial;
            switched = z;
          })
          er.1.1.1
          ∙ ap (taking exchanged (view b) (Tracked.view p) serial i) (sym found);
      held =
          er.1.0 ∙ eq
          ∙ sym (ap (λ (o : Given.Option ℕ). moved_in p (chosen_of b.challengers o)) ei
          ∙ ap (moved_in p) (elem b.challengers i z there))
          ∙ ap (λ (x : Bool). cond x (moved_in p (chosen_of b.challengers b.pending)) p) (sym er.1.1.1);
    }

    -- ---- noted
    abbrev noting_by : Tracker → Bool → Bank
    noting_by p r =
        cond r (unpended (view b) (view b).challengers (view b).log)
        (unpended (view b) (set (view b).challengers i (reporting (view_hyp it)))
        (logged (view b).log (record {
          mark_index = b.marks_seen;
          from_dit_ms = p.pair.lo;
          to_dit_ms =
              it.tracker.pair.lo;
          applied = false;
        })))

    pub noted_is : (p : SpeedTracker) → it.reported ≡ false → lg ≡ logged (view b).log (Rec p false) → view_hyp f
        ≡ reporting (view_hyp it)
        → view (swapped c i f c.primary_score c.primary_gap_score c.streak_len c.streak_gaps_len c.streak_side)
        ≡ noting observed (view b) (Tracked.view p) i (get_elem? (view b).challengers i)
    noted_is p er el ef =
        ap (λ (l : List Hyp). unpended (view c) l (view c).log) (placed ∙ ap (set (view c).challengers i) ef)
        ∙ ap (λ (m : Bank). unpended m (set m.challengers i (reporting (view_hyp it))) m.log) e
        ∙ ap (λ (l : List SwitchRecord). unpended (view b) (set (view b).challengers i (reporting (view_hyp it))) l) el
        ∙ ap (noting_by (Tracked.view p)) (sym er) ∙ ap (noting observed (view b) (Tracked.view p) i) (sym found)

    pub noted_sturdy : (f.tracker ≡ it.tracker) × ((f.ln_lo ≡ it.ln_lo) × (f.ln_hi ≡ it.ln_hi)) → (f.score ≡ it.score)
        × (f.gap_score ≡ it.gap_score)
        → Sturdy (swapped c i f c.primary_score c.primary_gap_score c.streak_len c.streak_gaps_len c.streak_side)
    noted_sturdy et es =
        swapped_sturdy c i f c.primary_score c.primary_gap_score c.streak_len c.streak_gaps_len c.streak_side y
        (refit it f it_fit et.0 et.1.0 et.1.1 es.0 es.1) y.score y.score_gap y.streaks

  -- it was reported before
  pub again : (p : SpeedTracker) → it.reported ≡ true → unpended (view b) (view b).challengers (view b).log
      ≡ noting observed (view b) (Tracked.view p) i (get_elem? (view b).challengers i)
  again p er =
      ap (λ (r : Bool). cond r (unpended (view b) (view b).challengers (view b).log)
      (unpended (view b) (set (view b).challengers i (reporting (view_hyp it)))
      (logged (view b).log (Rec p false)))) (sym er)
      ∙ ap (noting observed (view b) (Tracked.view p) i) (sym found)

-- ---- the call
at_exchange : (b : Bank) (p : Tracker) (serial i : ℕ) (o : Option Hyp) → b.switching ≡ true →
    taking exchanged b p serial i o ≡ taken_at b p serial i o
at_exchange b p serial i none e = refl
at_exchange b p serial i (some c) e =
    ap (λ (z : Bool). cond z (exchanged b p serial i c) (untaken (observed b p i c) p serial)) (sym e)

at_observe : (b : Bank) (p : Tracker) (serial i : ℕ) (o : Option Hyp) → b.switching ≡ false →
    untaken (noting observed b p i o) p serial ≡ taken_at b p serial i o
at_observe b p serial i none e = refl
at_observe b p serial i (some c) e =
    ap (λ (z : Bool). cond z (exchanged b p serial i c) (untaken (observed b p i c) p serial)) (sym e)

module _ (b : TimingBank) (p : Tracker) (serial : ℕ) where
  abbrev m : Bank
  m = view b

  abbrev call : Bool → Option ℕ → Steps.Taken
  call w o = cond w (taken_of m p serial o) (untaken m p serial)

  call_is : (w : Bool) (o : Given.Option ℕ) → leb 2 b.width ≡ w → b.pending ≡ o → call w (held o)
      ≡ take_switch m p serial
  unfolding take_switch
  call_is w o ew eo =
      sym (ap (λ (z : Bool). call z (held b.pending)) ew ∙ ap (λ (z : Given.Option ℕ). call w (held z)) eo)

  module _ (i : ℕ) (ew : leb 2 b.width ≡ true) (ei : b.pending ≡ Some i) where
    pub call_exchange : b.switching ≡ true → taking exchanged m p serial i (get_elem? m.challengers i)
        ≡ take_switch m p serial
    call_exchange es = at_exchange m p serial i (get_elem? m.challengers i) es ∙ call_is true (Some i) ew ei

    pub call_observe : b.switching ≡ false → untaken (noting observed m p i (get_elem? m.challengers i)) p serial
        ≡ take_switch m p serial
    call_observe es = at_observe m p serial i (get_elem? m.challengers i) es ∙ call_is true (Some i) ew ei

  pub call_none : leb 2 b.width ≡ true → b.pending ≡ None → untaken m p serial ≡ take_switch m p serial
  call_none ew eo = call_is true None ew eo

  pub call_off : leb 2 b.width ≡ false → untaken m p serial ≡ take_switch m p serial
  call_off ew = call_is false b.pending ew refl

pub took_as : (b : TimingBank) (p : SpeedTracker) (r : Taken) (m m' : Steps.Taken) → m ≡ m' → Took b p r m →
    Took b p r m'
took_as b p r m m' e k = subst (Took b p r) e k
