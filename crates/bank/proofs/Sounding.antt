-- What the test of a bank says, and that a sturdy bank passes it. Assumes nothing.
use Rattle.std.proofs.Common.{
  ◌≡◌,
  ℕ,
  ◌+◌,
  ◌<◌,
  ◌≤◌,
  Bool,
  true,
  false,
  not,
  ◌&&◌,
  T,
  ltb,
  leb,
  List,
  [],
  ◌∷◌,
  length,
  get_or,
  take,
  sym,
  ◌∙◌,
  subst,
  add-one,
  arith,
  le→leb,
  ltb→lt,
  lt→ltb,
  leb→le,
  take_all,
  take-suc,
}
use Rattle.std.specs.Prelude as Given
use Rattle.std.specs.Prelude.{None, Some}
use Rattle.std.specs.List.{AllByRecursion}
use mathlib.Core.Bool.{false≢true}
use lib.Ieee.{Float}
use Rattle.ranges.specs.Settings.{standard}
use Rattle.ranges.specs.Limits.{nought, score_min, duration_min, duration_max}
use Rattle.ranges.specs.Interval.{In, AllIn}
use Rattle.ranges.proofs.Compare.{passed, in_within, within_in}
use Rattle.marks.specs.Lists.{all, duration, all_durations}
use Rattle.marks.proofs.Bounds.{both, durations_in, join}
use Rattle.marks.proofs.Testing.{Testing, test_begins, test_turns, test_fails, test_ends, not_left}
use Rattle.bank_model.specs.Departures.{widest}
use Rattle.bank_model.specs.declared.SwitchRecord.{SwitchRecord}
use Rattle.rival.specs.declared.TimingHypothesis.{TimingHypothesis}
use Rattle.rival.specs.Sound.{score, hyp_sound}
use Rattle.rival.specs.Parts.{Fit}
use Rattle.rival.proofs.Sounding.{fit_sound}
use Rattle.bank.specs.declared.TimingBank.{TimingBank}
use Rattle.bank.specs.Sturdy.{Recorded, Sturdy}
use Rattle.bank.specs.Sound.{
  record_sound,
  counted,
  width_sound,
  or_absent,
  pending_sound,
  gap_sound,
  streak_sound,
  primary_sound,
  rest_sound,
  sound,
}
use Rattle.bank.proofs.Lists.{all_none, all_append}

-- ---- a test of each, and a fact of each
module _ {A : Type 0} (p : A → Bool) (P : A → Type 0) where
  pub all_facts : ((x : A) → T (p x) → P x) → (l : List A) → T (all p l) → AllByRecursion P l
  all_facts f [] t = tt
  all_facts f (x ∷ xs) t = let b = both (p x) (all p xs) t in (f x b.0, all_facts f xs b.1)

  pub all_pass : ((x : A) → P x → T (p x)) → (l : List A) → AllByRecursion P l → T (all p l)
  all_pass f [] a = tt
  all_pass f (x ∷ xs) a = join (p x) (all p xs) (f x a.0) (all_pass f xs a.1)

in_durations : (l : List Float) → AllIn duration_min duration_max l → T (all_durations l)
unfolding AllIn
in_durations [] a = tt
in_durations (x ∷ xs) a =
    join (duration x) (all_durations xs) (in_within duration_min duration_max x a.0) (in_durations xs a.1)

-- ---- the loop over the challengers
module _ (l : List TimingHypothesis) where
  -- the first i passed, and are fit
  pub record Trying (i : ℕ) : Type 0 where
    pub test : Testing (hyp_sound standard) l i
    pub fine : AllByRecursion Fit (take i l)

  abbrev Tried : Bool → Type 0
  Tried r = (r ≡ all (hyp_sound standard) l) × (r ≡ true → AllByRecursion Fit l)

  pub try_begins : Trying 0
  try_begins = record { test = test_begins (hyp_sound standard) l; fine = all_none Fit }

  module _ (i : ℕ) (z : TimingHypothesis) (b : Bool) (h : i < length l) (k : Trying i) (e : (b
      ≡ hyp_sound standard (get_or l i z)) × (b ≡ true → Fit (get_or l i z))) where
    pub try_fails : not b ≡ true → Tried false
    try_fails t = (test_fails (hyp_sound standard) l i z b h k.test e.0 t, λ f. absurd (false≢true f))

    pub try_turns : not b ≡ false → Trying (i + 1)
    try_turns t = record {
      test = test_turns (hyp_sound standard) l i z b h k.test e.0 t;
      fine = subst (AllByRecursion Fit) (sym (rw add-one (take-suc l i z h)))
          (all_append Fit (take i l) (get_or l i z) k.fine (e.1 (not_left b t)));
    }

  pub try_ends : (i : ℕ) → length l ≤ i → Trying i → Tried true
  try_ends i h k =
      (test_ends (hyp_sound standard) l i h k.test, λ f. subst (AllByRecursion Fit) (take_all i l h) k.fine)

-- ---- parts of the test
recorded : (r : SwitchRecord) → T (record_sound r) → Recorded r
recorded r t =
    let b = both (duration r.from_dit_ms) (duration r.to_dit_ms) t in
    record {
      from = within_in duration_min duration_max r.from_dit_ms b.0;
      to =
          within_in duration_min duration_max r.to_dit_ms b.1;
    }

records : (r : SwitchRecord) → Recorded r → T (record_sound r)
records r d =
    join (duration r.from_dit_ms) (duration r.to_dit_ms) (in_within duration_min duration_max r.from_dit_ms d.from)
    (in_within duration_min duration_max r.to_dit_ms d.to)

gap_in : (gap : Given.Option Float) → T (gap_sound gap) → Given.IfSome gap (In duration_min duration_max)
gap_in None t = tt
gap_in (Some gap) t = within_in duration_min duration_max gap t

gap_of : (gap : Given.Option Float) → Given.IfSome gap (In duration_min duration_max) → T (gap_sound gap)
gap_of None f = tt
gap_of (Some gap) f = in_within duration_min duration_max gap f

abbrev below : ℕ → ℕ → Bool
below n i = ltb i n

pending_in : (o : Given.Option ℕ) (n : ℕ) → T (or_absent (below n) o) → Given.IfSome o (λ i. i < n)
pending_in None n t = tt
pending_in (Some i) n t = ltb→lt i n t

pending_of : (o : Given.Option ℕ) (n : ℕ) → Given.IfSome o (λ i. i < n) → T (or_absent (below n) o)
pending_of None n f = tt
pending_of (Some i) n f = lt→ltb i n f

module _ (b : TimingBank) where
  -- ---- its counts
  pub record Counts : Type 0 where
    pub crew : b.challengers_len ≤ widest
    pub streak : b.streak_len ≤ 4
    pub gaps : b.streak_gaps_len ≤ 4
    pub log : b.log_len ≤ 16

  abbrev c3 : Bool
  c3 = leb b.streak_gaps_len 4 && leb b.log_len 16

  abbrev c2 : Bool
  c2 = leb b.streak_len 4 && c3

  pub counts : T (counted widest b) → Counts
  counts t =
      let x = both (leb b.challengers_len widest) c2 t in
      let y = both (leb b.streak_len 4) c3 x.1 in
      let z = both (leb b.streak_gaps_len 4) (leb b.log_len 16) y.1 in
      record {
        crew = leb→le b.challengers_len widest x.0;
        streak = leb→le b.streak_len 4 y.0;
        gaps = leb→le b.streak_gaps_len 4 z.0;
        log = leb→le b.log_len 16 z.1;
      }

  -- ---- a bank that passes is sturdy
  abbrev marks : Bool
  marks = all_durations (take b.streak_len b.streak)

  abbrev gaps : Bool
  gaps = all_durations (take b.streak_gaps_len b.streak_gaps)

  abbrev held : Bool
  held = gap_sound b.last_gap

  abbrev log : Bool
  log = all record_sound (take b.log_len b.log)

  pub sturdy_of : length b.challengers ≡ widest → length b.streak ≡ 4 → length b.streak_gaps ≡ 4 → length b.log ≡ 16
      → T (counted widest b) → T (width_sound widest b) → AllByRecursion Fit (take b.challengers_len b.challengers) →
      T (rest_sound b) → Sturdy b
  sturdy_of lc ls lg ll t w f r =
      let n = counts t in
      let u = both (leb 1 b.width) (leb b.width widest && ltb b.challengers_len b.width) w in
      let v = both (leb b.width widest) (ltb b.challengers_len b.width) u.1 in
      let p = both (pending_sound b) (streak_sound b && (primary_sound b && log)) r in
      let q = both (streak_sound b) (primary_sound b && log) p.1 in
      let s = both (primary_sound b) log q.1 in
      let g = both (leb b.streak_gaps_len b.streak_len) (marks && (gaps && held)) q.0 in
      let h = both marks (gaps && held) g.1 in
      let i = both gaps held h.1 in
      let o = both (score b.primary_score) (score b.primary_gap_score) s.0 in
      record {
        wide_enough = leb→le 1 b.width u.0;
        wide = leb→le b.width widest v.0;
        below = ltb→lt b.challengers_len b.width v.1;
        crew = record { few = n.crew; long = lc; each = f };
        score = within_in score_min nought b.primary_score o.0;
        score_gap = within_in score_min nought b.primary_gap_score o.1;
        streaks = record {
          few = n.streak;
          paired = leb→le b.streak_gaps_len b.streak_len g.0;
          long = ls;
          gaps_long = lg;
          marks = durations_in (take b.streak_len b.streak) h.0;
          between = durations_in (take b.streak_gaps_len b.streak_gaps) i.0;
        };
        last_gap = gap_in b.last_gap i.1;
        log = record {
          few = n.log;
          long = ll;
          each =
              all_facts record_sound Recorded recorded (take b.log_len b.log) s.1;
        };
        pending = pending_in b.pending b.challengers_len p.0;
      }

  -- ---- and a sturdy bank passes
  counts_of : Sturdy b → T (counted widest b)
  counts_of s =
      let n = s.streaks.few in
      let m = s.streaks.paired in
      join (leb b.challengers_len widest) c2 (le→leb b.challengers_len widest s.crew.few)
      (join (leb b.streak_len 4) c3 (le→leb b.streak_len 4 n)
      (join (leb b.streak_gaps_len 4) (leb b.log_len 16) (le→leb b.streak_gaps_len 4 (omega arith))
      (le→leb b.log_len 16 s.log.few)))

  rest_of : Sturdy b → T (rest_sound b)
  rest_of s =
      join (pending_sound b) (streak_sound b && (primary_sound b && log))
      (pending_of b.pending b.challengers_len s.pending)
      (join (streak_sound b) (primary_sound b && log)
      (join (leb b.streak_gaps_len b.streak_len) (marks && (gaps && held))
      (le→leb b.streak_gaps_len b.streak_len s.streaks.paired)
      (join marks (gaps && held) (in_durations (take b.streak_len b.streak) s.streaks.marks)
      (join gaps held (in_durations (take b.streak_gaps_len b.streak_gaps) s.streaks.between)
      (gap_of b.last_gap s.last_gap))))
      (join (primary_sound b) log
      (join (score b.primary_score) (score b.primary_gap_score) (in_within score_min nought b.primary_score s.score)
      (in_within score_min nought b.primary_gap_score s.score_gap))
      (all_pass record_sound Recorded records (take b.log_len b.log) s.log.each)))

  pub sturdy_sound : Sturdy b → T (sound standard widest b)
  unfolding sound
  sturdy_sound s =
      let crew : Bool = all (hyp_sound standard) (take b.challengers_len b.challengers) in
      join (counted widest b) (width_sound widest b && (crew && rest_sound b)) (counts_of s)
      (join (width_sound widest b) (crew && rest_sound b)
      (join (leb 1 b.width) (leb b.width widest && ltb b.challengers_len b.width) (le→leb 1 b.width s.wide_enough)
      (join (leb b.width widest) (ltb b.challengers_len b.width) (le→leb b.width widest s.wide)
      (lt→ltb b.challengers_len b.width s.below)))
      (join crew (rest_sound b)
      (all_pass (hyp_sound standard) Fit fit_sound (take b.challengers_len b.challengers) s.crew.each) (rest_of s)))

-- ---- the test of a bank, from what its parts found
pub uncounted : (b : TimingBank) → counted widest b ≡ false → sound standard widest b ≡ false
unfolding sound
uncounted b t = rw t

pub narrow_not : (b : TimingBank) → counted widest b ≡ true → width_sound widest b ≡ false → sound standard widest b
    ≡ false
unfolding sound
narrow_not b t w = rw (t, w)

module _ (b : TimingBank) (r : Bool) (k : Tried (take b.challengers_len b.challengers) r) (t : counted widest b
    ≡ true) (w : width_sound widest b ≡ true) where
  abbrev Judged : Bool → Type 0
  Judged s = (s ≡ sound standard widest b) × (s ≡ true → Sturdy b)

  pub crew_not : r ≡ false → sound standard widest b ≡ false
  unfolding sound
  crew_not e = let g : all (hyp_sound standard) (take b.challengers_len b.challengers) ≡ false = sym k.0 ∙ e in
      rw (t, w, g)

  pub judged : (s : Bool) → length b.challengers ≡ widest → length b.streak ≡ 4 → length b.streak_gaps ≡ 4 →
      length b.log ≡ 16 → r ≡ true → s ≡ rest_sound b → Judged s
  unfolding sound
  judged s lc ls lg ll e q =
      let g : all (hyp_sound standard) (take b.challengers_len b.challengers) ≡ true = sym k.0 ∙ e in
      let j : rest_sound b
      ≡ (counted widest b
      && (width_sound widest b
      && (all (hyp_sound standard) (take b.challengers_len b.challengers) && rest_sound b))) = rw (t, w, g) in
      (q ∙ j, λ f. sturdy_of b lc ls lg ll (passed t) (passed w) (k.1 e) (passed (sym q ∙ f)))

-- what holds of a bank that is said not to be sound
pub judged_not : (b : TimingBank) → sound standard widest b ≡ false → (false ≡ sound standard widest b)
    × (false ≡ true → Sturdy b)
judged_not b e = (sym e, λ f. absurd (false≢true f))
