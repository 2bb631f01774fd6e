-- A challenger in the place of another, and the choices of `spawn`. Assumes nothing.
use Rattle.std.proofs.Common.{
  ◌≡◌,
  ℕ,
  zero,
  suc,
  ◌+◌,
  ◌<◌,
  ◌≤◌,
  Bool,
  true,
  false,
  cond,
  ◌||◌,
  List,
  [],
  ◌∷◌,
  map,
  length,
  get_or,
  take,
  set,
  sym,
  refl,
  ap,
  ◌∙◌,
  subst,
  arith,
  le-ltb,
  lt-ltb,
}
use Rattle.std.specs.Prelude.{None}
use mathlib.Core.Option.{some}
use lib.ListN.{get_elem?}
use lib.Seq.{take-set-lt}
use lib.Ieee.{Float}
use Rattle.tracker.specs.Model.{Tracker}
use Rattle.bank_model.specs.declared.Origin.{Origin}
use Rattle.bank_model.specs.declared.Cause.TheVariants.{Replaced}
use Rattle.bank_model.specs.declared.Departure.{Departure}
use Rattle.bank_model.specs.declared.logs.LogPair.{LogPair}
use Rattle.bank_model.specs.Model.{Hyp, Told, stay, following, with_new}
use Rattle.bank_model.specs.Scores.{ln_dit, ln_dah, twins}
use Rattle.bank_model.specs.Steps.{
  Best,
  Before,
  any_twin,
  newborn,
  pushed,
  replaced_by,
  replacing,
  victim,
  eligible,
  least_from,
  roomy,
  spawned_at,
}
use Rattle.bank_model.proofs.Places.{least_before}
use Rattle.rival.specs.declared.TimingHypothesis.{TimingHypothesis}
use Rattle.rival.specs.View.{view_hyp}
use Rattle.rival.specs.Parts.{Fit}
use Rattle.bank.specs.declared.TimingBank.{TimingBank}
use Rattle.bank.specs.View.{view_all, view}
use Rattle.bank.specs.Sturdy.{Sturdy}
use Rattle.bank.proofs.Lists.{map_set, view_length, view_at}
use Rattle.bank.proofs.Stock.{room, crew_set}

pub elem : {A : Type 0} (l : List A) (i : ℕ) (z : A) → i < length l → get_elem? l i ≡ some (get_or l i z)
elem [] i z h = absurd (omega arith)
elem (x ∷ xs) zero z h = refl
elem (x ∷ xs) (suc i) z h = elem xs i z (omega arith)

-- a bank with other challengers, one more started
abbrev pub enrolled : TimingBank → List TimingHypothesis → ℕ → TimingBank
enrolled b l started = record {
  width = b.width;
  switching = b.switching;
  primary_score = b.primary_score;
  primary_gap_score = b.primary_gap_score;
  challengers = l;
  challengers_len = b.challengers_len;
  streak = b.streak;
  streak_len = b.streak_len;
  streak_gaps = b.streak_gaps;
  streak_gaps_len = b.streak_gaps_len;
  streak_side = b.streak_side;
  last_gap = b.last_gap;
  marks_seen = b.marks_seen;
  gaps_seen = b.gaps_seen;
  pending = b.pending;
  log = b.log;
  log_len = b.log_len;
  started = started;
}

module _ (b : TimingBank) (s : Sturdy b) where
  size : length (view b).challengers ≡ b.challengers_len
  size = view_length view_hyp b.challengers_len b.challengers (room b.challengers_len b.challengers s.crew)

  -- a victim stands among the challengers
  pub victim_before : (v : Best) → v ≡ least_from eligible 0 None (view b).challengers → Before b.challengers_len v
  victim_before v e =
      let z = size in
      let k : 0 + length (view b).challengers ≡ b.challengers_len = omega arith in
      subst (Before b.challengers_len) (sym e)
      (subst (λ (n : ℕ). Before n (least_from eligible 0 None (view b).challengers)) k
      (least_before eligible 0 None (view b).challengers tt))

  module _ (h z : TimingHypothesis) (i : ℕ) (lt : i < b.challengers_len) where
    pub replaced_sturdy : Fit h → (m : ℕ) → Sturdy (enrolled b (set b.challengers i h) m)
    replaced_sturdy f m = record {
      wide_enough = s.wide_enough;
      wide = s.wide;
      below = s.below;
      crew = crew_set b.challengers_len b.challengers i h f s.crew;
      score = s.score;
      score_gap = s.score_gap;
      streaks = s.streaks;
      last_gap = s.last_gap;
      log = s.log;
      pending = s.pending;
    }

    pub replaced : (m : ℕ) (gone : List Departure) → m ≡ following b.started → gone
        ≡ record { serial = (get_or b.challengers i z).serial; cause = Replaced } ∷ []
        → record { bank = view (enrolled b (set b.challengers i h) m); left = gone }
        ≡ replacing (view b) (view_hyp h) (some i)
    replaced m gone em eg =
        let n = b.challengers_len in
        let l = b.challengers in
        let v = size in
        let found : get_elem? (view_all n l) i ≡ some (view_hyp (get_or l i z)) =
        elem (view_all n l) i (view_hyp z) (omega arith) ∙ ap some (view_at view_hyp n l i z lt) in
        ap (λ (x : ℕ). record { bank = view (enrolled b (set l i h) x); left = gone }) em
        ∙ ap (λ (x : List Hyp). record { bank = with_new (view b) x; left = gone })
        (ap (map view_hyp) (take-set-lt n l i h lt) ∙ map_set view_hyp (take n l) i h)
        ∙ ap (λ (x : List Departure). record { bank = with_new (view b) (set (view_all n l) i (view_hyp h)); left = x })
        eg
        ∙ ap (replaced_by (view b) (view_hyp h) i) (sym found)

  -- ---- the choices of `spawn`
  module _ (lo hi : Float) (o : Origin) (t : Tracker) (l : LogPair) (e : (l.lo ≡ ln_dit t) × (l.hi ≡ ln_dah t)) where
    abbrev chosen : Bool → Bool → Bool → Told
    chosen tw any ro =
        cond (tw || any) (stay (view b))
        (cond ro (pushed (view b) (newborn (view b) t o))
        (replacing (view b) (newborn (view b) t o) (victim (view b).challengers)))

    pub spawn_is : (tw any ro p q : Bool) → p ≡ twins l.lo l.hi lo hi → p ≡ tw → q
        ≡ any_twin l.lo l.hi (view b).challengers → q ≡ any → roomy (view b) ≡ ro → chosen tw any ro
        ≡ spawned_at (view b) lo hi o t
    unfolding spawned_at
    spawn_is tw any ro p q ep et eq ea er =
        let c = (view b).challengers in
        let a : tw ≡ twins (ln_dit t) (ln_dah t) lo hi = sym et ∙ ep ∙ ap (λ (x : Float). twins x l.hi lo hi) e.0
        ∙ ap (λ (x : Float). twins (ln_dit t) x lo hi) e.1 in
        let d : any ≡ any_twin (ln_dit t) (ln_dah t) c = sym ea ∙ eq ∙ ap (λ (x : Float). any_twin x l.hi c) e.0
        ∙ ap (λ (x : Float). any_twin (ln_dit t) x c) e.1 in
        ap (λ (x : Bool). chosen x any ro) a ∙ ap (λ (x : Bool). chosen (twins (ln_dit t) (ln_dah t) lo hi) x ro) d
        ∙ ap (λ (x : Bool). chosen (twins (ln_dit t) (ln_dah t) lo hi) (any_twin (ln_dit t) (ln_dah t) c) x)
        (sym er)

  pub roomy_yes : b.challengers_len + 1 < b.width → roomy (view b) ≡ true
  roomy_yes h = let k = size in lt-ltb (length (view b).challengers + 1) b.width (omega arith)

  pub roomy_no : b.width ≤ b.challengers_len + 1 → roomy (view b) ≡ false
  roomy_no h = let k = size in le-ltb (length (view b).challengers + 1) b.width (omega arith)
