-- A loop over a bank's challengers that sends each through a function: its invariant, where it begins, one turn, and
-- where it ends. Assumes nothing.
use Rattle.std.proofs.Common.{
  ◌≡◌,
  ℕ,
  ◌+◌,
  ◌<◌,
  ◌≤◌,
  List,
  map,
  length,
  get_or,
  set,
  sym,
  refl,
  ap,
  ◌∙◌,
  subst,
  arith,
  length-set,
}
use Rattle.bank_model.specs.Model.{Hyp, with_challengers}
use Rattle.rival.specs.declared.TimingHypothesis.{TimingHypothesis}
use Rattle.bank.specs.declared.TimingBank.{TimingBank}
use Rattle.rival.specs.View.{view_hyp}
use Rattle.bank.specs.View.{view_all, view}
use Rattle.rival.specs.Parts.{Fit}
use Rattle.bank.specs.Sturdy.{Crew, Sturdy}
use Rattle.bank.proofs.Lists.{up_to, up_to_zero, all_set, all_at, turn, done}

-- a bank with other challengers in its array
abbrev pub restocked : TimingBank → List TimingHypothesis → TimingBank
restocked b l = record {
  width = b.width;
  switching = b.switching;
  primary_score = b.primary_score;
  primary_gap_score = b.primary_gap_score;
  challengers = l;
  challengers_len = b.challengers_len;
  streak = b.streak;
  streak_len = b.streak_len;
  streak_gaps = b.streak_gaps;
  streak_gaps_len = b.streak_gaps_len;
  streak_side = b.streak_side;
  last_gap = b.last_gap;
  marks_seen = b.marks_seen;
  gaps_seen = b.gaps_seen;
  pending = b.pending;
  log = b.log;
  log_len = b.log_len;
  started = b.started;
}

-- a crew's member
pub member : (n : ℕ) (l : List TimingHypothesis) (i : ℕ) (z : TimingHypothesis) → i < n → Crew n l → Fit (get_or l i z)
member n l i z h w =
    let k = w.few in
    let m = w.long in
    all_at Fit n l i z h (omega arith) w.each

pub room : (n : ℕ) (l : List TimingHypothesis) → Crew n l → n ≤ length l
room n l w =
    let k = w.few in
    let m = w.long in
    omega arith

pub crew_set : (n : ℕ) (l : List TimingHypothesis) (i : ℕ) (g : TimingHypothesis) → Fit g → Crew n l →
    Crew n (set l i g)
crew_set n l i g f w = record { few = w.few; long = length-set l i g ∙ w.long; each = all_set Fit n l i g f w.each }

-- a sturdy bank with another crew in its array
pub restocked_sturdy : (b : TimingBank) (l : List TimingHypothesis) → Sturdy b → Crew b.challengers_len l →
    Sturdy (restocked b l)
restocked_sturdy b l s w = record {
  wide_enough = s.wide_enough;
  wide = s.wide;
  below = s.below;
  crew = w;
  score = s.score;
  score_gap = s.score_gap;
  streaks = s.streaks;
  last_gap = s.last_gap;
  log = s.log;
  pending = s.pending;
}

module _ (f : Hyp → Hyp) (b : TimingBank) where
  -- the first i went through f
  pub record Mapping (c : TimingBank) (i : ℕ) : Type 0 where
    pub upto : i ≤ b.challengers_len
    pub same : c ≡ restocked b c.challengers
    pub is : view_all b.challengers_len c.challengers ≡ up_to f i (view b).challengers
    pub crew : Crew b.challengers_len c.challengers

  pub map_begins : Crew b.challengers_len b.challengers → Mapping b 0
  map_begins w = record { upto = omega arith; same = refl; is = sym (up_to_zero f (view b).challengers); crew = w }

  pub map_member : (c : TimingBank) (i : ℕ) (z : TimingHypothesis) → i < b.challengers_len → Mapping c i →
      Fit (get_or c.challengers i z)
  map_member c i z h m = member b.challengers_len c.challengers i z h m.crew

  pub map_turns : (c : TimingBank) (i : ℕ) (z g : TimingHypothesis) → i < b.challengers_len → Mapping c i →
      (view_hyp g ≡ f (view_hyp (get_or c.challengers i z))) × Fit g →
      Mapping (restocked c (set c.challengers i g)) (i + 1)
  map_turns c i z g h m e =
      let n = b.challengers_len in
      record {
        upto = omega arith;
        same = ap (λ (x : TimingBank). restocked x (set c.challengers i g)) m.same;
        is = turn view_hyp f (view b).challengers c.challengers n i z g h (room n c.challengers m.crew) m.is e.0;
        crew = crew_set n c.challengers i g e.1 m.crew;
      }

  pub map_ends : (c : TimingBank) (i : ℕ) → b.challengers_len ≤ i → Mapping c i → view c
      ≡ with_challengers (view b) (map f (view b).challengers)
  map_ends c i h m =
      let u = m.upto in
      let n = b.challengers_len in
      let e : i ≡ n = omega arith in
      ap view m.same
      ∙ ap (with_challengers (view b))
      (done view_hyp f (view b).challengers c.challengers n (room n c.challengers m.crew) (m.is
      ∙ ap (λ (j : ℕ). up_to f j (view b).challengers) e))

  pub map_sturdy : (c : TimingBank) (i : ℕ) → Mapping c i → Sturdy b → Sturdy c
  map_sturdy c i m s = subst Sturdy (sym m.same) (restocked_sturdy b c.challengers s m.crew)
