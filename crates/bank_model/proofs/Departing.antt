-- How many leave in one call: never more than the challengers that the bank had, under every good settings record.
-- Assumes nothing.
use mathlib.Core.Path.{◌≡◌, refl, ap, subst}
use mathlib.Core.Bool.{Bool, true, false, not, cond, ◌||◌}
use mathlib.Core.List.{List, [], ◌∷◌, ◌++◌}
use mathlib.Core.Option.{Option, none, some}
use Prim.Native.Nat.{ℕ, zero, suc, ◌+◌, ◌≤◌}
use native.Mathlib.Omega.{arith}
use lib.Dec.{T}
use lib.ListN.{length, set, get_elem?, length-map}
use lib.Ieee.{Float, binary32, sub, le, lt, of_bits}
use lib.Ieee.Scale.{finite}
use Rattle.ranges.specs.Settings.{Settings, Good, lead_least, lead_most}
use Rattle.ranges.specs.Limits.{nought, score_min}
use Rattle.ranges.specs.Interval.{In}
use Rattle.ranges.proofs.Compare.{nlt→le, failed, in_number}
use Rattle.ranges.proofs.Signed.{le_self, le_trans_float}
use Rattle.ranges.proofs.Rounded.{sub_number}
use Rattle.ranges.proofs.Interval.{in_finite, sub_nonpos}
use Rattle.tracker.specs.Model.{Tracker}
use Rattle.tracker.proofs.Keeping.{by_cond}
use Rattle.bank_model.specs.declared.Origin.{Origin}
use Rattle.bank_model.specs.declared.Origin.TheVariants.{Bootstrap, Streak}
use Rattle.bank_model.specs.declared.Cause.{Cause}
use Rattle.bank_model.specs.declared.Departure.{Departure}
use Rattle.bank_model.specs.Model.{Hyp, Bank, Told, stay, and_then, retained, with_evidence}
use Rattle.bank_model.specs.Scores.{behind, ln_dit, ln_dah, twins}
use Rattle.bank_model.specs.Steps.{
  newborn,
  duplicate_at,
  roomy,
  pushed,
  replaced_by,
  replacing,
  victim,
  spawned_at,
  spawned_if_at,
  on_ready,
  other,
  short,
  streak_at,
  scored,
  marked,
  marked_told,
  heard_mark,
  on_mark,
  hears,
  cause_at,
  leave_if,
  leaving,
  pruned_at,
  on,
  clear,
  gone_cleared,
  streak_on,
  candidate_at,
  emptied,
  high,
}
use Rattle.bank_model.proofs.Scoring.{mark_score_in}

-- ---- a newborn stays at its own mark

-- nothing is behind itself
module _ (k : Settings) (s : Float) (g : In lead_least lead_most k.prune) (i : In score_min nought s) where
  abbrev gap : Float
  gap = sub binary32 s s

  score_finite : T (finite s)
  unfolding of_bits
  score_finite = in_finite score_min nought s tt tt i

  never : T (le lead_least nought) → ⊥
  unfolding le of_bits
  never h = h

  pub level : behind k s s ≡ false
  level = ap not (go (lt gap k.prune) refl)
    where
      go : (b : Bool) → lt gap k.prune ≡ b → b ≡ true
      go true e = refl
      go false e =
          let n = sub_number binary32 s s score_finite score_finite in
          let h = nlt→le gap k.prune n (in_number lead_least lead_most k.prune g) (failed e) in
          let z = sub_nonpos binary32 s s score_finite score_finite (le_self s score_finite) in
          let c = le_trans_float k.prune gap nought h z in
          absurd (never (le_trans_float lead_least k.prune nought g.0 c))

no_cause : (r : Bool) (o : Option Cause) → o ≡ none → cond r none o ≡ none
no_cause true o e = refl
no_cause false o e = e

-- it has the primary's own score, is no twin of the primary, and is of age 0
pub newborn_stays : (k : Settings) → Good k → (b : Bank) (lo hi : Float) (o : Origin) (t : Tracker)
    → In score_min nought b.score
    → twins (ln_dit t) (ln_dah t) lo hi ≡ false → cause_at k b.score lo hi (newborn b t o) ≡ none
unfolding cause_at
newborn_stays k g b lo hi o t i e = rw e (rw (level k b.score g.prune_in i) (no_cause (retained o) none refl))

-- ---- who leaves a list

nothing_there : {v : Hyp} → none ≡ some v → ⊥
nothing_there q = subst IsNone q tt
  where
    IsNone : Option Hyp → Type 0
    IsNone none = Unit {0}
    IsNone (some h) = ⊥

module _ (f : Hyp → Option Cause) where
  leave_one : (o : Option Cause) (h : Hyp) (l : List Departure) → length (leave_if o h l) ≤ length l + 1
  leave_one none h l = omega arith
  leave_one (some c) h l = omega arith

  pub few_leaving : (l : List Hyp) → length (leaving f l) ≤ length l
  unfolding leaving
  few_leaving [] = omega arith
  few_leaving (h ∷ l) =
      let a = leave_one (f h) h (leaving f l) in
      let b = few_leaving l in
      omega arith

  -- one that stays comes at the end, or in the place of another
  module _ (x : Hyp) (e : f x ≡ none) where
    none_leaves : (l : List Departure) → leave_if (f x) x l ≡ l
    none_leaves l = ap (λ (o : Option Cause). leave_if o x l) e

    few_pushed : (l : List Hyp) → length (leaving f (l ++ (x ∷ []))) ≤ length l
    unfolding leaving
    few_pushed [] = let a = ap length (none_leaves []) in omega arith
    few_pushed (h ∷ l) =
        let a = leave_one (f h) h (leaving f (l ++ (x ∷ []))) in
        let b = few_pushed l in
        omega arith

    few_replaced : (l : List Hyp) (i : ℕ) (v : Hyp) → get_elem? l i ≡ some v
        → 1 + length (leaving f (set l i x)) ≤ length l
    unfolding leaving
    few_replaced [] i v q = absurd (nothing_there q)
    few_replaced (h ∷ l) zero v q =
        let a = ap length (none_leaves (leaving f l)) in
        let b = few_leaving l in
        omega arith
    few_replaced (h ∷ l) (suc i) v q =
        let a = leave_one (f h) h (leaving f (set l i x)) in
        let b = few_replaced l i v q in
        omega arith

-- ---- a candidate comes, and then those leave that a cause sends away

abbrev pub Few : ℕ → Settings → Float → Float → Told → Type 0
Few n k lo hi t = length (and_then t (pruned_at k lo hi)).left ≤ n

together : {A : Type 0} (a b : List A) → length (a ++ b) ≡ length a + length b
together [] b = omega arith
together (x ∷ a) b = let e = together a b in omega arith

module _ (k : Settings) (lo hi : Float) where
  few_stay : (b : Bank) → Few (length b.challengers) k lo hi (stay b)
  unfolding pruned_at
  few_stay b = few_leaving (cause_at k b.score lo hi) b.challengers

  module _ (b : Bank) (h : Hyp) (e : cause_at k b.score lo hi h ≡ none) where
    push_few : Few (length b.challengers) k lo hi (pushed b h)
    unfolding pruned_at
    push_few = few_pushed (cause_at k b.score lo hi) h e b.challengers

    replace_few : (i : ℕ) (o : Option Hyp) → get_elem? b.challengers i ≡ o
        → Few (length b.challengers) k lo hi (replaced_by b h i o)
    unfolding pruned_at
    replace_few i none q = few_stay b
    replace_few i (some v) q =
        let a = few_replaced (cause_at k b.score lo hi) h e b.challengers i v q in omega arith

    place_few : (o : Option ℕ) → Few (length b.challengers) k lo hi (replacing b h o)
    place_few none = few_stay b
    place_few (some i) = replace_few i (get_elem? b.challengers i) refl

  module _ (g : Good k) (b : Bank) (i : In score_min nought b.score) where
    spawn_few : (o : Origin) (t : Tracker) → Few (length b.challengers) k lo hi (spawned_at b lo hi o t)
    unfolding spawned_at
    spawn_few o t =
        by_cond P (duplicate_at b lo hi t) (stay b) _ (λ e. few_stay b) (λ e.
        let c = newborn_stays k g b lo hi o t i (first_false _ _ e) in
        by_cond P (roomy b) _ _ (λ r. push_few b (newborn b t o) c)
        (λ r. place_few b (newborn b t o) c (victim b.challengers)))
      where
        P : Told → Type 0
        P = Few (length b.challengers) k lo hi

        first_false : (x y : Bool) → (x || y) ≡ false → x ≡ false
        first_false true y e = e
        first_false false y e = refl

    spawn_if_few : (o : Origin) (t : Option Tracker) → Few (length b.challengers) k lo hi (spawned_if_at b lo hi o t)
    spawn_if_few o none = few_stay b
    spawn_if_few o (some t) = spawn_few o t

-- ---- the calls

module _ (k : Settings) (g : Good k) (b : Bank) (i : In score_min nought b.score) where
  streak_few : (lo hi : Float) (side : Bool) (d : Float) (gap : Option Float)
      → Few (length b.challengers) k lo hi (streak_at k b lo hi side d gap)
  unfolding streak_at
  streak_few lo hi side d gap =
      by_cond (Few (length b.challengers) k lo hi) (short (streak_on b.evidence side d gap)) _ _
      (λ e. few_stay k lo hi (with_evidence b (streak_on b.evidence side d gap)))
      (λ e. spawn_if_few k lo hi g (with_evidence b (emptied (streak_on b.evidence side d gap))) i Streak
      (candidate_at k lo hi (streak_on b.evidence side d gap)))

-- at a mark at most as many leave as there were challengers before it, one that is replaced counted
module _ (k : Settings) (g : Good k) (b : Bank) (i : In score_min nought b.score) (p : Tracker) (d : Float)
    (live : Bool) where
  abbrev after : Bank
  after = scored k b p d live

  marked_few : Few (length after.challengers) k (ln_dit p) (ln_dah p) (marked_told k b p d live)
  marked_few =
      by_cond (Few (length after.challengers) k (ln_dit p) (ln_dah p)) live _ _
      (λ e. streak_few k g after (mark_score_in b.score p d i) (ln_dit p) (ln_dah p) (high p d) d
      b.evidence.last_gap)
      (λ e. few_stay k (ln_dit p) (ln_dah p) after)

  pub few_heard : length (heard_mark k b p d live).left ≤ length b.challengers
  few_heard =
      let h = marked_few in
      let m = length-map b.challengers (marked k d live) in
      omega arith

  pub few_leave : length (on_mark k b p d live).left ≤ length b.challengers
  unfolding on_mark
  few_leave =
      by_cond (λ (t : Told). length t.left ≤ length b.challengers) (hears b p) _ _ (λ e. few_heard)
      (λ e. omega arith)

-- where the primary becomes ready at most one leaves, and a challenger was there for it
module _ (b : Bank) where
  abbrev Ousts : Told → Type 0
  Ousts t = (length t.left ≤ 1) × (length t.left ≤ length b.challengers)

  none_ousted : Ousts (stay b)
  none_ousted = (omega arith, omega arith)

  there : (l : List Hyp) (i : ℕ) (v : Hyp) → get_elem? l i ≡ some v → 1 ≤ length l
  there [] i v q = absurd (nothing_there q)
  there (h ∷ l) i v q = omega arith

  replaced_one : (h : Hyp) (i : ℕ) (o : Option Hyp) → get_elem? b.challengers i ≡ o → Ousts (replaced_by b h i o)
  replaced_one h i none q = none_ousted
  replaced_one h i (some v) q = (omega arith, there b.challengers i v q)

  replaced_few : (h : Hyp) (o : Option ℕ) → Ousts (replacing b h o)
  replaced_few h none = none_ousted
  replaced_few h (some i) = replaced_one h i (get_elem? b.challengers i) refl

  ousted_few : (lo hi : Float) (o : Origin) (t : Option Tracker) → Ousts (spawned_if_at b lo hi o t)
  unfolding spawned_at
  ousted_few lo hi o none = none_ousted
  ousted_few lo hi o (some t) =
      by_cond Ousts (duplicate_at b lo hi t) (stay b) _ (λ e. none_ousted)
      (λ e. by_cond Ousts (roomy b) _ _ (λ r. (omega arith, omega arith))
      (λ r. replaced_few (newborn b t o) (victim b.challengers)))

  pub few_ready : (k : Settings) (p : Tracker) (marks : List Float)
      → (length (on_ready k b p marks).left ≤ 1) × (length (on_ready k b p marks).left ≤ length b.challengers)
  unfolding on_ready
  few_ready k p marks =
      by_cond Ousts (on b) _ _ (λ e. ousted_few (ln_dit p) (ln_dah p) Bootstrap (other k p marks)) (λ e. none_ousted)

-- at a clear all of them leave
pub few_cleared : (b : Bank) → length (clear b).left ≤ length b.challengers
unfolding clear
few_cleared b =
    by_cond (λ (t : Told). length t.left ≤ length b.challengers) (on b) _ _
    (λ e. omega (arith, length-map b.challengers gone_cleared)) (λ e. omega arith)
