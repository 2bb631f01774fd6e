-- Sound trackers and sound evidence stay sound, and what a bank puts in is sound and ready, for every good settings record. Assumes nothing.
use mathlib.Core.Path.{◌≡◌, refl, sym, ap, subst, ◌∙◌}
use mathlib.Core.Bool.{Bool, true, false, cond, not, ◌&&◌}
use mathlib.Core.List.{List, [], ◌∷◌, ◌++◌}
use mathlib.Core.Option.{Option, none, some}
use Prim.Native.Nat.{◌≤◌}
use native.Mathlib.Omega.{arith}
use lib.Dec.{T, leb, ltb, eqb}
use lib.ListN.{length, length-append}
use lib.Ieee.{Float, binary32, mul, lt, fits}
use borrow.Author.Tests.{ltb-true, ltb-false, leb-true}
use Rattle.ranges.specs.Settings.{Settings, Good, Held}
use Rattle.ranges.specs.Limits.{duration_min, duration_max}
use Rattle.ranges.specs.Interval.{AllIn}
use Rattle.marks.specs.Constants.{two}
use Rattle.pair.specs.Model.{Pair}
use Rattle.tracker.specs.Model.{Tracker}
use Rattle.marks.specs.Lists.{all, duration}
use Rattle.pair.specs.Lock.{observed}
use Rattle.tracker.specs.Steps.{dit_estimate, element_gap, set_hint, can_begin, bootstrapped, settled, from_marks, three_to_one}
use Rattle.pair.specs.Readings.{has_other}
use Rattle.tracker.specs.Steps as Tracking
use Rattle.marks.proofs.Places.{append_in}
use Rattle.marks.proofs.Bounds.{both, inside, durations_in, join, pushed_most}
use Rattle.tracker.proofs.Keeping.{on_false, Sane, Up, mark_up, mark_sane, gap_sane, settled_sane, marks_up, other_up, ready_dit}
use Rattle.bank_model.specs.Model.{Evidence, with_last_gap}
use Rattle.bank_model.specs.Scores.{ln_dit, ln_dah, twins}
use Rattle.bank_model.specs.Steps.{none_yet, least_place, without, lone, other, one, goes_on, same_side, streak_on, candidate_at, short}
use Rattle.bank_model.proofs.Ready.{gap_pair, settled_ready}
use Rattle.bank_model.proofs.Others.{without_in, without_length, least_place_below}
use Rattle.station_model.specs.Station.{ready}
use Rattle.station_model.specs.Watch.{DitIn}
use Rattle.station_model.proofs.Lists.{by_cond, and_true, no}

-- ---- a number of a call: a duration, and a value of f32

pub record Heard (d : Float) : Type 0 where
  pub long : T (duration d)
  pub held : T (fits binary32 d)

-- ---- readiness and recent marks

pub gap_same : (k : Settings) (t : Tracker) (d : Float) → ready (element_gap k t d) ≡ ready t
gap_same k t d = ap (λ (p : Pair). p.ready) (gap_pair k t d)

pub hint_same : (k : Settings) (t : Tracker) (r : Float) → ready (set_hint k t r) ≡ ready t
unfolding set_hint
hint_same k t r = refl

pub hint_recent : (k : Settings) (t : Tracker) (r : Float) → (set_hint k t r).recent ≡ t.recent
unfolding set_hint
hint_recent k t r = refl

-- at most five are recent
pub mark_recent : (k : Settings) (t : Tracker) (d : Float) → ready t ≡ false → length (Tracking.on_mark k t d).recent ≤ 5
unfolding Tracking.on_mark
mark_recent k t d e =
    on_false (λ (m : Tracker). length m.recent ≤ 5) (ready t) _ _ e
    (by_cond (λ (m : Tracker). length m.recent ≤ 5) (observed k t.pair d).ready (λ x. pushed_most 5 t.recent d) (λ x. pushed_most 5 t.recent d))

pub begun_recent : (k : Settings) (t : Tracker) → (bootstrapped k t).recent ≡ t.recent
unfolding bootstrapped
begun_recent k t = by_cond (λ (m : Tracker). m.recent ≡ t.recent) (can_begin t) (λ x. refl) (λ x. refl)

unready_of : (a b : Bool) → (not a && b) ≡ true → a ≡ false
unready_of true b e = sym e
unready_of false b e = refl

-- a ready tracker does not begin again
pub begin_unready : (t : Tracker) → can_begin t ≡ true → ready t ≡ false
begin_unready t e = unready_of (ready t) (leb 2 (length t.pair.init)) e

-- ---- sound evidence: durations, at most four of them in the streak

abbrev pub HeardOr : Option Float → Type 0
HeardOr none = Unit {0}
HeardOr (some g) = Heard g

pub record Evident (v : Evidence) : Type 0 where
  pub marks : AllIn duration_min duration_max v.streak
  pub few : length v.streak ≤ 4
  pub between : AllIn duration_min duration_max v.gaps
  pub fit : T (all (fits binary32) v.gaps)
  pub last : HeardOr v.last_gap

pub evident_none : Evident none_yet
unfolding AllIn
evident_none = record { marks = tt; few = omega arith; between = tt; fit = tt; last = tt }

pub evident_gap : (v : Evidence) (g : Option Float) → Evident v → HeardOr g → Evident (with_last_gap v g)
evident_gap v g e h = record { marks = e.marks; few = e.few; between = e.between; fit = e.fit; last = h }

pub evident_empty : (v : Evidence) (s : Option Bool) → Evident v → Evident (record { streak = []; gaps = []; side = s; last_gap = v.last_gap })
unfolding AllIn
evident_empty v s e = record { marks = tt; few = omega arith; between = tt; fit = tt; last = e.last }

append_all : (p : Float → Bool) (l : List Float) (x : Float) → T (all p l) → T (p x) → T (all p (l ++ (x ∷ [])))
append_all p [] x t u = join (p x) true u tt
append_all p (y ∷ ys) x t u = let b = both (p y) (all p ys) t in join (p y) (all p (ys ++ (x ∷ []))) b.0 (append_all p ys x b.1 u)

append_none : (l : List Float) → l ++ [] ≡ l
append_none [] = refl
append_none (x ∷ xs) = ap (λ (r : List Float). x ∷ r) (append_none xs)

no_gaps : AllIn duration_min duration_max [] × T (all (fits binary32) [])
unfolding AllIn
no_gaps = (tt, tt)

module _ (v : Evidence) (e : Evident v) (side : Bool) (d : Float) (h : Heard d) where
  alone : AllIn duration_min duration_max (d ∷ [])
  unfolding AllIn
  alone = (inside duration_min duration_max d h.long, tt)

  marks_on : AllIn duration_min duration_max (v.streak ++ (d ∷ []))
  marks_on = append_in duration_min duration_max v.streak d e.marks (inside duration_min duration_max d h.long)

  few_on : (b : Bool) → goes_on v side ≡ b → length (cond b (v.streak ++ (d ∷ [])) (d ∷ [])) ≤ 4
  few_on true q =
      let l = ltb-true (length v.streak) 4 (and_true (same_side v.side side) (ltb (length v.streak) 4) q).1 in
      omega (arith, length-append v.streak (d ∷ []))
  few_on false q = omega arith

  gaps_on : (g : Option Float) → HeardOr g → AllIn duration_min duration_max (v.gaps ++ one g) × T (all (fits binary32) (v.gaps ++ one g))
  gaps_on none w = (subst (AllIn duration_min duration_max) (sym (append_none v.gaps)) e.between, subst (λ (l : List Float). T (all (fits binary32) l)) (sym (append_none v.gaps)) e.fit)
  gaps_on (some g) w = (append_in duration_min duration_max v.gaps g e.between (inside duration_min duration_max g w.long), append_all (fits binary32) v.gaps g e.fit w.held)

  pub evident_on : (g : Option Float) → HeardOr g → Evident (streak_on v side d g)
  evident_on g w =
      let q = by_cond (λ (l : List Float). AllIn duration_min duration_max l × T (all (fits binary32) l)) (goes_on v side) (λ x. gaps_on g w) (λ x. no_gaps) in
      record { marks = by_cond (λ (l : List Float). AllIn duration_min duration_max l) (goes_on v side) (λ x. marks_on) (λ x. alone); few = few_on (goes_on v side) refl; between = q.0; fit = q.1; last = e.last }

-- ---- for good settings
module _ (k : Settings) (G : Good k) (H : Held k) where
  abbrev pub Fine : Tracker → Type 0
  Fine t = Sane k G H t

  abbrev pub Able : Tracker → Type 0
  Able t = Up k G H t

  pub fine_dit : (t : Tracker) → Fine t → ready t ≡ true → DitIn k t
  fine_dit t f e = ready_dit k G H t f.fine e

  pub able_dit : (t : Tracker) → Able t → DitIn k t
  able_dit t u = fine_dit t u.sane u.ready

  pub able_settled : (t : Tracker) → Able t → Able (settled t)
  able_settled t u = record { sane = settled_sane k G H t u.sane; ready = settled_ready t u.ready }

  pub able_mark : (t : Tracker) (d : Float) → Heard d → Able t → Able (settled (Tracking.on_mark k t d))
  able_mark t d h u = able_settled (Tracking.on_mark k t d) (mark_up k G H t d u.sane h.long h.held u.ready)

  pub fine_mark : (t : Tracker) (d : Float) → Heard d → Fine t → Fine (Tracking.on_mark k t d)
  fine_mark t d h f = mark_sane k G H t d f h.long h.held

  pub fine_gap : (t : Tracker) (d : Float) → Heard d → Fine t → Fine (element_gap k t d)
  fine_gap t d h f = by_cond Fine (lt d (mul binary32 two (dit_estimate k t))) (λ x. gap_sane k G H t d f h.long h.held) (λ x. f)

  pub able_gap : (t : Tracker) (d : Float) → Heard d → Able t → Able (element_gap k t d)
  able_gap t d h u = record { sane = fine_gap t d h u.sane; ready = gap_same k t d ∙ u.ready }

  -- ---- what a bank puts in

  abbrev AbleOr : Option Tracker → Type 0
  AbleOr none = Unit {0}
  AbleOr (some t) = Able t

  first : (a b c : Bool) → ((a && b) && c) ≡ true → a ≡ true
  first true b c e = refl
  first false b c e = e

  turned_able : (t : Tracker) → Fine t → AbleOr (three_to_one k t)
  unfolding three_to_one
  turned_able t f =
      by_cond AbleOr (has_other k t.pair) (λ x. other_up k G H t (record { sane = f; ready = first (ready t) _ _ x })) (λ x. tt)

  -- of a lock whose recent marks are not too many
  pub other_able : (t : Tracker) → Fine t → length t.recent ≤ 12 → AbleOr (other k t t.recent)
  unfolding other
  other_able t f w =
      by_cond AbleOr t.pair.confirmed
      (λ x. by_cond AbleOr (lone t t.recent) (λ y. rest (leb-true 3 (length t.recent) (and_true (eqb t.pair.lo_n 1) (leb 3 (length t.recent)) y).1)) (λ y. tt))
      (λ x. turned_able t f)
    where
      rest : 3 ≤ length t.recent → Able (from_marks k (without (least_place t.recent) t.recent) [])
      rest h =
          let l = t.recent in
          let n = without_length (least_place l) l (least_place_below l (omega arith)) in
          marks_up k G H (without (least_place l) l) [] (without_in duration_min duration_max (least_place l) l (durations_in l f.fine.recent)) (omega arith) (omega arith) no_gaps.0 no_gaps.1

  pub candidate_able : (lo hi : Float) (v : Evidence) → Evident v → short v ≡ false → AbleOr (candidate_at k lo hi v)
  unfolding candidate_at
  candidate_able lo hi v e s =
      let t = from_marks k v.streak v.gaps in
      by_cond AbleOr (twins (ln_dit t) (ln_dah t) lo hi) (λ x. turned_able t made.sane) (λ x. made)
    where
      made : Able (from_marks k v.streak v.gaps)
      made = let n = ltb-false (length v.streak) 4 s in marks_up k G H v.streak v.gaps e.marks (omega arith) (omega (arith, e.few)) e.between e.fit

  pub able_of : (o : Option Tracker) (u : Tracker) → AbleOr o → o ≡ some u → Able u
  able_of none u a e = no (cc)
  able_of (some t) u a e = let q : t ≡ u = cc in subst Able q a
