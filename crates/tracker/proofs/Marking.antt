-- One mark, step by step as the code takes it. Assumes nothing.
use Rattle.std.proofs.Common.{
  ◌≡◌,
  ℕ,
  zero,
  suc,
  ◌≤◌,
  Bool,
  true,
  false,
  cond,
  not,
  ◌&&◌,
  ◌==◌,
  T,
  List,
  [],
  ◌∷◌,
  ◌++◌,
  length,
  take,
  drop,
  set,
  sym,
  refl,
  ap,
  ◌∙◌,
  subst,
  arith,
}
use mathlib.Core.Option.{some}
use lib.Ieee.{Float}
use Rattle.ranges.specs.Settings.{Settings, standard}
use Rattle.ring.specs.declared.RingEntry.{RingEntry}
use Rattle.pair.specs.Model.{Pair}
use Rattle.tracker.specs.Model.{Tracker, with_pair, with_ring, with_wpm, with_recent, with_uncorroborated}
use Rattle.marks.specs.Lists.{pushed, duration}
use Rattle.tracker.specs.Parts.{Drivable}
use Rattle.pair.specs.Lock.{learnt, started, observed, constrained}
use Rattle.pair.proofs.Soundness.{ready_centroids}
use Rattle.pair.specs.Sound.{centroids}
use Rattle.ring.specs.Ring.{entry_sound, entry}
use Rattle.tracker.specs.Steps.{speed, averaged, bound, rung, checked, spoken, followed, opened, on_mark}
use Rattle.marks.proofs.Bounds.{join, pushed_all, pushed_some}
use Rattle.tracker.proofs.Soundness.{Fine}

-- ---- a tracker that was ready
module _ (k : Settings) (p : Pair) (d : Float) (u c : Tracker) (x : RingEntry) (C : c ≡ bound k u)
    (X : x ≡ entry p c.pair d) where
  pub follows : (g h r : Tracker) → g ≡ rung c x → h ≡ checked k g → r ≡ spoken k h → r ≡ followed k p u d
  follows g h r P Q R =
      R ∙ ap (spoken k) (Q ∙ ap (checked k) (P ∙ ap (rung c) X))
      ∙ ap (λ (z : Tracker). spoken k (checked k (rung z (entry p z.pair d)))) C

  pub entry_is : T (duration d) → T (centroids k p.lo p.hi) → T (entry_sound k x)
  entry_is t s = subst (λ (e : RingEntry). T (entry_sound k e)) (sym X) (join (duration d) (centroids k p.lo p.hi) t s)

pub rung_drivable : (u c g : Tracker) (x : RingEntry) → c ≡ bound standard u → g ≡ rung c x → Drivable u
    → T (entry_sound standard x) → Drivable g
rung_drivable u c g x C P v t =
    subst Drivable (sym (P ∙ ap (λ (z : Tracker). rung z x) C))
    (record { ring = pushed_all (entry_sound standard) 12 u.ring x v.ring t; recent = v.recent; held = v.held })

-- ---- a tracker that was not
pub opens : (k : Settings) (u w r : Tracker) → u.pair.ready ≡ true
    → w ≡ bound k (with_uncorroborated u (u.pair.lo_n == 1)) → r ≡ spoken k w → r ≡ opened k u
opens k u w r e W R =
    R ∙ ap (spoken k) W
    ∙ sym (ap (λ (b : Bool). cond b (spoken k (bound k (with_uncorroborated u (u.pair.lo_n == 1)))) u) e)

pub waits : (k : Settings) (u : Tracker) → u.pair.ready ≡ false → u ≡ opened k u
waits k u e = sym (ap (λ (b : Bool). cond b (spoken k (bound k (with_uncorroborated u (u.pair.lo_n == 1)))) u) e)

-- ---- the whole
module _ (k : Settings) (m : Tracker) (d : Float) (a : Tracker) (A : a ≡ with_recent m (pushed 5 m.recent d)) (q : Pair)
    (r : Tracker) where
  abbrev heard : Pair → Tracker
  heard z = with_pair (with_recent m (pushed 5 m.recent d)) z

  pub marks_ready : m.pair.ready ≡ true → q ≡ learnt k m.pair d → r ≡ followed k m.pair (with_pair a q) d
      → r ≡ on_mark k m d
  unfolding on_mark
  marks_ready e Q R =
      let o : q ≡ observed k m.pair d =
      Q ∙ sym (ap (λ (b : Bool). cond b (learnt k m.pair d) (started k m.pair d)) e) in
      R ∙ ap (λ (z : Tracker). followed k m.pair (with_pair z q) d) A
      ∙ ap (λ (z : Pair). followed k m.pair (heard z) d) o
      ∙ sym
      (ap
      (λ (b : Bool). cond b (followed k m.pair (heard (observed k m.pair d)) d)
      (opened k (heard (observed k m.pair d)))) e)

  pub marks_unready : m.pair.ready ≡ false → q ≡ started k m.pair d → r ≡ opened k (with_pair a q) → r ≡ on_mark k m d
  unfolding on_mark
  marks_unready e Q R =
      let o : q ≡ observed k m.pair d =
      Q ∙ sym (ap (λ (b : Bool). cond b (learnt k m.pair d) (started k m.pair d)) e) in
      R ∙ ap (λ (z : Tracker). opened k (with_pair z q)) A ∙ ap (λ (z : Pair). opened k (heard z)) o
      ∙ sym
      (ap
      (λ (b : Bool). cond b (followed k m.pair (heard (observed k m.pair d)) d)
      (opened k (heard (observed k m.pair d)))) e)

-- what a check asks of a sound tracker that heard a mark
pub heard_drivable : (m a : Tracker) (q : Pair) (d : Float) → a ≡ with_recent m (pushed 5 m.recent d) → Fine standard m
    → T (duration d) → Drivable (with_pair a q)
heard_drivable m a q d A f t =
    subst (λ (z : Tracker). Drivable (with_pair z q)) (sym A)
    (record {
      ring = f.ring;
      recent = pushed_all duration 5 m.recent d f.recent t;
      held = pushed_some 5 m.recent d (omega arith);
    })

-- ---- a mark of a ready tracker, as the code takes it: recent marks l, pair q, entry x, and whether the dit still
-- rests on a lone mark
pub record Heard (k : Settings) (m : Tracker) (d : Float) (l : List Float) (q₀ q : Pair) (x : RingEntry)
    (b : Bool) : Type 0 where
  pub was : m.pair.ready ≡ true
  pub keeps : l ≡ pushed 5 m.recent d
  pub learns : q₀ ≡ learnt k m.pair d
  pub binds : q ≡ constrained k m.hint q₀
  pub enters : x ≡ entry m.pair q d
  pub rests : b ≡ (m.uncorroborated && not x.assigned_dit)

-- the tracker before its check for drift
abbrev pub after : Tracker → List Float → Pair → Bool → List RingEntry → Tracker
after m l q b ring = with_ring (with_uncorroborated (with_pair (with_recent m l) q) b) ring

module _ (k : Settings) (m : Tracker) (d : Float) (l : List Float) (q₀ q : Pair) (x : RingEntry) (b : Bool)
    (ring : List RingEntry) (h : Heard k m d l q₀ q x b) (R : ring ≡ pushed 12 m.ring x) where
  abbrev bound_pair : Tracker
  bound_pair = with_pair (with_recent m l) q

  binds_is : bound_pair ≡ bound k (with_pair (with_recent m l) q₀)
  binds_is = ap (with_pair (with_recent m l)) h.binds

  rings : after m l q b ring ≡ rung bound_pair x
  rings =
      ap (λ (z : Bool). with_ring (with_uncorroborated bound_pair z) ring) h.rests
      ∙ ap
      (λ (z : List RingEntry). with_ring
      (with_uncorroborated bound_pair (m.uncorroborated && not x.assigned_dit)) z) R

  pub after_is : (c r : Tracker) → c ≡ checked k (after m l q b ring) → r ≡ spoken k c → r ≡ on_mark k m d
  after_is c r C S =
      marks_ready k m d (with_recent m l) (ap (with_recent m) h.keeps) q₀ r h.was h.learns
      (follows k m.pair d (with_pair (with_recent m l) q₀) bound_pair x binds_is h.enters
      (after m l q b ring) c r rings C S)

pub after_drivable : (m : Tracker) (d : Float) (l : List Float) (q₀ q : Pair) (x : RingEntry) (b : Bool)
    (ring : List RingEntry)
    → Heard standard m d l q₀ q x b → ring ≡ pushed 12 m.ring x
    → Fine standard m → T (duration d) → Drivable (after m l q b ring)
after_drivable m d l q₀ q x b ring h R f t =
    let u = with_pair (with_recent m l) q₀ in
    let c = with_pair (with_recent m l) q in
    let C = binds_is standard m d l q₀ q x b ring h R in
    rung_drivable u c (after m l q b ring) x C (rings standard m d l q₀ q x b ring h R)
    (heard_drivable m (with_recent m l) q₀ d (ap (with_recent m) h.keeps) f t)
    (entry_is standard m.pair d u c x C h.enters t (ready_centroids standard m.pair h.was f.pair))

-- the speed average takes the speed, by its parts
pub speaks : (k : Settings) (m r : Tracker) (w raw : Float) → raw ≡ speed k m → w ≡ averaged m.wpm raw
    → r ≡ with_wpm m (some w) → r ≡ spoken k m
speaks k m r w raw S W R = R ∙ ap (λ (x : Float). with_wpm m (some x)) (W ∙ ap (averaged m.wpm) S)

-- a count that two steps keep
pub few_kept : {a b n : ℕ} → a ≡ b → b ≡ n → n ≤ 12 → a ≤ 12
few_kept e h k = omega arith

-- ---- the ring turned by one place, and its last place written: the first is gone, and the new one stands at the end
ended : {A : Type 0} (l : List A) (n : ℕ) (a x : A) → length l ≡ n → set (l ++ (a ∷ [])) n x ≡ l ++ (x ∷ [])
ended [] zero a x h = refl
ended [] (suc n) a x h = absurd (omega arith)
ended (b ∷ l) zero a x h = absurd (omega arith)
ended (b ∷ l) (suc n) a x h = ap (λ r. b ∷ r) (ended l n a x (omega arith))

pub turned : {A : Type 0} (l : List A) (n : ℕ) (x : A) → length l ≡ suc n
    → set (drop 1 l ++ take 1 l) n x ≡ drop 1 l ++ (x ∷ [])
turned [] n x h = absurd (omega arith)
turned (a ∷ l) n x h = ended l n a x (omega arith)
