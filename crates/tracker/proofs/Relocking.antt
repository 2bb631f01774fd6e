-- A check for drift, by its tests. Assumes nothing.
use Rattle.std.proofs.Common.{
  ◌≡◌,
  ℕ,
  ◌≤◌,
  Bool,
  true,
  false,
  cond,
  not,
  ◌||◌,
  T,
  leb,
  List,
  length,
  take,
  sym,
  ap,
  ◌∙◌,
  subst,
  arith,
  leb→le,
  le→leb,
  length-take-le,
  take_all,
}
use Rattle.std.proofs.lemmas.Float.{T_from_false}
use lib.Ieee.Bits.{is_true}
use Rattle.ranges.specs.Settings.{Settings, standard}
use Rattle.ranges.proofs.Compare.{passed}
use Rattle.ring.specs.declared.RingEntry.{RingEntry}
use Rattle.tracker.specs.declared.SpeedTracker.{SpeedTracker}
use Rattle.tracker.specs.Model.{Tracker, view, with_pair}
use Rattle.tracker.specs.Parts.{Full, Checkable}
use Rattle.ring.specs.Ring.{ring_sound, all_classed, uniform, drifts}
use Rattle.tracker.specs.Steps.{
  fragment,
  drifted,
  recovered_by,
  checked,
  timed,
  bound,
  can_begin,
  bootstrapped,
  reseeded,
}
use Rattle.pair.specs.Lock.{initialized}
use Rattle.pair.specs.Model.{Pair}
use Rattle.marks.proofs.Bounds.{both, join}

pub full_count : (l : List RingEntry) (n : ℕ) → length l ≡ 12 → n ≤ 12 → uniform (take n l) ≡ true → n ≡ 12
full_count l n h k e =
    let p =
    both (leb 12 (length (take n l))) (all_classed true (take n l) || all_classed false (take n l)) (passed e) in
    let q = leb→le 12 (length (take n l)) p.0 in
    let w = length-take-le n l (omega arith) in
    omega arith

-- a ring whose count is 12 is the whole array
pub ring_whole : (t : SpeedTracker) → length t.ring ≡ 12 → t.ring_len ≡ 12 → (view t).ring ≡ t.ring
ring_whole t h n = take_all t.ring_len t.ring (omega arith)

pub full_of : (t : SpeedTracker) → length t.ring ≡ 12 → Checkable t → uniform (view t).ring ≡ true → Full t
full_of t h v e =
    let n = full_count t.ring t.ring_len h v.counted.ring e in
    record {
      count = n;
      ring = subst (λ (l : List RingEntry). T (ring_sound standard l)) (ring_whole t h n) v.drivable.ring;
    }

module _ (k : Settings) (m : Tracker) where
  pub checked_drifts : uniform m.ring ≡ true → drifts m.ring ≡ true → drifted k m ≡ checked k m
  unfolding checked
  checked_drifts u d = rw (u, d)

  pub checked_recovers : uniform m.ring ≡ true → drifts m.ring ≡ false → fragment m ≡ true
      → recovered_by k m ≡ checked k m
  unfolding checked
  checked_recovers u d f = rw (u, d, f)

  pub checked_stays : uniform m.ring ≡ true → drifts m.ring ≡ false → fragment m ≡ false → m ≡ checked k m
  unfolding checked
  checked_stays u d f = rw (u, d, f)

  pub checked_mixed : uniform m.ring ≡ false → m ≡ checked k m
  unfolding checked
  checked_mixed u = rw u

pub drifts_at : (t : SpeedTracker) (b v : Bool) → length t.ring ≡ 12 → Full t → b ≡ drifts t.ring → b ≡ v
    → drifts (view t).ring ≡ v
drifts_at t b v h f e q = ap drifts (ring_whole t h f.count) ∙ sym e ∙ q

-- ---- a finish
module _ (k : Settings) (m : Tracker) where
  pub begins : (p : Pair) (u r : Tracker) → can_begin m ≡ true → p ≡ initialized k m.pair.init
      → u ≡ bound k (with_pair m p) → r ≡ timed k u → r ≡ bootstrapped k m
  unfolding bootstrapped
  begins p u r e P U R =
      R ∙ ap (timed k) (U ∙ ap (λ (z : Pair). bound k (with_pair m z)) P)
      ∙ sym (ap (λ (b : Bool). cond b (timed k (bound k (with_pair m (initialized k m.pair.init)))) m) e)

  pub begins_not : can_begin m ≡ false → m ≡ bootstrapped k m
  unfolding bootstrapped
  begins_not e = sym (ap (λ (b : Bool). cond b (timed k (bound k (with_pair m (initialized k m.pair.init)))) m) e)

  pub times_ready : (r : Tracker) → m.pair.ready ≡ true → r ≡ timed k m → r ≡ reseeded k m
  unfolding reseeded
  times_ready r e q = q ∙ sym (ap (λ (b : Bool). cond b (timed k m) m) e)

  pub times_not : m.pair.ready ≡ false → m ≡ reseeded k m
  unfolding reseeded
  times_not e = sym (ap (λ (b : Bool). cond b (timed k m) m) e)

-- an unready tracker with two start marks can begin
pub begin_can : (t : SpeedTracker) → t.pair.ready ≡ false → 2 ≤ length (view t).pair.init → can_begin (view t) ≡ true
begin_can t e h =
    let n = length (view t).pair.init in
    is_true (can_begin (view t)) (join (not t.pair.ready) (leb 2 n) (T_from_false t.pair.ready e) (le→leb 2 n h))

-- the start marks of a tracker that can begin
pub begin_counts : (t : SpeedTracker) → length t.pair.init ≡ 12 → t.pair.init_len ≤ 12 → can_begin (view t) ≡ true
    → 1 ≤ t.pair.init_len
begin_counts t h c e =
    let p = both (not t.pair.ready) (leb 2 (length (take t.pair.init_len t.pair.init))) (passed e) in
    let q = leb→le 2 (length (take t.pair.init_len t.pair.init)) p.1 in
    let w = length-take-le t.pair.init_len t.pair.init (omega arith) in
    omega arith
