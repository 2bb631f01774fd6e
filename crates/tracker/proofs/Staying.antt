-- Sound stays sound and ready stays ready, whatever call is accepted; the regime count wraps. Assumes nothing.
use Rattle.std.proofs.Common.{◌≡◌, ℕ, ◌+◌, ◌%◌, ◌^◌, Bool, true, not, ◌&&◌, T, leb, List, length, refl, ap}
use lib.Ieee.{Float, binary32, fits, lt}
use lib.Ieee.Positive.{positive}
use Rattle.ranges.specs.Settings.{Settings, Good, Held}
use Rattle.ranges.specs.Mean.{mean_of}
use Rattle.tracker.specs.Model.{Tracker, with_pair, with_recent}
use Rattle.pair.specs.Model.{Pair}
use Rattle.marks.specs.Lists.{pushed, duration}
use Rattle.pair.specs.Lock.{
  initialized,
  constrained,
  bimodal,
  unimodal,
  as_dahs,
  as_dits,
  locked,
  learnt,
  started,
  observed,
  anchors_dit,
  anchors_dah,
  boundary,
}
use Rattle.marks.specs.Sort.{sorted, parts}
use Rattle.tracker.specs.Steps.{
  timed,
  bound,
  set_hint,
  on_gap,
  can_begin,
  bootstrapped,
  seeded,
  reseeded,
  settled,
  resolved,
  relocked,
  on_mark,
  fragment,
  drifted,
  recovered_by,
  checked,
  rung,
  followed,
  opened,
}
use Rattle.pair.specs.Readings.{turned, gaps_say_dahs}
use Rattle.ring.specs.Ring.{durations, uniform, drifts, entry}
use Rattle.tracker.proofs.Keeping.{
  by_cond,
  on_false,
  hint_sane,
  begin_sane,
  seed_up,
  reseed_sane,
  settled_sane,
  resolve_sane,
  on_true,
  Sane,
  mark_sane,
  gap_sane,
}

-- the calls, with what they are given
pub data Call : Type 0 where
  hint gap seed mark : Float → Call
  finish reseed settle : Call
  resolve : List Float → Call

-- what each does to a tracker
abbrev pub done : Settings → Call → Tracker → Tracker
done k (hint h) m = set_hint k m h
done k (gap d) m = on_gap k m d
done k (seed v) m = seeded k m v
done k (mark d) m = on_mark k m d
done k finish m = bootstrapped k m
done k reseed m = reseeded k m
done k settle m = settled m
done k (resolve l) m = resolved k m l

-- what it is accepted with
abbrev pub Accepts : Call → Type 0
Accepts (hint h) = Unit {0}
Accepts (gap d) = T (duration d) × T (fits binary32 d)
Accepts (seed v) = T (positive v)
Accepts (mark d) = T (duration d) × T (fits binary32 d)
Accepts finish = Unit {0}
Accepts reseed = Unit {0}
Accepts settle = Unit {0}
Accepts (resolve l) = Unit {0}

abbrev pub Ready : Tracker → Type 0
Ready m = m.pair.ready ≡ true

module _ (k : Settings) where
  bound_ready : (m : Tracker) → Ready m → Ready (bound k m)
  unfolding constrained
  bound_ready m e = e

  hint_ready : (m : Tracker) (h : Float) → Ready m → Ready (set_hint k m h)
  unfolding set_hint
  hint_ready m h e = e

  settled_ready : (m : Tracker) → Ready m → Ready (settled m)
  unfolding settled
  settled_ready m e = e

  reseeded_ready : (m : Tracker) → Ready m → Ready (reseeded k m)
  unfolding reseeded
  reseeded_ready m e = by_cond Ready m.pair.ready (timed k m) m (λ x. e) (λ x. e)

  begun_ready : (m : Tracker) → Ready m → Ready (bootstrapped k m)
  unfolding bootstrapped
  begun_ready m e =
      on_false Ready (can_begin m) (timed k (bound k (with_pair m (initialized k m.pair.init)))) m
      (ap (λ (b : Bool). not b && leb 2 (length m.pair.init)) e) e

  resolved_ready : (m : Tracker) (l : List Float) → Ready m → Ready (resolved k m l)
  unfolding resolved
  resolved_ready m l e =
      by_cond Ready (gaps_say_dahs k m.pair l) (timed k (bound k (with_pair m (turned m.pair)))) m
      (λ x. bound_ready (with_pair m (turned m.pair)) e) (λ x. e)

  gap_ready : (m : Tracker) (d : Float) → Ready m → Ready (on_gap k m d)
  unfolding on_gap
  gap_ready m d e = e

  seeded_ready : (m : Tracker) (v : Float) → Ready (seeded k m v)
  unfolding seeded
  seeded_ready m v = refl

  abbrev Is : Pair → Type 0
  Is p = p.ready ≡ true

  initialized_ready : (l : List Float) → Is (initialized k l)
  unfolding locked
  initialized_ready l =
      let s = sorted l in
      by_cond Is (parts s) (bimodal s) (unimodal k (mean_of s)) (λ e. refl)
      (λ e. by_cond Is (lt k.dit_max (mean_of s)) (as_dahs (mean_of s)) (as_dits (mean_of s)) (λ e. refl)
      (λ e. refl))

  learnt_ready : (p : Pair) (v : Float) → Is p → Is (learnt k p v)
  unfolding learnt
  learnt_ready p v e =
      by_cond Is (anchors_dit p v) _ _ (λ x. e)
      (λ x. by_cond Is (anchors_dah p v) _ _ (λ y. e) (λ y. by_cond Is (lt v (boundary p)) _ _ (λ z. e) (λ z. e)))

  relocked_ready : (m : Tracker) (l : List Float) → Ready (relocked k m l)
  relocked_ready m l = bound_ready (with_pair m (initialized k l)) (initialized_ready l)

  checked_ready : (m : Tracker) → Ready m → Ready (checked k m)
  unfolding checked
  checked_ready m e =
      by_cond Ready (uniform m.ring) _ m
      (λ x. by_cond Ready (drifts m.ring) (drifted k m) _ (λ y. relocked_ready m m.recent)
      (λ y. by_cond Ready (fragment m) (recovered_by k m) m (λ z. relocked_ready m (durations m.ring)) (λ z. e)))
      (λ x. e)

  followed_ready : (p : Pair) (m : Tracker) (d : Float) → Ready m → Ready (followed k p m d)
  followed_ready p m d e = checked_ready (rung (bound k m) (entry p (bound k m).pair d)) (bound_ready m e)

  observed_ready : (p : Pair) (d : Float) → Is p → Is (observed k p d)
  observed_ready p d e = on_true Is p.ready (learnt k p d) (started k p d) e (learnt_ready p d e)

  mark_ready : (m : Tracker) (d : Float) → Ready m → Ready (on_mark k m d)
  unfolding on_mark
  mark_ready m d e =
      let u = with_pair (with_recent m (pushed 5 m.recent d)) (observed k m.pair d) in
      on_true Ready m.pair.ready (followed k m.pair u d) (opened k u) e
      (followed_ready m.pair u d (observed_ready m.pair d e))

  -- whatever the tracker is else
  pub stays_ready : (c : Call) (m : Tracker) → Ready m → Ready (done k c m)
  stays_ready (hint h) m e = hint_ready m h e
  stays_ready (gap d) m e = gap_ready m d e
  stays_ready (seed v) m e = seeded_ready m v
  stays_ready (mark d) m e = mark_ready m d e
  stays_ready finish m e = begun_ready m e
  stays_ready reseed m e = reseeded_ready m e
  stays_ready settle m e = settled_ready m e
  stays_ready (resolve l) m e = resolved_ready m l e

module _ (k : Settings) (G : Good k) (H : Held k) where
  -- sound stays sound
  pub stays_sane : (c : Call) (m : Tracker) → Accepts c → Sane k G H m → Sane k G H (done k c m)
  stays_sane (hint h) m a s = hint_sane k G H m h s
  stays_sane (gap d) m a s = gap_sane k G H m d s a.0 a.1
  stays_sane (seed v) m a s = (seed_up k G H m v s a).sane
  stays_sane (mark d) m a s = mark_sane k G H m d s a.0 a.1
  stays_sane finish m a s = begin_sane k G H m s
  stays_sane reseed m a s = reseed_sane k G H m s
  stays_sane settle m a s = settled_sane k G H m s
  stays_sane (resolve l) m a s = resolve_sane k G H m l s

-- from 4,294,967,295 a new lock counts on to 0
pub wraps : (k : Settings) (m : Tracker) (l : List Float) → m.regime ≡ 0xffff_ffff → (relocked k m l).regime ≡ 0
wraps k m l e = ap (λ (n : ℕ). (n + 1) % 2 ^ 32) e
