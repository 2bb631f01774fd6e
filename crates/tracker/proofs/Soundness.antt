-- What soundness says, part by part, and how it is put together again. Assumes nothing.
use Rattle.std.proofs.Common.{◌≡◌, Bool, true, ◌&&◌, T, leb, sym, subst, le→leb, leb→le}
use lib.Ieee.Bits.{is_true}
use Rattle.ranges.specs.Settings.{Settings}
use Rattle.ranges.proofs.Compare.{passed}
use Rattle.tracker.specs.declared.SpeedTracker.{SpeedTracker}
use Rattle.tracker.specs.Model.{Tracker, view}
use Rattle.marks.specs.Lists.{all_durations}
use Rattle.tracker.specs.Parts.{Counted}
use Rattle.pair.specs.Sound.{pair_sound}
use Rattle.ring.specs.Ring.{ring_sound}
use Rattle.tracker.specs.Sound.{positive_or, hint_sound, proper, counted, sound}
use Rattle.marks.proofs.Bounds.{both, join}

-- ---- a sound tracker
pub record Fine (k : Settings) (m : Tracker) : Type 0 where
  pub pair : T (pair_sound k m.pair)
  pub ring : T (ring_sound k m.ring)
  pub recent : T (all_durations m.recent)
  pub wpm : T (positive_or m.wpm)
  pub egap : T (positive_or m.egap)
  pub hint : T (hint_sound k m.hint)

module _ (k : Settings) (m : Tracker) where
  abbrev e5 : Bool
  e5 = positive_or m.egap && hint_sound k m.hint

  abbrev e4 : Bool
  e4 = positive_or m.wpm && e5

  abbrev e3 : Bool
  e3 = all_durations m.recent && e4

  abbrev e2 : Bool
  e2 = ring_sound k m.ring && e3

  pub fine : T (proper k m) → Fine k m
  unfolding proper
  fine t =
      let a = both (pair_sound k m.pair) e2 t in
      let b = both (ring_sound k m.ring) e3 a.1 in
      let c = both (all_durations m.recent) e4 b.1 in
      let d = both (positive_or m.wpm) e5 c.1 in
      let e = both (positive_or m.egap) (hint_sound k m.hint) d.1 in
      record { pair = a.0; ring = b.0; recent = c.0; wpm = d.0; egap = e.0; hint = e.1 }

  pub proper_of : Fine k m → T (proper k m)
  unfolding proper
  proper_of f =
      join (pair_sound k m.pair) e2 f.pair
      (join (ring_sound k m.ring) e3 f.ring
      (join (all_durations m.recent) e4 f.recent
      (join (positive_or m.wpm) e5 f.wpm (join (positive_or m.egap) (hint_sound k m.hint) f.egap f.hint))))

-- ---- and its counts
pub counted_is : (t : SpeedTracker) → counted t ≡ true → Counted t
counted_is t e =
    let b = both (leb t.pair.init_len 12) (leb t.ring_len 12 && leb t.recent_len 5) (passed e) in
    let c = both (leb t.ring_len 12) (leb t.recent_len 5) b.1 in
    record { init = leb→le t.pair.init_len 12 b.0; ring = leb→le t.ring_len 12 c.0; recent = leb→le t.recent_len 5 c.1 }

module _ (k : Settings) (t : SpeedTracker) where
  pub counts : T (sound k t) → Counted t
  unfolding sound
  counts s = counted_is t (is_true (counted t) (both (counted t) (proper k (view t)) s).0)

  pub sound_proper : T (sound k t) → T (proper k (view t))
  unfolding sound
  sound_proper s = (both (counted t) (proper k (view t)) s).1

  pub sound_fine : T (sound k t) → Fine k (view t)
  sound_fine s = fine k (view t) (sound_proper s)

  pub sound_of : Counted t → T (proper k (view t)) → T (sound k t)
  unfolding sound
  sound_of c p =
      join (counted t) (proper k (view t))
      (join (leb t.pair.init_len 12) (leb t.ring_len 12 && leb t.recent_len 5) (le→leb t.pair.init_len 12 c.init)
      (join (leb t.ring_len 12) (leb t.recent_len 5) (le→leb t.ring_len 12 c.ring) (le→leb t.recent_len 5 c.recent))) p

  -- a tracker whose view a definition gives is sound where that is
  pub sound_by : (m : Tracker) → (view t ≡ m) × Counted t → T (proper k m) → T (sound k t)
  sound_by m e p = sound_of e.1 (subst (λ (x : Tracker). T (proper k x)) (sym e.0) p)
