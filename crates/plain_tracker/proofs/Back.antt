-- A tracker goes into its plain form and comes back: all that is part of its state. Assumes nothing.
use mathlib.Core.Path.{◌≡◌, refl, ap}
use mathlib.Core.Bool.{Bool, true, false, ◌&&◌}
use mathlib.Core.List.{List, [], ◌∷◌, map}
use Prim.Native.Nat.{ℕ, zero, suc}
use lib.ListN.{take}
use lib.Ieee.{Float}
use Rattle.std.specs.Prelude.{Option as Given, Some, None, is_some}
use Rattle.std.specs.Bool.{then_some}
use Rattle.ranges.specs.Limits.{nought}
use Rattle.ranges.specs.Settings.{Settings}
use Rattle.std.specs.List.{list_all}
use Rattle.pair.specs.declared.ClusterPair.{ClusterPair}
use Rattle.ring.specs.declared.RingEntry.{RingEntry}
use Rattle.tracker.specs.declared.SpeedTracker.{SpeedTracker}
use Rattle.tracker.specs.Model.{view}
use Rattle.tracker.specs.Sound.{counted, proper, sound}
use Rattle.plain_tracker.specs.Plain.{
  as_flag,
  as_number,
  is_flag,
  carried,
  first_of,
  has,
  optional,
  or_nought,
  plain_pair,
  pair_of,
  is_pair,
  plain_entry,
  entry_of,
  blank_entry,
  no_entry,
  is_entry,
  plain_tracker,
  tracker_of,
  is_tracker,
}
use Rattle.plain_tracker.proofs.Carrying.{carried_same, take_kept}

pub flag_back : (b : Bool) → as_flag (as_number b) ≡ b
flag_back true = refl
flag_back false = refl

pub flag_named : (b : Bool) → is_flag (as_number b) ≡ true
flag_named true = refl
flag_named false = refl

-- a number that may be absent
pub optional_back : (x : Given Float) → optional (has x) (or_nought x) ≡ x
optional_back None = refl
optional_back (Some x) = refl

-- what is emptied stays so
pub emptied : (n : ℕ) (x : Float) → or_nought (optional n (or_nought (optional n x))) ≡ or_nought (optional n x)
emptied n x = go (as_flag n)
  where
    go : (b : Bool) → or_nought (then_some b (or_nought (then_some b x))) ≡ or_nought (then_some b x)
    go true = refl
    go false = refl

-- ---- a tracker whose places beyond a count are empty

abbrev pub trimmed_pair : ClusterPair → ClusterPair
trimmed_pair p = record {
  lo = p.lo;
  hi = p.hi;
  init = first_of p.init_len p.init;
  init_len = p.init_len;
  ready = p.ready;
  confirmed = p.confirmed;
  placeholder_is_lo = p.placeholder_is_lo;
  lo_n = p.lo_n;
}

abbrev pub trimmed_tracker : SpeedTracker → SpeedTracker
trimmed_tracker t = record {
  pair = trimmed_pair t.pair;
  ring = carried (λ e. e) no_entry t.ring_len t.ring;
  ring_len = t.ring_len;
  wpm_ema = t.wpm_ema;
  recent = first_of t.recent_len t.recent;
  recent_len = t.recent_len;
  mu_egap_ms = t.mu_egap_ms;
  ratio_hint = t.ratio_hint;
  regime = t.regime;
  badlock_recovered = t.badlock_recovered;
  lo_uncorroborated = t.lo_uncorroborated;
}

pair_back : (p : ClusterPair) → pair_of (plain_pair p) ≡ trimmed_pair p
pair_back p = λ i. record {
  lo = p.lo;
  hi = p.hi;
  init = first_of p.init_len p.init;
  init_len = p.init_len;
  ready = flag_back p.ready i;
  confirmed = flag_back p.confirmed i;
  placeholder_is_lo = flag_back p.placeholder_is_lo i;
  lo_n = p.lo_n;
}

entry_back : (e : RingEntry) → entry_of (plain_entry e) ≡ e
entry_back e =
    λ i. record { dur_ms = e.dur_ms; assigned_dit = flag_back e.assigned_dit i; pre_lo = e.pre_lo; pre_hi = e.pre_hi }

-- the places of the ring, those beyond the count empty
ring_back : (n : ℕ) (l : List RingEntry)
    → map entry_of (carried plain_entry blank_entry n l) ≡ carried (λ e. e) no_entry n l
unfolding carried
ring_back n [] = refl
ring_back zero (e ∷ l) = ap (λ r. no_entry ∷ r) (ring_back zero l)
ring_back (suc n) (e ∷ l) = λ i. entry_back e i ∷ ring_back n l i

pub tracker_back : (t : SpeedTracker) → tracker_of (plain_tracker t) ≡ trimmed_tracker t
tracker_back t = λ i. record {
  pair = pair_back t.pair i;
  ring = ring_back t.ring_len t.ring i;
  ring_len = t.ring_len;
  wpm_ema = optional_back t.wpm_ema i;
  recent = first_of t.recent_len t.recent;
  recent_len = t.recent_len;
  mu_egap_ms = optional_back t.mu_egap_ms i;
  ratio_hint = optional_back t.ratio_hint i;
  regime = t.regime;
  badlock_recovered = flag_back t.badlock_recovered i;
  lo_uncorroborated = flag_back t.lo_uncorroborated i;
}

-- it has the same plain form, means the same, and is as sound
pub tracker_plain : (t : SpeedTracker) → plain_tracker (trimmed_tracker t) ≡ plain_tracker t
tracker_plain t =
    rw (
      carried_same (λ x. x) nought nought t.pair.init_len t.pair.init,
      carried_same plain_entry blank_entry no_entry t.ring_len t.ring,
      carried_same (λ x. x) nought nought t.recent_len t.recent,
    )

pub tracker_view : (t : SpeedTracker) → view (trimmed_tracker t) ≡ view t
tracker_view t =
    rw (
      take_kept nought t.pair.init_len t.pair.init,
      take_kept no_entry t.ring_len t.ring,
      take_kept nought t.recent_len t.recent,
    )

pub tracker_sound : (k : Settings) (t : SpeedTracker) → sound k (trimmed_tracker t) ≡ sound k t
unfolding sound
tracker_sound k t = ap (λ m. counted t && proper k m) (tracker_view t)

pair_named : (p : ClusterPair) → is_pair (plain_pair p) ≡ true
pair_named p = rw (flag_named p.ready, flag_named p.confirmed, flag_named p.placeholder_is_lo)

ring_named : (n : ℕ) (l : List RingEntry) → list_all is_entry (take n (carried plain_entry blank_entry n l)) ≡ true
unfolding carried
ring_named zero [] = refl
ring_named zero (e ∷ l) = refl
ring_named (suc n) [] = refl
ring_named (suc n) (e ∷ l) = rw (flag_named e.assigned_dit, ring_named n l)

-- and it is known for a tracker's
pub tracker_named : (t : SpeedTracker) → is_tracker (plain_tracker t) ≡ true
tracker_named t =
    rw (
      pair_named t.pair,
      flag_named (is_some t.wpm_ema),
      flag_named (is_some t.mu_egap_ms),
      flag_named (is_some t.ratio_hint),
      flag_named t.badlock_recovered,
      flag_named t.lo_uncorroborated,
      ring_named t.ring_len t.ring,
    )
