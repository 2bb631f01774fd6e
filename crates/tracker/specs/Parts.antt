-- What the parts of the code say. Definitions only.
use Rattle.std.specs.Prelude.{◌≡◌, ◌≤◌, false, T, length, replicate, Option as Given, Some, None}
use Rattle.std.proofs.Math.Option.{Option, none, some}
use Rattle.ranges.specs.Limits.{nought}
use Rattle.ranges.specs.Settings.{standard}
use Rattle.ring.specs.declared.RingEntry.{RingEntry}
use Rattle.tracker.specs.declared.SpeedTracker.{SpeedTracker}
use Rattle.tracker.specs.declared.sound_tracker.SoundTracker.{SoundTracker}
use Rattle.tracker.specs.Model.{Tracker, view}
use Rattle.ring.specs.Ring.{ring_sound}
use Rattle.marks.specs.Lists.{all_durations}

-- counts within their arrays
pub record Counted (t : SpeedTracker) : Type 0 where
  pub init : t.pair.init_len ≤ 12
  pub ring : t.ring_len ≤ 12
  pub recent : t.recent_len ≤ 5

-- a full ring, whose marks and centroids are sound
pub record Full (t : SpeedTracker) : Type 0 where
  pub count : t.ring_len ≡ 12
  pub ring : T (ring_sound standard t.ring)

-- what a check for drift asks: a sound ring and sound recent marks, of which there is one
pub record Drivable (m : Tracker) : Type 0 where
  pub ring : T (ring_sound standard m.ring)
  pub recent : T (all_durations m.recent)
  pub held : 1 ≤ length m.recent

pub record Checkable (t : SpeedTracker) : Type 0 where
  pub counted : Counted t
  pub drivable : Drivable (view t)

-- what a tracker means, where there is one
abbrev pub other : Given SoundTracker → Option Tracker
other (Some t) = some (view t.tracker)
other None = none

-- a fresh tracker, place by place
abbrev pub blank_entry : RingEntry
blank_entry = record { dur_ms = nought; assigned_dit = false; pre_lo = nought; pre_hi = nought }

abbrev pub blank : SpeedTracker
blank = record {
  pair =
      record {
        lo = nought;
        hi = nought;
        init = replicate 12 nought;
        init_len = 0;
        ready = false;
        confirmed = false;
        placeholder_is_lo = false;
        lo_n = 0;
      };
  ring = replicate 12 blank_entry;
  ring_len = 0;
  wpm_ema = None;
  recent = replicate 5 nought;
  recent_len = 0;
  mu_egap_ms = None;
  ratio_hint = None;
  regime = 0;
  badlock_recovered = false;
  lo_uncorroborated = false;
}

-- a tracker with the flag of a recovery cleared: each other field is as it was, with places beyond a count
unfoldable pub unflagged : SpeedTracker → SpeedTracker
unflagged t = record {
  pair = t.pair;
  ring = t.ring;
  ring_len = t.ring_len;
  wpm_ema = t.wpm_ema;
  recent = t.recent;
  recent_len = t.recent_len;
  mu_egap_ms = t.mu_egap_ms;
  ratio_hint = t.ratio_hint;
  regime = t.regime;
  badlock_recovered = false;
  lo_uncorroborated = t.lo_uncorroborated;
}
