-- What the machine's hold on a tracker says of its numbers: they are values of f32. Assumes nothing.
use Rattle.std.proofs.Common.{◌≡◌, true, T, List, length, ap, Option as Given, Some, None}
use Rattle.std.specs.contracts.option.Option.{the_field}
use mir.Val.{Val}
use denote.Builtin.{f32}
use lib.Ieee.{Float}
use denote.RattleType.{Valss, owns}
use denote.Shadow.{shadow}
use denote.Struct.Declared.{shape}
use Rattle.ranges.specs.declared.duration.Duration.{Duration}
use Rattle.ranges.specs.Interval.{In}
use Rattle.ranges.specs.Limits.{duration_min, duration_max, dah_min, dah_max}
use Rattle.ranges.specs.Settings.{standard}
use Rattle.ranges.proofs.Compare.{passed}
use Rattle.ranges.proofs.Standard.{standard_good, standard_held}
use Rattle.tracker.specs.Steps.{dit_estimate, settled}
use Rattle.tracker.specs.declared.SpeedTracker.{SpeedTracker}
use Rattle.tracker.specs.declared.sound_tracker.SoundTracker.{SoundTracker}
use Rattle.tracker.specs.Model.{Tracker, view}
use Rattle.pair.specs.Model.{held}
use Rattle.tracker.specs.Parts.{Counted, unflagged}
use Rattle.tracker.specs.Sound.{sound}
use Rattle.tracker.specs.contracts.SpeedTracker.{the_type}
use Rattle.tracker.specs.contracts.sound_tracker.SoundTracker as Sounds
use Rattle.marks.specs.Lists.{duration}
use Rattle.marks.proofs.Bounds.{outside}
use Rattle.tracker.proofs.Soundness.{sound_fine, sound_by, proper_of}
use Rattle.tracker.proofs.Keeping.{fits_or, Floats, Sane, ready_dit, ready_dah, ready_estimate}

-- a duration's bounds, as the definitions test them
pub lasts : (d : Duration) → T (duration d.ms)
lasts d = outside duration_min duration_max d.ms d.held

-- of an option: its number is one
held_fits : (x : Given Float) (v : List Val) → shadow ((the_field f32).row.own_val ((the_field f32).into x) v)
    → T (fits_or (held x))
held_fits None v s = tt
held_fits (Some w) v s = passed s.1.1.1.1.0.1

-- what `c.good` has of a tracker
pub floats_of : (t : SpeedTracker) (v : Valss (shape the_type).fields)
    → shadow (owns (shape the_type).fields (the_type.to t) v) → Floats (view t)
floats_of t v g = record {
  lo = passed g.0.1.1.0.1;
  hi = passed g.0.1.1.1.0.1;
  wpm = held_fits t.wpm_ema _ g.1.1.1.0;
  egap = held_fits t.mu_egap_ms _ g.1.1.1.1.1.1.0;
}

pub sane_of : (t : SoundTracker) (v : Valss (shape Sounds.the_type).fields)
    → shadow (owns (shape Sounds.the_type).fields (Sounds.the_type.to t) v)
    → Sane standard standard_good standard_held (view t.tracker)
sane_of t v g = record { fine = sound_fine standard t.tracker t.held; floats = floats_of t.tracker _ g.0.1.1 }

-- a tracker with the view m, which is sane, is sound
pub still : (r : SpeedTracker) (m : Tracker) → (view r ≡ m) × Counted r → Sane standard standard_good standard_held m
    → T (sound standard r)
still r m e s = sound_by standard r m e (proper_of standard m s.fine)

-- what a tracker means once the flag of a recovery is cleared
pub unflagged_view : (r t : SpeedTracker) → r ≡ unflagged t → view r ≡ settled (view t)
unfolding settled unflagged
unflagged_view r t e = ap view e

pub init_long : (t : SpeedTracker) (v : Valss (shape the_type).fields)
    → shadow (owns (shape the_type).fields (the_type.to t) v) → length t.pair.init ≡ 12
init_long t v g = g.0.1.1.1.1.0.1.0.1

pub ring_long : (t : SpeedTracker) (v : Valss (shape the_type).fields)
    → shadow (owns (shape the_type).fields (the_type.to t) v) → length t.ring ≡ 12
ring_long t v g = g.1.0.1.0.1

pub recent_long : (t : SpeedTracker) (v : Valss (shape the_type).fields)
    → shadow (owns (shape the_type).fields (the_type.to t) v) → length t.recent ≡ 5
recent_long t v g = g.1.1.1.1.0.1.0.1

-- ---- what a ready one says, for the layers above
module _ (t : SpeedTracker) (s : T (sound standard t)) (e : t.pair.ready ≡ true) where
  pub ready_dit_in : In standard.dit_min standard.dit_max t.pair.lo
  ready_dit_in = ready_dit standard standard_good standard_held (view t) (sound_fine standard t s) e

  pub ready_dah_in : In dah_min dah_max t.pair.hi
  ready_dah_in = ready_dah standard standard_good standard_held (view t) (sound_fine standard t s) e

  pub ready_estimate_in : In standard.dit_min standard.dit_max (dit_estimate standard (view t))
  ready_estimate_in = ready_estimate standard standard_good standard_held (view t) (sound_fine standard t s) e
