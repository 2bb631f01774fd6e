-- What a tracker means: lists in place of arrays and counts, and numbers that may be absent. Definitions only.
use Rattle.std.specs.Prelude.{ℕ, Bool, List, take, Float}
use Rattle.std.proofs.Math.Option.{Option}
use Rattle.ring.specs.declared.RingEntry.{RingEntry}
use Rattle.tracker.specs.declared.SpeedTracker.{SpeedTracker}
use Rattle.pair.specs.Model.{Pair, held, view_pair}

-- the Rust's `SpeedTracker`, its fields in order
pub record Tracker : Type 0 where
  pub pair : Pair
  pub ring : List RingEntry
  pub wpm : Option Float
  pub recent : List Float
  pub egap : Option Float
  pub hint : Option Float
  pub regime : ℕ
  pub recovered : Bool
  pub uncorroborated : Bool

-- "Places beyond a count .. are no part of a state"
abbrev pub view : SpeedTracker → Tracker
view t = record {
  pair = view_pair t.pair;
  ring = take t.ring_len t.ring;
  wpm = held t.wpm_ema;
  recent = take t.recent_len t.recent;
  egap = held t.mu_egap_ms;
  hint = held t.ratio_hint;
  regime = t.regime;
  recovered = t.badlock_recovered;
  uncorroborated = t.lo_uncorroborated;
}

abbrev pub with_pair : Tracker → Pair → Tracker
with_pair t p = record {
  pair = p;
  ring = t.ring;
  wpm = t.wpm;
  recent = t.recent;
  egap = t.egap;
  hint = t.hint;
  regime = t.regime;
  recovered = t.recovered;
  uncorroborated = t.uncorroborated;
}

abbrev pub with_ring : Tracker → List RingEntry → Tracker
with_ring t l = record {
  pair = t.pair;
  ring = l;
  wpm = t.wpm;
  recent = t.recent;
  egap = t.egap;
  hint = t.hint;
  regime = t.regime;
  recovered = t.recovered;
  uncorroborated = t.uncorroborated;
}

abbrev pub with_wpm : Tracker → Option Float → Tracker
with_wpm t w = record {
  pair = t.pair;
  ring = t.ring;
  wpm = w;
  recent = t.recent;
  egap = t.egap;
  hint = t.hint;
  regime = t.regime;
  recovered = t.recovered;
  uncorroborated = t.uncorroborated;
}

abbrev pub with_recent : Tracker → List Float → Tracker
with_recent t l = record {
  pair = t.pair;
  ring = t.ring;
  wpm = t.wpm;
  recent = l;
  egap = t.egap;
  hint = t.hint;
  regime = t.regime;
  recovered = t.recovered;
  uncorroborated = t.uncorroborated;
}

abbrev pub with_egap : Tracker → Option Float → Tracker
with_egap t g = record {
  pair = t.pair;
  ring = t.ring;
  wpm = t.wpm;
  recent = t.recent;
  egap = g;
  hint = t.hint;
  regime = t.regime;
  recovered = t.recovered;
  uncorroborated = t.uncorroborated;
}

abbrev pub with_hint : Tracker → Option Float → Tracker
with_hint t h = record {
  pair = t.pair;
  ring = t.ring;
  wpm = t.wpm;
  recent = t.recent;
  egap = t.egap;
  hint = h;
  regime = t.regime;
  recovered = t.recovered;
  uncorroborated = t.uncorroborated;
}

abbrev pub with_regime : Tracker → ℕ → Tracker
with_regime t n = record {
  pair = t.pair;
  ring = t.ring;
  wpm = t.wpm;
  recent = t.recent;
  egap = t.egap;
  hint = t.hint;
  regime = n;
  recovered = t.recovered;
  uncorroborated = t.uncorroborated;
}

abbrev pub with_recovered : Tracker → Bool → Tracker
with_recovered t b = record {
  pair = t.pair;
  ring = t.ring;
  wpm = t.wpm;
  recent = t.recent;
  egap = t.egap;
  hint = t.hint;
  regime = t.regime;
  recovered = b;
  uncorroborated = t.uncorroborated;
}

abbrev pub with_uncorroborated : Tracker → Bool → Tracker
with_uncorroborated t b = record {
  pair = t.pair;
  ring = t.ring;
  wpm = t.wpm;
  recent = t.recent;
  egap = t.egap;
  hint = t.hint;
  regime = t.regime;
  recovered = t.recovered;
  uncorroborated = b;
}
