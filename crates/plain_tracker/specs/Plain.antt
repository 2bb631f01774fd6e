-- What the plain form of a tracker means: a flag is a number, 1 yes and 0 no, and what lies beyond a count, or is
-- marked absent, is left empty. Definitions only.
use Rattle.std.specs.Prelude.{
  Bool,
  false,
  cond,
  ◌&&◌,
  List,
  [],
  ◌∷◌,
  map,
  ℕ,
  zero,
  suc,
  eqb,
  leb,
  take,
  Float,
  Option,
  is_some,
}
use Rattle.std.specs.Bool.{then_some}
use Rattle.std.specs.List.{list_all}
use Rattle.std.specs.Option.{unwrap_or}
use Rattle.ranges.specs.Limits.{nought}
use Rattle.pair.specs.declared.ClusterPair.{ClusterPair}
use Rattle.ring.specs.declared.RingEntry.{RingEntry}
use Rattle.tracker.specs.declared.SpeedTracker.{SpeedTracker}
use Rattle.plain_tracker.specs.declared.PlainPair.{PlainPair}
use Rattle.plain_tracker.specs.declared.PlainEntry.{PlainEntry}
use Rattle.plain_tracker.specs.declared.PlainTracker.{PlainTracker}

-- ---- flags

abbrev pub as_number : Bool → ℕ
as_number b = cond b 1 0

-- the flag that has a number; of one above 1, which no flag has, no
abbrev pub as_flag : ℕ → Bool
as_flag n = eqb n 1

-- a number that a flag has
abbrev pub is_flag : ℕ → Bool
is_flag n = leb n 1

-- ---- lists

-- the first n of a list, each by f, and z in every place beyond them
unfoldable pub carried : {A B : Type 0} → (A → B) → B → ℕ → List A → List B
carried f z n [] = []
carried f z zero (x ∷ l) = z ∷ carried f z zero l
carried f z (suc n) (x ∷ l) = f x ∷ carried f z n l

-- the first n of a list of marks or gaps, and 0 in every place beyond them
abbrev pub first_of : ℕ → List Float → List Float
first_of n l = carried (λ x. x) nought n l

-- what a host finds between two fields: n bytes of 0. A field `pad_X` stands in place of the padding after X; it is no
-- part of a state, and is not looked at
abbrev pub zeros : ℕ → List ℕ
zeros zero = []
zeros (suc n) = 0 ∷ zeros n

-- a number where there is one, else 0
abbrev pub or_nought : Option Float → Float
or_nought x = unwrap_or x nought

-- whether there is one, as a flag's number; and what is there where a flag's number says so
abbrev pub has : {A : Type 0} → Option A → ℕ
has x = as_number (is_some x)

abbrev pub optional : {A : Type 0} → ℕ → A → Option A
optional n x = then_some (as_flag n) x

-- ---- the pair

abbrev pub plain_pair : ClusterPair → PlainPair
plain_pair p = record {
  lo = p.lo;
  hi = p.hi;
  init = first_of p.init_len p.init;
  init_len = p.init_len;
  ready = as_number p.ready;
  confirmed = as_number p.confirmed;
  placeholder_is_lo = as_number p.placeholder_is_lo;
  pad_placeholder_is_lo = zeros 5;
  lo_n = p.lo_n;
}

abbrev pub pair_of : PlainPair → ClusterPair
pair_of p = record {
  lo = p.lo;
  hi = p.hi;
  init = p.init;
  init_len = p.init_len;
  ready = as_flag p.ready;
  confirmed = as_flag p.confirmed;
  placeholder_is_lo = as_flag p.placeholder_is_lo;
  lo_n = p.lo_n;
}

abbrev pub is_pair : PlainPair → Bool
is_pair p = is_flag p.ready && (is_flag p.confirmed && is_flag p.placeholder_is_lo)

-- ---- the ring

abbrev pub plain_entry : RingEntry → PlainEntry
plain_entry e = record {
  dur_ms = e.dur_ms;
  assigned_dit = as_number e.assigned_dit;
  pad_assigned_dit = zeros 3;
  pre_lo = e.pre_lo;
  pre_hi = e.pre_hi;
}

abbrev pub entry_of : PlainEntry → RingEntry
entry_of p = record { dur_ms = p.dur_ms; assigned_dit = as_flag p.assigned_dit; pre_lo = p.pre_lo; pre_hi = p.pre_hi }

-- places that hold nothing
abbrev pub blank_entry : PlainEntry
blank_entry = record {
  dur_ms = nought;
  assigned_dit = 0;
  pad_assigned_dit = zeros 3;
  pre_lo = nought;
  pre_hi = nought;
}

abbrev pub no_entry : RingEntry
no_entry = record { dur_ms = nought; assigned_dit = false; pre_lo = nought; pre_hi = nought }

abbrev pub is_entry : PlainEntry → Bool
is_entry p = is_flag p.assigned_dit

-- "Places beyond a count .. are no part of a state"
abbrev pub is_ring : PlainTracker → Bool
is_ring p = list_all is_entry (take p.ring_len p.ring)

-- ---- the tracker: "Places beyond a count and numbers marked absent are no part of a state", so they are left empty;
-- on the way back what is beyond a count is read as it stands, and a number marked absent is none

abbrev pub plain_tracker : SpeedTracker → PlainTracker
plain_tracker t = record {
  pair = plain_pair t.pair;
  ring = carried plain_entry blank_entry t.ring_len t.ring;
  ring_len = t.ring_len;
  has_wpm = has t.wpm_ema;
  pad_has_wpm = zeros 3;
  wpm_ema = or_nought t.wpm_ema;
  recent = first_of t.recent_len t.recent;
  pad_recent = zeros 4;
  recent_len = t.recent_len;
  has_egap = has t.mu_egap_ms;
  pad_has_egap = zeros 3;
  mu_egap_ms = or_nought t.mu_egap_ms;
  has_hint = has t.ratio_hint;
  pad_has_hint = zeros 3;
  ratio_hint = or_nought t.ratio_hint;
  regime = t.regime;
  badlock_recovered = as_number t.badlock_recovered;
  lo_uncorroborated = as_number t.lo_uncorroborated;
  pad_lo_uncorroborated = zeros 2;
}

abbrev pub tracker_of : PlainTracker → SpeedTracker
tracker_of p = record {
  pair = pair_of p.pair;
  ring = map entry_of p.ring;
  ring_len = p.ring_len;
  wpm_ema = optional p.has_wpm p.wpm_ema;
  recent = p.recent;
  recent_len = p.recent_len;
  mu_egap_ms = optional p.has_egap p.mu_egap_ms;
  ratio_hint = optional p.has_hint p.ratio_hint;
  regime = p.regime;
  badlock_recovered = as_flag p.badlock_recovered;
  lo_uncorroborated = as_flag p.lo_uncorroborated;
}

abbrev pub are_flags : PlainTracker → Bool
are_flags p =
    is_flag p.has_wpm &&
    (is_flag p.has_egap && (is_flag p.has_hint && (is_flag p.badlock_recovered && is_flag p.lo_uncorroborated)))

-- whether a plain form is that of a tracker
abbrev pub is_tracker : PlainTracker → Bool
is_tracker p = is_pair p.pair && (are_flags p && is_ring p)

-- refusal 1: "a state handed in is unsound", as a form that is no tracker's; then n
abbrev pub form_then : PlainTracker → ℕ → ℕ
form_then p n = cond (is_tracker p) n 1
