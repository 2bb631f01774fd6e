-- A form that is a station's, read and written again, is as it was, but for what is no part of a state. Assumes nothing.
use mathlib.Core.Path.{◌≡◌, refl, ap, sym, ◌∙◌}
use mathlib.Core.Bool.{Bool, true, false, cond, ◌&&◌}
use mathlib.Core.List.{List, [], ◌∷◌, map}
use Prim.Native.Nat.{ℕ, zero, suc}
use native.Mathlib.Omega.{arith}
use lib.Dec.{T, eqb, leb, leb→le}
use lib.ListN.{take}
use borrow.Author.Tests.{ne_eqb}
use Rattle.ranges.proofs.Compare.{passed}
use Rattle.std.specs.Bool.{then_some}
use Rattle.std.specs.List.{list_all}
use Rattle.std.specs.Option.{unwrap_or}
use Rattle.std.specs.Prelude.{is_some}
use Rattle.ranges.specs.Limits.{nought}
use Rattle.marks.proofs.Bounds.{both}
use Rattle.plain_tracker.specs.declared.PlainPair.{PlainPair}
use Rattle.plain_tracker.specs.declared.PlainEntry.{PlainEntry}
use Rattle.plain_tracker.specs.declared.PlainTracker.{PlainTracker}
use Rattle.plain_tracker.specs.Plain.{as_flag, as_number, is_flag, carried, first_of, zeros, has, optional, plain_pair, pair_of, is_pair, plain_entry, entry_of, blank_entry, is_entry, is_ring, plain_tracker, tracker_of, is_tracker}
use Rattle.plain_tracker.specs.Plain as Trackers
use Rattle.plain.specs.declared.PlainHypothesis.{PlainHypothesis}
use Rattle.plain.specs.declared.PlainRecord.{PlainRecord}
use Rattle.plain.specs.declared.PlainBank.{PlainBank}
use Rattle.plain.specs.Plain.{origin_code, retained, origin_of, side_number, plain_hyp, hyp_of, no_hyp, blank_hyp, is_hyp, plain_record, record_of, no_record, blank_record, is_record, plain_bank, bank_of, is_side, are_flags, is_crew, is_log, is_bank}
use Rattle.plain_station.specs.declared.PlainStation.{PlainStation}
use Rattle.plain_station.specs.Plain.{plain_station, station_of, is_station}
use Rattle.plain_station.specs.Tidied.{tidied_pair, tidied_entry, tidied_tracker, tidied_hyp, tidied_record, tidied_bank, tidied, Returned}

-- ---- flags and origins

pub number_back : (n : ℕ) → T (is_flag n) → as_number (as_flag n) ≡ n
number_back zero t = refl
number_back (suc zero) t = refl
number_back (suc (suc n)) t = let h = leb→le (suc (suc n)) 1 t in absurd (omega arith)

pub code_back : (n m : ℕ) → T (leb n 2) → origin_code (origin_of n m) ≡ n
code_back zero m t = refl
code_back (suc zero) m t = refl
code_back (suc (suc zero)) m t = refl
code_back (suc (suc (suc n))) m t = let h = leb→le (suc (suc (suc n))) 2 t in absurd (omega arith)

marks_back : (n m : ℕ) → T (leb n 2) → retained (origin_of n m) ≡ cond (eqb n 2) m 0
marks_back zero m t = refl
marks_back (suc zero) m t = refl
marks_back (suc (suc zero)) m t = refl
marks_back (suc (suc (suc n))) m t = let h = leb→le (suc (suc (suc n))) 2 t in absurd (omega arith)

no_side : (n m : ℕ) → T (is_side (suc (suc n)) m) → ⊥
no_side n m t = rw (ne_eqb (suc (suc n)) 1 (λ h. omega arith), ne_eqb (suc (suc n)) 0 (λ h. omega arith)) at t

side_back : (n m : ℕ) → T (is_side n m) → side_number (optional n (as_flag m)) ≡ cond (as_flag n) m 0
side_back zero m t = refl
side_back (suc zero) m t = number_back m t
side_back (suc (suc n)) m t = absurd (no_side n m t)

-- what may be absent: its flag, and it where the flag says that it is there
flag_again : {A : Type 0} (n : ℕ) (x : A) → T (is_flag n) → has (optional n x) ≡ n
flag_again n x t = go (as_flag n) ∙ number_back n t
  where
    go : (b : Bool) → as_number (is_some (then_some b x)) ≡ as_number b
    go true = refl
    go false = refl

side_again : (n m : ℕ) → T (is_side n m) → has (optional n (as_flag m)) ≡ n
side_again zero m t = refl
side_again (suc zero) m t = refl
side_again (suc (suc n)) m t = absurd (no_side n m t)

value_again : {A : Type 0} (b : Bool) (x z : A) → unwrap_or (then_some b x) z ≡ cond b x z
value_again true x z = refl
value_again false x z = refl

-- ---- a list cut at its count, read and written again

module _ {A B : Type 0} (f : A → B) (g : B → A) (z : B) (y : A) (u : B → B) (p : B → Bool) (back : (x : B) → T (p x) → f (g x) ≡ u x) where
  again : (n : ℕ) (l : List B) → T (list_all p (take n l)) → carried f z n (carried g y n l) ≡ carried u z n l
  unfolding carried
  again n [] t = refl
  again zero (x ∷ l) t = ap (λ r. z ∷ r) (again zero l tt)
  again (suc n) (x ∷ l) t = let b = both (p x) (list_all p (take n l)) t in λ i. back x b.0 i ∷ again n l b.1 i

-- ---- a tracker

pair_again : (p : PlainPair) → T (is_pair p) → plain_pair (pair_of p) ≡ tidied_pair p
pair_again p t =
    let a = both (is_flag p.ready) (is_flag p.confirmed && is_flag p.placeholder_is_lo) t in
    let b = both (is_flag p.confirmed) (is_flag p.placeholder_is_lo) a.1 in
    λ i. record {
      lo = p.lo;
      hi = p.hi;
      init = first_of p.init_len p.init;
      init_len = p.init_len;
      ready = number_back p.ready a.0 i;
      confirmed = number_back p.confirmed b.0 i;
      placeholder_is_lo = number_back p.placeholder_is_lo b.1 i;
      pad_placeholder_is_lo = zeros 5;
      lo_n = p.lo_n;
    }

entry_again : (p : PlainEntry) → T (is_entry p) → plain_entry (entry_of p) ≡ tidied_entry p
entry_again p t = λ i. record {
  dur_ms = p.dur_ms;
  assigned_dit = number_back p.assigned_dit t i;
  pad_assigned_dit = zeros 3;
  pre_lo = p.pre_lo;
  pre_hi = p.pre_hi;
}

ring_again : (n : ℕ) (l : List PlainEntry) → T (list_all is_entry (take n l)) → carried plain_entry blank_entry n (map entry_of l) ≡ carried tidied_entry blank_entry n l
unfolding carried
ring_again n [] t = refl
ring_again zero (x ∷ l) t = ap (λ r. blank_entry ∷ r) (ring_again zero l tt)
ring_again (suc n) (x ∷ l) t = let b = both (is_entry x) (list_all is_entry (take n l)) t in λ i. entry_again x b.0 i ∷ ring_again n l b.1 i

pub tracker_again : (p : PlainTracker) → T (is_tracker p) → plain_tracker (tracker_of p) ≡ tidied_tracker p
tracker_again p t =
    let a = both (is_pair p.pair) (Trackers.are_flags p && is_ring p) t in
    let b = both (Trackers.are_flags p) (is_ring p) a.1 in
    let c = both (is_flag p.has_wpm) (is_flag p.has_egap && (is_flag p.has_hint && (is_flag p.badlock_recovered && is_flag p.lo_uncorroborated))) b.0 in
    let d = both (is_flag p.has_egap) (is_flag p.has_hint && (is_flag p.badlock_recovered && is_flag p.lo_uncorroborated)) c.1 in
    let e = both (is_flag p.has_hint) (is_flag p.badlock_recovered && is_flag p.lo_uncorroborated) d.1 in
    let f = both (is_flag p.badlock_recovered) (is_flag p.lo_uncorroborated) e.1 in
    λ i. record {
      pair = pair_again p.pair a.0 i;
      ring = ring_again p.ring_len p.ring b.1 i;
      ring_len = p.ring_len;
      has_wpm = flag_again p.has_wpm p.wpm_ema c.0 i;
      pad_has_wpm = zeros 3;
      wpm_ema = value_again (as_flag p.has_wpm) p.wpm_ema nought i;
      recent = first_of p.recent_len p.recent;
      pad_recent = zeros 4;
      recent_len = p.recent_len;
      has_egap = flag_again p.has_egap p.mu_egap_ms d.0 i;
      pad_has_egap = zeros 3;
      mu_egap_ms = value_again (as_flag p.has_egap) p.mu_egap_ms nought i;
      has_hint = flag_again p.has_hint p.ratio_hint e.0 i;
      pad_has_hint = zeros 3;
      ratio_hint = value_again (as_flag p.has_hint) p.ratio_hint nought i;
      regime = p.regime;
      badlock_recovered = number_back p.badlock_recovered f.0 i;
      lo_uncorroborated = number_back p.lo_uncorroborated f.1 i;
      pad_lo_uncorroborated = zeros 2;
    }

-- ---- a challenger, a switch record, a bank

hyp_again : (p : PlainHypothesis) → T (is_hyp p) → plain_hyp (hyp_of p) ≡ tidied_hyp p
hyp_again p t =
    let a = both (leb p.origin 2) (is_flag p.reported && is_tracker p.tracker) t in
    let b = both (is_flag p.reported) (is_tracker p.tracker) a.1 in
    λ i. record {
      tracker = tracker_again p.tracker b.1 i;
      score = p.score;
      gap_score = p.gap_score;
      lead_marks = p.lead_marks;
      age_marks = p.age_marks;
      origin = code_back p.origin p.retain_marks a.0 i;
      pad_origin = zeros 3;
      retain_marks = marks_back p.origin p.retain_marks a.0 i;
      reported = number_back p.reported b.0 i;
      pad_reported = zeros 3;
      ln_lo = p.ln_lo;
      ln_hi = p.ln_hi;
      pad_ln_hi = zeros 4;
      serial = p.serial;
    }

record_again : (p : PlainRecord) → T (is_record p) → plain_record (record_of p) ≡ tidied_record p
record_again p t = λ i. record {
  mark_index = p.mark_index;
  from_dit_ms = p.from_dit_ms;
  to_dit_ms = p.to_dit_ms;
  applied = number_back p.applied t i;
  pad_applied = zeros 7;
}

pub bank_again : (p : PlainBank) → T (is_bank p) → plain_bank (bank_of p) ≡ tidied_bank p
unfolding is_crew is_log
bank_again p t =
    let a = both (are_flags p) (is_crew p && is_log p) t in
    let b = both (is_crew p) (is_log p) a.1 in
    let c = both (is_flag p.switching && is_side p.has_side p.streak_side) (is_flag p.has_last_gap && is_flag p.has_pending) a.0 in
    let d = both (is_flag p.switching) (is_side p.has_side p.streak_side) c.0 in
    let e = both (is_flag p.has_last_gap) (is_flag p.has_pending) c.1 in
    λ i. record {
      width = p.width;
      switching = number_back p.switching d.0 i;
      pad_switching = zeros 3;
      primary_score = p.primary_score;
      primary_gap_score = p.primary_gap_score;
      pad_primary_gap_score = zeros 4;
      challengers = again plain_hyp hyp_of blank_hyp no_hyp tidied_hyp is_hyp hyp_again p.challengers_len p.challengers b.0 i;
      challengers_len = p.challengers_len;
      streak = first_of p.streak_len p.streak;
      streak_len = p.streak_len;
      streak_gaps = first_of p.streak_gaps_len p.streak_gaps;
      streak_gaps_len = p.streak_gaps_len;
      has_side = side_again p.has_side p.streak_side d.1 i;
      streak_side = side_back p.has_side p.streak_side d.1 i;
      has_last_gap = flag_again p.has_last_gap p.last_gap e.0 i;
      pad_has_last_gap = zeros 1;
      last_gap = value_again (as_flag p.has_last_gap) p.last_gap nought i;
      marks_seen = p.marks_seen;
      gaps_seen = p.gaps_seen;
      has_pending = flag_again p.has_pending p.pending e.1 i;
      pad_has_pending = zeros 7;
      pending = value_again (as_flag p.has_pending) p.pending 0 i;
      log = again plain_record record_of blank_record no_record tidied_record is_record record_again p.log_len p.log b.1 i;
      log_len = p.log_len;
      started = p.started;
    }

-- ---- a station

pub returned : Returned
returned p e =
    let a = both (is_tracker p.primary) (is_bank p.bank) (passed e) in
    λ i. record {
      primary = tracker_again p.primary a.0 i;
      serial = p.serial;
      bank = bank_again p.bank a.1 i;
      twins = p.twins;
      outscored = p.outscored;
      aged = p.aged;
      replaced = p.replaced;
      cleared = p.cleared;
      accepted = p.accepted;
    }

-- so a form is that of its own station exactly where what is no part of a state is empty
pub neat_empty : (p : PlainStation) → is_station p ≡ true → p ≡ plain_station (station_of p) → p ≡ tidied p
neat_empty p e h = h ∙ returned p e

pub empty_neat : (p : PlainStation) → is_station p ≡ true → p ≡ tidied p → p ≡ plain_station (station_of p)
empty_neat p e h = h ∙ sym (returned p e)
