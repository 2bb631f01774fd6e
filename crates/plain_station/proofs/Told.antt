-- What a tracker, a challenger and a bank mean decides their plain form. Assumes nothing.
use mathlib.Core.Path.{◌≡◌, refl, ap, sym, ◌∙◌, subst}
use mathlib.Core.Bool.{Bool, true, false, cond, ◌&&◌}
use mathlib.Core.List.{List, [], ◌∷◌, map}
use Rattle.std.specs.List.{AllByRecursion}
use Rattle.std.specs.Prelude.{Option as Given, Some, None}
use Prim.Native.Nat.{ℕ, zero, suc, ◌≤◌}
use native.Mathlib.Omega.{arith}
use lib.Dec.{T, leb, leb→le}
use lib.ListN.{length, take, length-map}
use lib.Ieee.{Float, binary32, fits}
use Rattle.ranges.specs.Settings.{standard}
use Rattle.ranges.specs.Limits.{nought}
use Rattle.marks.specs.Lists.{all}
use Rattle.marks.proofs.Bounds.{both}
use Rattle.std.proofs.lemmas.List.{length-take-le}
use Rattle.pair.specs.Model.{held}
use Rattle.tracker.specs.declared.SpeedTracker.{SpeedTracker}
use Rattle.tracker.specs.Model as Tracked
use Rattle.tracker.specs.Sound as Tracking
use Rattle.tracker.proofs.Soundness.{counts}
use Rattle.bank_model.specs.Scores.{log_of, ln_dit, ln_dah}
use Rattle.rival.specs.declared.TimingHypothesis.{TimingHypothesis}
use Rattle.rival.specs.Sound.{same, logs_same, scores_sound, hyp_sound}
use Rattle.rival.specs.View.{view_hyp}
use Rattle.rival.proofs.Sounding.{ln_fits, same_is}
use Rattle.bank.specs.declared.TimingBank.{TimingBank}
use Rattle.bank_model.specs.Departures.{widest}
use Rattle.bank.specs.Sound as Banking
use Rattle.bank.specs.View as Banked
use Rattle.plain_tracker.specs.Plain.{as_number, carried, zeros, has, or_nought, plain_entry, blank_entry, plain_tracker}
use Rattle.plain.specs.Plain.{origin_code, retained, or_zero, side_number, plain_hyp, blank_hyp, plain_record, blank_record, plain_bank}

-- ---- a list that is cut at its count

-- the count
counted : {A : Type 0} (l k : List A) (n m : ℕ) → n ≤ length l → m ≤ length k → take n l ≡ take m k → n ≡ m
counted l k n m a b e = sym (length-take-le n l a) ∙ ap length e ∙ length-take-le m k b

-- what a function makes of its places, if it makes one thing of all that mean the same
module _ {A B C : Type 0} (f : A → B) (z : B) (v : A → C) (P : A → Type 0) (same : (x y : A) → P x → P y → v x ≡ v y → f x ≡ f y) where
  carried_means : (l k : List A) (n m : ℕ) → length l ≡ length k → n ≤ length l → m ≤ length k → AllByRecursion P (take n l) → AllByRecursion P (take m k) → map v (take n l) ≡ map v (take m k) → carried f z n l ≡ carried f z m k
  unfolding carried
  carried_means [] [] n m w a b p q e = refl
  carried_means [] (y ∷ k) n m w a b p q e = absurd (omega arith)
  carried_means (x ∷ l) [] n m w a b p q e = absurd (omega arith)
  carried_means (x ∷ l) (y ∷ k) zero zero w a b p q e = ap (λ r. z ∷ r) (carried_means l k zero zero (omega arith) (omega arith) (omega arith) tt tt refl)
  carried_means (x ∷ l) (y ∷ k) zero (suc m) w a b p q e = let h = ap length e in absurd (omega arith)
  carried_means (x ∷ l) (y ∷ k) (suc n) zero w a b p q e = let h = ap length e in absurd (omega arith)
  carried_means (x ∷ l) (y ∷ k) (suc n) (suc m) w a b p q e =
      let h : v x ≡ v y = cc in
      let t : map v (take n l) ≡ map v (take m k) = cc in
      λ i. same x y p.0 q.0 h i ∷ carried_means l k n m (omega arith) (omega arith) (omega arith) p.1 q.1 t i

-- each of a list, of which nothing is asked
each : {A : Type 0} (l : List A) → AllByRecursion (λ x. Unit {0}) l
each [] = tt
each (x ∷ l) = (tt, each l)

first_means : {A B : Type 0} (f : A → B) (z : B) (l k : List A) (n m : ℕ) → length l ≡ length k → n ≤ length l → m ≤ length k → take n l ≡ take m k → carried f z n l ≡ carried f z m k
first_means f z l k n m w a b e = carried_means f z (λ x. x) (λ x. Unit {0}) (λ x y p q h. ap f h) l k n m w a b (each (take n l)) (each (take m k)) (ap (map (λ x. x)) e)

-- ---- what may be absent

held_is : {A : Type 0} (x y : Given A) → held x ≡ held y → x ≡ y
held_is None None e = refl
held_is None (Some y) e = absurd cc
held_is (Some x) None e = absurd cc
held_is (Some x) (Some y) e = let h : x ≡ y = cc in ap Some h

-- ---- a tracker

pub record Sized (t : SpeedTracker) : Type 0 where
  pub init : length t.pair.init ≡ 12
  pub ring : length t.ring ≡ 12
  pub recent : length t.recent ≡ 5

module _ (t u : SpeedTracker) (a : Sized t) (b : Sized u) (s : T (Tracking.sound standard t)) (r : T (Tracking.sound standard u)) (e : Tracked.view t ≡ Tracked.view u) where
  inits : take t.pair.init_len t.pair.init ≡ take u.pair.init_len u.pair.init
  inits = ap (λ m. m.pair.init) e

  rings : take t.ring_len t.ring ≡ take u.ring_len u.ring
  rings = ap (λ m. m.ring) e

  recents : take t.recent_len t.recent ≡ take u.recent_len u.recent
  recents = ap (λ m. m.recent) e

  pub tracker_means : plain_tracker t ≡ plain_tracker u
  tracker_means =
      let c = counts standard t s in
      let d = counts standard u r in
      let a1 = a.init in
      let a2 = a.ring in
      let a3 = a.recent in
      let b1 = b.init in
      let b2 = b.ring in
      let b3 = b.recent in
      let n1 = c.init in
      let n2 = c.ring in
      let n3 = c.recent in
      let m1 = d.init in
      let m2 = d.ring in
      let m3 = d.recent in
      λ i. record {
        pair = record {
          lo = (e i).pair.lo;
          hi = (e i).pair.hi;
          init = first_means (λ x. x) nought t.pair.init u.pair.init t.pair.init_len u.pair.init_len (a1 ∙ sym b1) (omega arith) (omega arith) inits i;
          init_len = counted t.pair.init u.pair.init t.pair.init_len u.pair.init_len (omega arith) (omega arith) inits i;
          ready = as_number (e i).pair.ready;
          confirmed = as_number (e i).pair.confirmed;
          placeholder_is_lo = as_number (e i).pair.placeholder_is_lo;
          pad_placeholder_is_lo = zeros 5;
          lo_n = (e i).pair.lo_n;
        };
        ring = first_means plain_entry blank_entry t.ring u.ring t.ring_len u.ring_len (a2 ∙ sym b2) (omega arith) (omega arith) rings i;
        ring_len = counted t.ring u.ring t.ring_len u.ring_len (omega arith) (omega arith) rings i;
        has_wpm = has (held_is t.wpm_ema u.wpm_ema (ap (λ m. m.wpm) e) i);
        pad_has_wpm = zeros 3;
        wpm_ema = or_nought (held_is t.wpm_ema u.wpm_ema (ap (λ m. m.wpm) e) i);
        recent = first_means (λ x. x) nought t.recent u.recent t.recent_len u.recent_len (a3 ∙ sym b3) (omega arith) (omega arith) recents i;
        pad_recent = zeros 4;
        recent_len = counted t.recent u.recent t.recent_len u.recent_len (omega arith) (omega arith) recents i;
        has_egap = has (held_is t.mu_egap_ms u.mu_egap_ms (ap (λ m. m.egap) e) i);
        pad_has_egap = zeros 3;
        mu_egap_ms = or_nought (held_is t.mu_egap_ms u.mu_egap_ms (ap (λ m. m.egap) e) i);
        has_hint = has (held_is t.ratio_hint u.ratio_hint (ap (λ m. m.hint) e) i);
        pad_has_hint = zeros 3;
        ratio_hint = or_nought (held_is t.ratio_hint u.ratio_hint (ap (λ m. m.hint) e) i);
        regime = (e i).regime;
        badlock_recovered = as_number (e i).recovered;
        lo_uncorroborated = as_number (e i).uncorroborated;
        pad_lo_uncorroborated = zeros 2;
      }

-- ---- a challenger

pub record Lawful (h : TimingHypothesis) : Type 0 where
  pub tracker : Sized h.tracker
  pub ln_lo : T (fits binary32 h.ln_lo)
  pub ln_hi : T (fits binary32 h.ln_hi)
  pub good : T (hyp_sound standard h)

log_fits : (v : Float) → T (fits binary32 (log_of v))
unfolding log_of
log_fits v = ln_fits _

module _ (h : TimingHypothesis) (a : Lawful h) where
  parts : T (Tracking.sound standard h.tracker) × T (h.tracker.pair.ready && (logs_same h && scores_sound h))
  parts = both (Tracking.sound standard h.tracker) (h.tracker.pair.ready && (logs_same h && scores_sound h)) a.good

  logs : T (same h.ln_lo (ln_dit (view_hyp h).tracker)) × T (same h.ln_hi (ln_dah (view_hyp h).tracker))
  logs =
      let m = (view_hyp h).tracker in
      let b = both h.tracker.pair.ready (logs_same h && scores_sound h) parts.1 in
      both (same h.ln_lo (ln_dit m)) (same h.ln_hi (ln_dah m)) (both (logs_same h) (scores_sound h) b.1).0

  -- the logarithms that it holds are those of its centroids
  lo_is : h.ln_lo ≡ ln_dit (view_hyp h).tracker
  lo_is = same_is h.ln_lo (ln_dit (view_hyp h).tracker) a.ln_lo (log_fits _) logs.0

  hi_is : h.ln_hi ≡ ln_dah (view_hyp h).tracker
  hi_is = same_is h.ln_hi (ln_dah (view_hyp h).tracker) a.ln_hi (log_fits _) logs.1

pub hyp_means : (h g : TimingHypothesis) → Lawful h → Lawful g → view_hyp h ≡ view_hyp g → plain_hyp h ≡ plain_hyp g
hyp_means h g a b e =
    let t : plain_tracker h.tracker ≡ plain_tracker g.tracker = tracker_means h.tracker g.tracker a.tracker b.tracker (parts h a).0 (parts g b).0 (ap (λ m. m.tracker) e) in
    let lo : h.ln_lo ≡ g.ln_lo = lo_is h a ∙ ap (λ m. ln_dit m.tracker) e ∙ sym (lo_is g b) in
    let hi : h.ln_hi ≡ g.ln_hi = hi_is h a ∙ ap (λ m. ln_dah m.tracker) e ∙ sym (hi_is g b) in
    λ i. record {
      tracker = t i;
      score = (e i).score;
      gap_score = (e i).gap_score;
      lead_marks = (e i).lead;
      age_marks = (e i).age;
      origin = origin_code (e i).origin;
      pad_origin = zeros 3;
      retain_marks = retained (e i).origin;
      reported = as_number (e i).reported;
      pad_reported = zeros 3;
      ln_lo = lo i;
      ln_hi = hi i;
      pad_ln_hi = zeros 4;
      serial = (e i).serial;
    }

-- ---- a bank

pub record Whole (b : TimingBank) : Type 0 where
  pub challengers : length b.challengers ≡ 8
  pub each : AllByRecursion Lawful (take b.challengers_len b.challengers)
  pub streak : length b.streak ≡ 4
  pub gaps : length b.streak_gaps ≡ 4
  pub log : length b.log ≡ 16
  pub good : T (Banking.sound standard widest b)

-- its counts lie within its arrays
record Within (b : TimingBank) : Type 0 where
  challengers : b.challengers_len ≤ length b.challengers
  streak : b.streak_len ≤ length b.streak
  gaps : b.streak_gaps_len ≤ length b.streak_gaps
  log : b.log_len ≤ length b.log

within : (b : TimingBank) → Whole b → Within b
unfolding Banking.sound
within b w =
    let crew = take b.challengers_len b.challengers in
    let x = both (Banking.counted widest b) (Banking.width_sound widest b && (all (hyp_sound standard) crew && Banking.rest_sound b)) w.good in
    let y = both (leb b.challengers_len 8) (leb b.streak_len 4 && (leb b.streak_gaps_len 4 && leb b.log_len 16)) x.0 in
    let z = both (leb b.streak_len 4) (leb b.streak_gaps_len 4 && leb b.log_len 16) y.1 in
    let v = both (leb b.streak_gaps_len 4) (leb b.log_len 16) z.1 in
    let n1 = leb→le b.challengers_len 8 y.0 in
    let n2 = leb→le b.streak_len 4 z.0 in
    let n3 = leb→le b.streak_gaps_len 4 v.0 in
    let n4 = leb→le b.log_len 16 v.1 in
    let l1 = w.challengers in
    let l2 = w.streak in
    let l3 = w.gaps in
    let l4 = w.log in
    record { challengers = omega arith; streak = omega arith; gaps = omega arith; log = omega arith }

-- the count of a list of which only what each means is known
counted_means : {A C : Type 0} (v : A → C) (l k : List A) (n m : ℕ) → n ≤ length l → m ≤ length k → map v (take n l) ≡ map v (take m k) → n ≡ m
counted_means v l k n m a b e = sym (length-map (take n l) v ∙ length-take-le n l a) ∙ ap length e ∙ length-map (take m k) v ∙ length-take-le m k b

module _ (b c : TimingBank) (p : Whole b) (q : Whole c) (e : Banked.view b ≡ Banked.view c) where
  crews : map view_hyp (take b.challengers_len b.challengers) ≡ map view_hyp (take c.challengers_len c.challengers)
  crews = ap (λ m. m.challengers) e

  streaks : take b.streak_len b.streak ≡ take c.streak_len c.streak
  streaks = ap (λ m. m.evidence.streak) e

  gaps : take b.streak_gaps_len b.streak_gaps ≡ take c.streak_gaps_len c.streak_gaps
  gaps = ap (λ m. m.evidence.gaps) e

  logged : take b.log_len b.log ≡ take c.log_len c.log
  logged = ap (λ m. m.log) e

  sides : b.streak_side ≡ c.streak_side
  sides = held_is b.streak_side c.streak_side (ap (λ m. m.evidence.side) e)

  lasts : b.last_gap ≡ c.last_gap
  lasts = held_is b.last_gap c.last_gap (ap (λ m. m.evidence.last_gap) e)

  pendings : b.pending ≡ c.pending
  pendings = held_is b.pending c.pending (ap (λ m. m.pending) e)

  pub bank_means : plain_bank b ≡ plain_bank c
  bank_means =
      let v = within b p in
      let w = within c q in
      λ i. record {
        width = (e i).width;
        switching = as_number (e i).switching;
        pad_switching = zeros 3;
        primary_score = (e i).score;
        primary_gap_score = (e i).gap_score;
        pad_primary_gap_score = zeros 4;
        challengers = carried_means plain_hyp blank_hyp view_hyp Lawful hyp_means b.challengers c.challengers b.challengers_len c.challengers_len (p.challengers ∙ sym q.challengers) v.challengers w.challengers p.each q.each crews i;
        challengers_len = counted_means view_hyp b.challengers c.challengers b.challengers_len c.challengers_len v.challengers w.challengers crews i;
        streak = first_means (λ x. x) nought b.streak c.streak b.streak_len c.streak_len (p.streak ∙ sym q.streak) v.streak w.streak streaks i;
        streak_len = counted b.streak c.streak b.streak_len c.streak_len v.streak w.streak streaks i;
        streak_gaps = first_means (λ x. x) nought b.streak_gaps c.streak_gaps b.streak_gaps_len c.streak_gaps_len (p.gaps ∙ sym q.gaps) v.gaps w.gaps gaps i;
        streak_gaps_len = counted b.streak_gaps c.streak_gaps b.streak_gaps_len c.streak_gaps_len v.gaps w.gaps gaps i;
        has_side = has (sides i);
        streak_side = side_number (sides i);
        has_last_gap = has (lasts i);
        pad_has_last_gap = zeros 1;
        last_gap = or_nought (lasts i);
        marks_seen = (e i).marks;
        gaps_seen = (e i).gaps;
        has_pending = has (pendings i);
        pad_has_pending = zeros 7;
        pending = or_zero (pendings i);
        log = first_means plain_record blank_record b.log c.log b.log_len c.log_len (p.log ∙ sym q.log) v.log w.log logged i;
        log_len = counted b.log c.log b.log_len c.log_len v.log w.log logged i;
        started = (e i).started;
      }
