-- Each call of the bank keeps the books: what a serial counts for in the bank, and whether it is still to be given out, comes to the same before and after, the departures counted in.
-- Assumes nothing.
use mathlib.Core.Path.{◌≡◌, refl, ap, ◌∙◌}
use mathlib.Core.Bool.{Bool}
use mathlib.Core.List.{List, [], ◌∷◌, map}
use mathlib.Core.Option.{Option, none, some}
use Prim.Native.Nat.{ℕ, ◌+◌, ◌≤◌, ◌<◌}
use native.Mathlib.Omega.{arith}
use lib.ListN.{length, get_elem?, length-append, length-map, length-set}
use lib.Dec.{ltb, eqb}
use lib.Ieee.{Float}
use Rattle.ranges.specs.Settings.{Settings}
use Rattle.tracker.specs.Model.{Tracker}
use Rattle.bank_model.specs.declared.Origin.{Origin}
use Rattle.bank_model.specs.declared.Origin.TheVariants.{Bootstrap, Streak}
use Rattle.bank_model.specs.Model.{Hyp, Evidence, Bank, Told, stay, and_then, with_evidence}
use Rattle.bank_model.specs.Scores.{ln_dit, ln_dah}
use Rattle.bank_model.specs.Steps.{Taken, on, hears, duplicate_at, roomy, newborn, victim, pushed, replaced_by, replacing, spawned_at, spawned_if_at, other, on_ready, marked, scored, streak_on, emptied, candidate_at, short, streak_end, streak_at, high, streaked, cause, pruned_at, pruned, led, qualified, marked_told, leading, heard_mark, on_mark, gapped, pausing, on_gap, cleared_out, gone_cleared, clear, formerly, exchanged, reporting, observed, untaken, taken_at, taken_of, take_switch}
use Rattle.station_model.specs.Station.{ind}
use Rattle.station_model.specs.Watch.{among, gone}
use Rattle.station_model.proofs.Lists.{by_cond}
use Rattle.station_model.proofs.Books.{following_is, above_next, among_append, among_map, among_set, among_staying, length_staying, gone_append, gone_cleared_law}

-- a serial is left to be given out, as it is where refusal 2 does not hold
abbrev pub Spare : Bank → Type 0
Spare b = b.started < 4294967295

-- held by the bank, or still to be given out
abbrev pub held : ℕ → Bank → ℕ
held k b = among k b.challengers + ind (ltb b.started k)

pub record Fair (b : Bank) (t : Told) : Type 0 where
  pub kept : (k : ℕ) → held k t.bank + gone k t.left ≡ held k b
  pub balanced : length t.bank.challengers + length t.left + b.started ≡ length b.challengers + t.bank.started
  pub grows : b.started ≤ t.bank.started

pub fair_stay : (b : Bank) → Fair b (stay b)
unfolding gone
fair_stay b = record { kept = λ k. omega arith; balanced = omega arith; grows = omega arith }

-- a bank that holds the same serials
pub fair_same : (b c : Bank) → ((k : ℕ) → among k c.challengers ≡ among k b.challengers) → length c.challengers ≡ length b.challengers → c.started ≡ b.started → Fair b (stay c)
unfolding gone
fair_same b c same long e = record {
  kept = λ k. omega (arith, same k, ap (λ (n : ℕ). ind (ltb n k)) e);
  balanced = omega arith;
  grows = omega arith;
}

pub fair_then : (b : Bank) (t : Told) (f : Bank → Told) → Fair b t → Fair t.bank (f t.bank) → Fair b (and_then t f)
fair_then b t f x y = record {
  kept = λ k. omega (arith, x.kept k, y.kept k, gone_append k t.left (f t.bank).left);
  balanced = omega (arith, x.balanced, y.balanced, length-append t.left (f t.bank).left);
  grows = omega (arith, x.grows, y.grows);
}

fair_pushed : (b : Bank) (t : Tracker) (o : Origin) → Spare b → Fair b (pushed b (newborn b t o))
unfolding gone among
fair_pushed b t o h =
    let n = following_is b.started h in
    record {
      kept = λ k. omega (arith, among_append k b.challengers (newborn b t o ∷ []), above_next b.started k, ap (λ (m : ℕ). ind (eqb k m)) n, ap (λ (m : ℕ). ind (ltb m k)) n);
      balanced = omega (arith, length-append b.challengers (newborn b t o ∷ []));
      grows = omega arith;
    }

fair_replaced : (b : Bank) (t : Tracker) (o : Origin) (i : ℕ) (v : Option Hyp) → Spare b → get_elem? b.challengers i ≡ v → Fair b (replaced_by b (newborn b t o) i v)
unfolding gone
fair_replaced b t o i none h e = fair_stay b
fair_replaced b t o i (some v) h e =
    let n = following_is b.started h in
    record {
      kept = λ k. omega (arith, among_set k b.challengers i (newborn b t o) v e, above_next b.started k, ap (λ (m : ℕ). ind (eqb k m)) n, ap (λ (m : ℕ). ind (ltb m k)) n);
      balanced = omega (arith, length-set b.challengers i (newborn b t o));
      grows = omega arith;
    }

fair_replacing : (b : Bank) (t : Tracker) (o : Origin) (i : Option ℕ) → Spare b → Fair b (replacing b (newborn b t o) i)
fair_replacing b t o none h = fair_stay b
fair_replacing b t o (some i) h = fair_replaced b t o i (get_elem? b.challengers i) h refl

fair_spawned : (b : Bank) (lo hi : Float) (o : Origin) (t : Tracker) → Spare b → Fair b (spawned_at b lo hi o t)
unfolding spawned_at
fair_spawned b lo hi o t h =
    by_cond (λ u. Fair b u) (duplicate_at b lo hi t) (λ e. fair_stay b)
    (λ e. by_cond (λ u. Fair b u) (roomy b) (λ e. fair_pushed b t o h)
    (λ e. fair_replacing b t o (victim b.challengers) h))

fair_spawned_if : (b : Bank) (lo hi : Float) (o : Origin) (t : Option Tracker) → Spare b → Fair b (spawned_if_at b lo hi o t)
fair_spawned_if b lo hi o none h = fair_stay b
fair_spawned_if b lo hi o (some t) h = fair_spawned b lo hi o t h

-- what a mark, a gap and a new lead leave of a challenger

pub serial_marked : (k : Settings) (d : Float) (live : Bool) (h : Hyp) → (marked k d live h).serial ≡ h.serial
unfolding marked
serial_marked k d live h = refl

pub serial_gapped : (k : Settings) (d : Float) (h : Hyp) → (gapped k d h).serial ≡ h.serial
unfolding gapped
serial_gapped k d h = refl

pub serial_led : (k : Settings) (p : Float) (h : Hyp) → (led k p h).serial ≡ h.serial
unfolding led
serial_led k p h = refl

-- a bank that differs in other parts alone
fair_like : (b c : Bank) (t : Told) → Fair c t → c.challengers ≡ b.challengers → c.started ≡ b.started → Fair b t
fair_like b c t x e f = record {
  kept = λ k. x.kept k ∙ ap₂' k;
  balanced = omega (arith, x.balanced, ap length e);
  grows = omega (arith, x.grows);
}
  where
    ap₂' : (k : ℕ) → held k c ≡ held k b
    ap₂' k = rw (e, f)

fair_after : (b c : Bank) (t : Told) → Fair b (stay c) → Fair c t → Fair b t
unfolding gone
fair_after b c t x y = record { kept = λ k. omega (arith, x.kept k, y.kept k); balanced = omega (arith, x.balanced, y.balanced); grows = omega (arith, x.grows, y.grows) }

module _ (k : Settings) where
  pub fair_ready : (b : Bank) (p : Tracker) (marks : List Float) → Spare b → Fair b (on_ready k b p marks)
  unfolding on_ready
  fair_ready b p marks h = by_cond (λ u. Fair b u) (on b) (λ e. fair_spawned_if b (ln_dit p) (ln_dah p) Bootstrap (other k p marks) h) (λ e. fair_stay b)

  fair_streak_end : (b : Bank) (lo hi : Float) (v : Evidence) → Spare b → Fair b (streak_end k b lo hi v)
  fair_streak_end b lo hi v h =
      by_cond (λ u. Fair b u) (short v)
      (λ e. fair_like b _ _ (fair_stay (with_evidence b v)) refl refl)
      (λ e. fair_like b _ _ (fair_spawned_if (with_evidence b (emptied v)) lo hi Streak (candidate_at k lo hi v) h) refl refl)

  fair_streaked : (b : Bank) (p : Tracker) (d : Float) (gap : Option Float) → Spare b → Fair b (streaked k b p d gap)
  unfolding streak_at
  fair_streaked b p d gap h = fair_streak_end b (ln_dit p) (ln_dah p) (streak_on b.evidence (high p d) d gap) h

  fair_scored : (b : Bank) (p : Tracker) (d : Float) (live : Bool) → Fair b (stay (scored k b p d live))
  fair_scored b p d live = fair_same b _ (λ n. among_map (marked k d live) (serial_marked k d live) n b.challengers) (length-map b.challengers (marked k d live)) refl

  fair_marked : (b : Bank) (p : Tracker) (d : Float) (live : Bool) → Spare b → Fair b (marked_told k b p d live)
  fair_marked b p d live h =
      by_cond (λ u. Fair b u) live
      (λ e. fair_after b (scored k b p d live) _ (fair_scored b p d live) (fair_streaked (scored k b p d live) p d b.evidence.last_gap h))
      (λ e. fair_scored b p d live)

  fair_pruned : (p : Tracker) (b : Bank) → Fair b (pruned k p b)
  unfolding pruned_at
  fair_pruned p b = record {
    kept = λ n. omega (arith, among_staying (cause k b.score p) n b.challengers);
    balanced = omega (arith, length_staying (cause k b.score p) b.challengers);
    grows = omega arith;
  }

  fair_leading : (b : Bank) (t : Told) → Fair b t → Fair b (leading k t)
  unfolding qualified
  fair_leading b t x = record {
    kept = λ n. omega (arith, x.kept n, among_map (led k t.bank.score) (serial_led k t.bank.score) n t.bank.challengers);
    balanced = omega (arith, x.balanced, length-map t.bank.challengers (led k t.bank.score));
    grows = x.grows;
  }

  pub fair_heard : (b : Bank) (p : Tracker) (d : Float) (live : Bool) → Spare b → Fair b (heard_mark k b p d live)
  fair_heard b p d live h = fair_leading b _ (fair_then b (marked_told k b p d live) (pruned k p) (fair_marked b p d live h) (fair_pruned p _))

  pub fair_mark : (b : Bank) (p : Tracker) (d : Float) (live : Bool) → Spare b → Fair b (on_mark k b p d live)
  unfolding on_mark
  fair_mark b p d live h =
      by_cond (λ u. Fair b u) (hears b p)
      (λ e. fair_heard b p d live h)
      (λ e. fair_stay b)

  pub fair_gap : (b : Bank) (p : Tracker) (d : Float) → Fair b (stay (on_gap k b p d))
  unfolding on_gap
  fair_gap b p d =
      by_cond (λ c. Fair b (stay c)) (hears b p)
      (λ e. by_cond (λ c. Fair b (stay c)) (pausing k b p d)
      (λ e. fair_same b _ (λ n. refl) refl refl)
      (λ e. fair_same b _ (λ n. among_map (gapped k d) (serial_gapped k d) n b.challengers) (length-map b.challengers (gapped k d)) refl))
      (λ e. fair_stay b)

fair_out : (b : Bank) (k : ℕ) → held k (cleared_out b) + gone k (map gone_cleared b.challengers) ≡ held k b
unfolding among
fair_out b k = omega (arith, gone_cleared_law k b.challengers)

pub fair_clear : (b : Bank) → Fair b (clear b)
unfolding clear
fair_clear b = by_cond (λ u. Fair b u) (on b) (λ e. go) (λ e. fair_stay b)
  where
    go : Fair b (record { bank = cleared_out b; left = map gone_cleared b.challengers })
    go = record { kept = λ k. fair_out b k; balanced = omega (arith, length-map b.challengers gone_cleared); grows = omega arith }

-- The switch exchanges two serials, and no more.
pub record FairTake (b : Bank) (serial : ℕ) (t : Taken) : Type 0 where
  pub kept : (k : ℕ) → ind (eqb k t.serial) + held k t.bank ≡ ind (eqb k serial) + held k b
  pub long : length t.bank.challengers ≡ length b.challengers
  pub started : t.bank.started ≡ b.started

fair_untaken : (b : Bank) (p : Tracker) (n : ℕ) → FairTake b n (untaken b p n)
fair_untaken b p n = record { kept = λ k. refl; long = refl; started = refl }

fair_observed : (b : Bank) (p : Tracker) (n i : ℕ) (c : Hyp) → get_elem? b.challengers i ≡ some c → FairTake b n (untaken (observed b p i c) p n)
fair_observed b p n i c e =
    by_cond (λ d. FairTake b n (untaken d p n)) c.reported
    (λ r. record { kept = λ k. refl; long = refl; started = refl })
    (λ r. record { kept = λ k. omega (arith, among_set k b.challengers i (reporting c) c e); long = length-set b.challengers i (reporting c); started = refl })

fair_exchanged : (b : Bank) (p : Tracker) (n i : ℕ) (c : Hyp) → get_elem? b.challengers i ≡ some c → FairTake b n (exchanged b p n i c)
fair_exchanged b p n i c e = record {
  kept = λ k. omega (arith, among_set k b.challengers i (formerly b p n) c e);
  long = length-set b.challengers i (formerly b p n);
  started = refl;
}

fair_at : (b : Bank) (p : Tracker) (n i : ℕ) (o : Option Hyp) → get_elem? b.challengers i ≡ o → FairTake b n (taken_at b p n i o)
fair_at b p n i none e = record { kept = λ k. refl; long = refl; started = refl }
fair_at b p n i (some c) e = by_cond (λ t. FairTake b n t) b.switching (λ s. fair_exchanged b p n i c e) (λ s. fair_observed b p n i c e)

fair_of : (b : Bank) (p : Tracker) (n : ℕ) (o : Option ℕ) → FairTake b n (taken_of b p n o)
fair_of b p n none = fair_untaken b p n
fair_of b p n (some i) = fair_at b p n i (get_elem? b.challengers i) refl

pub fair_take : (b : Bank) (p : Tracker) (n : ℕ) → FairTake b n (take_switch b p n)
unfolding take_switch
fair_take b p n = by_cond (λ t. FairTake b n t) (on b) (λ e. fair_of b p n b.pending) (λ e. fair_untaken b p n)
