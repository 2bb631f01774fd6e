-- The books of a station over a list of calls: each accepted call keeps them, and no serial wraps. Assumes nothing.
use mathlib.Core.Path.{◌≡◌, refl}
use mathlib.Core.Bool.{Bool, true, false, cond, ◌||◌}
use mathlib.Core.List.{List, [], ◌∷◌}
use Prim.Native.Nat.{ℕ, zero, suc, ◌+◌, ◌≤◌, ◌<◌}
use native.Mathlib.Omega.{arith}
use lib.ListN.{length, length-append}
use lib.Dec.{ltb, leb, eqb}
use borrow.Author.Tests.{ltb-true, ltb-false, eqb-true, eqb-false, leb-false}
use Rattle.ranges.specs.Settings.{Settings}
use Rattle.tracker.specs.Model.{Tracker}
use Rattle.tracker.specs.Steps.{can_begin, bootstrapped}
use Rattle.tracker.specs.Steps as Tracking
use Rattle.bank_model.specs.declared.Cause.TheVariants.{Twin, Outscored, Aged, Replaced, Cleared}
use Rattle.bank_model.specs.Model.{Told}
use Rattle.bank_model.specs.Steps.{Taken}
use Rattle.station_model.specs.declared.Event.{Event}
use Rattle.station_model.specs.declared.Event.TheVariants.{Mark, Gap, Finish, Seed, Hint, Clear, Switch}
use Rattle.station_model.specs.declared.Code.{Code}
use Rattle.station_model.specs.Station.{Station, Act, ready, fresh, ind, of_cause, act, ready_act, learnt_act, switch_act, acted, accepted, full, fault, refusal, outcome, step}
use Rattle.station_model.specs.Watch.{Call, station_after, call_on, calls_of, among, gone, departures}
use Rattle.station_model.proofs.Lists.{by_cond, no}
use Rattle.station_model.proofs.Books.{gone_append, cause_append}
use Rattle.station_model.proofs.Fair.{Spare, held, Fair, FairTake, fair_stay, fair_ready, fair_mark, fair_gap, fair_clear, fair_take}
use Rattle.station_model.proofs.Starts.{one_acted}

-- ---- what a call that is not refused tells

below_full : (a b : Bool) (n : ℕ) → (a || (b || leb 4294967295 n)) ≡ false → n < 4294967295
below_full true b n e = no e
below_full false true n e = no e
below_full false false n e = omega (arith, leb-false 4294967295 n e)

pub unrefused : (s : Station) (e : Event) → refusal s e ≡ 0 → (s.accepted < 4294967295) × (fault e ≡ 0)
unrefused s e z = go (full s) refl z
  where
    go : (b : Bool) → full s ≡ b → cond b 2 (fault e) ≡ 0 → (s.accepted < 4294967295) × (fault e ≡ 0)
    go true f y = absurd (omega arith)
    go false f y = (below_full (leb 4294967295 s.bank.marks) (leb 4294967295 s.bank.gaps) s.accepted f, y)

-- ---- one call

pub record FairAct (s : Station) (a : Act) : Type 0 where
  pub kept : (n : ℕ) → ind (eqb n a.serial) + held n a.told.bank + gone n a.told.left ≡ ind (eqb n s.serial) + held n s.bank
  pub balanced : length a.told.bank.challengers + length a.told.left + s.bank.started ≡ length s.bank.challengers + a.told.bank.started
  pub grows : s.bank.started ≤ a.told.bank.started

pub fair_act : (s : Station) (p : Tracker) (t : Told) (c : Code) → Fair s.bank t → FairAct s (act s p t c)
fair_act s p t c x = record { kept = λ n. omega (arith, x.kept n); balanced = x.balanced; grows = x.grows }

fair_switch : (s : Station) (t : Taken) → FairTake s.bank s.serial t → FairAct s (switch_act t)
unfolding gone
fair_switch s t x = record { kept = λ n. omega (arith, x.kept n); balanced = omega (arith, x.long, x.started); grows = omega (arith, x.started) }

module _ (k : Settings) where
  fair_begun : (s : Station) (p : Tracker) → Spare s.bank → FairAct s (ready_act k s p)
  fair_begun s p h = fair_act s p _ _ (fair_ready k s.bank p p.recent h)

  fair_learnt : (s : Station) (p : Tracker) → Spare s.bank → FairAct s (learnt_act k s p)
  fair_learnt s p h = by_cond (λ a. FairAct s a) (ready p) (λ e. fair_begun s p h) (λ e. fair_act s p _ _ (fair_stay s.bank))

  pub fair_acted : (s : Station) (e : Event) → Spare s.bank → FairAct s (acted k s e)
  fair_acted s (Mark d true) h =
      let p = Tracking.on_mark k s.primary d in
      by_cond (λ a. FairAct s a) (ready s.primary) (λ e. fair_act s _ _ _ (fair_mark k s.bank p d true h)) (λ e. fair_learnt s p h)
  fair_acted s (Mark d false) h = fair_act s _ _ _ (fair_mark k s.bank s.primary d false h)
  fair_acted s (Gap d) h =
      by_cond (λ a. FairAct s a) (ready s.primary)
      (λ e. fair_act s _ _ _ (fair_gap k s.bank s.primary d))
      (λ e. fair_act s _ _ _ (fair_stay s.bank))
  fair_acted s Finish h = by_cond (λ a. FairAct s a) (can_begin s.primary) (λ e. fair_begun s (bootstrapped k s.primary) h) (λ e. fair_act s _ _ _ (fair_stay s.bank))
  fair_acted s (Seed v) h = fair_act s _ _ _ (fair_clear s.bank)
  fair_acted s (Hint r) h = fair_act s _ _ _ (fair_stay s.bank)
  fair_acted s Clear h = fair_act s _ _ _ (fair_clear s.bank)
  fair_acted s Switch h = fair_switch s _ (fair_take s.bank s.primary s.serial)

-- ---- a list of calls

pub record Books (calls : List Call) (s : Station) : Type 0 where
  pub once : (n : ℕ) → ind (eqb n s.serial) + held n s.bank + gone n (departures calls) ≡ 1
  pub balance : s.bank.started ≡ length s.bank.challengers + length (departures calls)
  pub few : s.bank.started ≤ s.accepted
  pub within : s.accepted ≤ 4294967295
  pub twins : s.counts.twins ≡ of_cause Twin (departures calls)
  pub outscored : s.counts.outscored ≡ of_cause Outscored (departures calls)
  pub aged : s.counts.aged ≡ of_cause Aged (departures calls)
  pub replaced : s.counts.replaced ≡ of_cause Replaced (departures calls)
  pub cleared : s.counts.cleared ≡ of_cause Cleared (departures calls)

-- a serial is left for a call that is not refused
pub books_spare : (calls : List Call) (s : Station) (e : Event) → Books calls s → refusal s e ≡ 0 → Spare s.bank
books_spare calls s e b z = omega (arith, b.few, (unrefused s e z).0)

books_accepted : (calls : List Call) (s : Station) (e : Event) (a : Act) → Books calls s → FairAct s a → a.told.bank.started ≤ suc s.bank.started → s.accepted < 4294967295
    → Books (record { event = e; answer = (accepted s a).answer; before = s; after = (accepted s a).station } ∷ calls) (accepted s a).station
unfolding departures
books_accepted calls s e a b x one below = record {
  once = λ n. omega (arith, b.once n, x.kept n, gone_append n a.told.left (departures calls));
  balance = omega (arith, b.balance, x.balanced, length-append a.told.left (departures calls));
  few = omega (arith, b.few);
  within = omega arith;
  twins = omega (arith, b.twins, cause_append Twin a.told.left (departures calls));
  outscored = omega (arith, b.outscored, cause_append Outscored a.told.left (departures calls));
  aged = omega (arith, b.aged, cause_append Aged a.told.left (departures calls));
  replaced = omega (arith, b.replaced, cause_append Replaced a.told.left (departures calls));
  cleared = omega (arith, b.cleared, cause_append Cleared a.told.left (departures calls));
}

module _ (k : Settings) where
  books_outcome : (calls : List Call) (s : Station) (e : Event) (r : ℕ) → refusal s e ≡ r → Books calls s
      → Books (record { event = e; answer = (outcome k s e r).answer; before = s; after = (outcome k s e r).station } ∷ calls) (outcome k s e r).station
  unfolding departures
  books_outcome calls s e zero z b = books_accepted calls s e (acted k s e) b (fair_acted k s e (books_spare calls s e b z)) (one_acted k s e) (unrefused s e z).0
  books_outcome calls s e (suc n) z b = record { once = b.once; balance = b.balance; few = b.few; within = b.within; twins = b.twins; outscored = b.outscored; aged = b.aged; replaced = b.replaced; cleared = b.cleared }

  pub books_step : (calls : List Call) (s : Station) (e : Event) → Books calls s → Books (call_on k s e ∷ calls) (step k s e).station
  unfolding step
  books_step calls s e b = books_outcome calls s e (refusal s e) refl b

none_or_more : (n : ℕ) → ind (eqb n 0) + ind (ltb 0 n) ≡ 1
none_or_more n = go (eqb n 0) (ltb 0 n) refl refl
  where
    go : (x y : Bool) → eqb n 0 ≡ x → ltb 0 n ≡ y → ind x + ind y ≡ 1
    go true true p q = absurd (omega (arith, eqb-true n 0 p, ltb-true 0 n q))
    go true false p q = refl
    go false true p q = refl
    go false false p q = absurd (eqb-false n 0 p (omega (arith, ltb-false 0 n q)))

pub books_fresh : (width : ℕ) (switching : Bool) → Books [] (fresh width switching)
unfolding departures among gone of_cause
books_fresh width switching = record { once = λ n. omega (arith, none_or_more n); balance = refl; few = omega arith; within = omega arith; twins = refl; outscored = refl; aged = refl; replaced = refl; cleared = refl }

-- ---- every list of calls

module _ (k : Settings) (width : ℕ) (switching : Bool) where
  pub booked : (events : List Event) → Books (calls_of k (fresh width switching) events) (station_after k (fresh width switching) events)
  unfolding calls_of station_after
  booked [] = books_fresh width switching
  booked (e ∷ events) = books_step k (calls_of k (fresh width switching) events) (station_after k (fresh width switching) events) e (booked events)

  -- no serial wraps: as many are given out as calls were accepted, at most
  pub serials_small : (events : List Event) → (station_after k (fresh width switching) events).bank.started ≤ 4294967295
  serials_small events = let b = booked events in omega (arith, b.few, b.within)
