-- What a switch call hands back in plain form is what its contract says. Assumes nothing.
use mathlib.Core.Path.{◌≡◌, refl, ap, sym, ◌∙◌, subst}
use mathlib.Core.Bool.{Bool, true, false, cond, not, ◌&&◌, true≢false}
use Prim.Native.Nat.{ℕ, zero, suc, ◌+◌, ◌≤◌}
use native.Mathlib.Omega.{arith}
use lib.Dec.{eqb}
use lib.Ieee.Bits.{is_true}
use borrow.Author.Tests.{ne_eqb}
use Rattle.ranges.specs.Settings.{standard}
use Rattle.std.specs.Prelude.{Result, Ok, Err, is_some}
use Rattle.refusals.specs.declared.Refusal.{Refusal}
use Rattle.refusals.specs.declared.Refusal.TheVariants.{UnsoundState}
use Rattle.refusals.specs.Refusal.{number}
use Rattle.tracker.specs.declared.SpeedTracker.{SpeedTracker}
use Rattle.tracker.specs.Answers as Answers
use Rattle.tracker.specs.Answers.{flag, refused, unless}
use Rattle.tracker.specs.Model as Tracked
use Rattle.tracker.specs.Sound as Tracking
use Rattle.bank.specs.declared.Switched.{Switched}
use Rattle.bank.specs.declared.TimingBank.{TimingBank}
use Rattle.bank_model.specs.Departures.{widest}
use Rattle.bank.specs.Sound.{sound}
use Rattle.bank.specs.View.{view}
use Rattle.bank.proofs.Refusing.{some_number}
use Rattle.bank.specs.Answers.{Switches, full, switch_refusal}
use Rattle.bank_model.specs.Steps.{Taken, take_switch}
use Rattle.plain_tracker.specs.declared.PlainTracker.{PlainTracker}
use Rattle.plain_tracker.specs.Plain.{form_then, is_tracker, plain_tracker, tracker_of}
use Rattle.plain_tracker.proofs.Back.{tracker_back, tracker_named, tracker_plain, tracker_sound, tracker_view}
use Rattle.plain.specs.declared.PlainBank.{PlainBank}
use Rattle.plain.specs.Plain.{is_bank, bank_of, plain_bank}
use Rattle.plain.proofs.Back.{bank_named, bank_neat, bank_sound, bank_view}
use Rattle.plain_switch.specs.declared.BankExchanged.{BankExchanged}
use Rattle.plain_switch.specs.Switch.{Exchanges, outcome, refusal, switch_code}
use Rattle.plain_switch.specs.Parts.{told_as}

-- ---- what an answer says

is_said : (on is : Bool) (n : ℕ) → flag on ≡ unless n (flag is) → (n ≡ 0) × (on ≡ is)
is_said on is zero e = (refl, cc)
is_said on is (suc n) e = absurd cc

refused_said : (m n : ℕ) (is : Bool) → refused m ≡ unless n (flag is) → (m ≡ n) × (n ≡ 0 → ⊥)
refused_said m zero is e = absurd cc
refused_said m (suc n) is e = (cc, λ z. omega arith)

-- ---- the refusals are 1 and 2

one_of : (b : Bool) (m n : ℕ) → m ≤ 2 → n ≤ 2 → cond b m n ≤ 2
one_of true m n h k = h
one_of false m n h k = k

switch_small : (b : TimingBank) (p : SpeedTracker) → switch_refusal standard b p ≤ 2
switch_small b p =
    one_of (sound standard widest b && Tracking.sound standard p) _ 1
    (one_of (is_some b.pending && not p.pair.ready) 1 _ (omega arith)
    (one_of (full b.marks_seen b.gaps_seen) 2 0 (omega arith) (omega arith)))
    (omega arith)

-- the number of the refusal in an answer, 0 where there is none
abbrev pub refusal_in : Result Bool Refusal → ℕ
refusal_in (Ok on) = 0
refusal_in (Err r) = number r

small_said : (f : Result Bool Refusal) (n : ℕ) (is : Bool) → n ≤ 2 → Answers.told flag f ≡ unless n (flag is)
    → refusal_in f ≤ 2
small_said (Ok on) n is h e = omega arith
small_said (Err r) n is h e = let k = (refused_said (number r) n is e).0 in omega arith

pub few_refusals : (b : TimingBank) (p : SpeedTracker) (serial : ℕ) (m : Taken) (k : Switched)
    → Switches standard (switch_refusal standard b p) b p serial m k → refusal_in k.flag ≤ 2
few_refusals b p serial m k h = small_said k.flag (switch_refusal standard b p) m.switched (switch_small b p) h.says

-- ---- whether a form is a tracker's, by the refusal of one that is not

named_form : (b : Bool) (n : ℕ) → n ≡ cond b 0 1 → n ≡ 0 → b ≡ true
named_form true n e z = refl
named_form false n e z = let h : ◌≡◌ {A = ℕ} 0 1 = sym z ∙ e in absurd (omega arith)

nameless_form : (b : Bool) (n : ℕ) → n ≡ cond b 0 1 → (n ≡ 0 → ⊥) → b ≡ false
nameless_form true n e f = absurd (f e)
nameless_form false n e f = refl

pub is_form : (p : PlainTracker) → 0 ≡ form_then p 0 → is_tracker p ≡ true
is_form p e = named_form (is_tracker p) 0 e refl

pub no_form : (p : PlainTracker) (r : Refusal) → number r ≡ form_then p 0 → is_tracker p ≡ false
no_form p r e = nameless_form (is_tracker p) (number r) e (some_number r)

-- ---- the forms that are left

module _ (b : PlainBank) (p : PlainTracker) (serial : ℕ) where
  abbrev Found : BankExchanged → Type 0
  Found r = Exchanges b p serial (switch_code r.told) r.bank r.primary r.serial

  -- a form that is none
  pub none_there : is_bank b && is_tracker p ≡ false
      → Found (record { told = Err UnsoundState; bank = b; primary = p; serial = serial })
  none_there i =
      let e : refusal b p ≡ 1 = rw i in
      let never : refusal b p ≡ 0 → ⊥ = λ z. omega arith in
      record {
        says = sym (rw e);
        kept = λ z. (refl, (refl, refl));
        state = λ z. absurd (never z);
        still = λ z. absurd (never z);
        neat = λ z. absurd (never z);
        idle = λ z s. absurd (never z);
        found = λ z s. absurd (never z);
        whole = λ z s. absurd (never z);
        plain = λ z s. absurd (never z);
        serial_is = λ z s. absurd (never z);
      }

  module _ (k : Switched) (i : is_bank b && is_tracker p ≡ true) (h : Switches standard (switch_refusal standard (bank_of b) (tracker_of p)) (bank_of b) (tracker_of p) serial (outcome b p serial) k) where
    named : refusal b p ≡ switch_refusal standard (bank_of b) (tracker_of p)
    named = rw i

    refused_there : (r : Refusal) → k.flag ≡ Err r → Found (told_as b p serial k (Err r))
    refused_there r e =
        let w = refused_said (number r) (switch_refusal standard (bank_of b) (tracker_of p)) (outcome b p serial).switched (sym (ap (Answers.told flag) e) ∙ h.says) in
        let is : number r ≡ refusal b p = w.0 ∙ sym named in
        let never : refusal b p ≡ 0 → ⊥ = λ z. w.1 (sym named ∙ z) in
        record {
          says = ap (λ (m : ℕ). 128 + m) is ∙ sym (rw (ne_eqb (refusal b p) 0 never));
          kept = λ z. (refl, (refl, refl));
          state = λ z. absurd (never z);
          still = λ z. absurd (never z);
          neat = λ z. absurd (never z);
          idle = λ z s. absurd (never z);
          found = λ z s. absurd (never z);
          whole = λ z s. absurd (never z);
          plain = λ z s. absurd (never z);
          serial_is = λ z s. absurd (never z);
        }

    module _ (on : Bool) (e : k.flag ≡ Ok on) where
      said : (switch_refusal standard (bank_of b) (tracker_of p) ≡ 0) × (on ≡ (outcome b p serial).switched)
      said = is_said on (outcome b p serial).switched (switch_refusal standard (bank_of b) (tracker_of p)) (sym (ap (Answers.told flag) e) ∙ h.says)

      free : refusal b p ≡ 0
      free = named ∙ said.0

      told : cond on 2 3 ≡ cond (eqb (refusal b p) 0) (cond (outcome b p serial).switched 2 3) (128 + refusal b p)
      told = ap (λ (x : Bool). cond x 2 3) said.1 ∙ sym (rw free)

      crew : view (bank_of (plain_bank k.bank)) ≡ (outcome b p serial).bank
      crew = bank_view k.bank ∙ ap (λ (m : Taken). m.bank) (h.state said.0)

      sturdy : is_bank (plain_bank k.bank) && sound standard widest (bank_of (plain_bank k.bank)) ≡ true
      sturdy =
          rw (bank_named k.bank, bank_sound standard widest k.bank, is_true (sound standard widest k.bank) (h.still said.0).0)

      lone : Tracked.view (tracker_of (plain_tracker k.primary)) ≡ (outcome b p serial).primary
      lone = ap Tracked.view (tracker_back k.primary) ∙ tracker_view k.primary ∙ ap (λ (m : Taken). m.primary) (h.state said.0)

      hale : is_tracker (plain_tracker k.primary) && Tracking.sound standard (tracker_of (plain_tracker k.primary)) ≡ true
      hale =
          rw (tracker_named k.primary, tracker_back k.primary, tracker_sound standard k.primary, is_true (Tracking.sound standard k.primary) (h.still said.0).1)

      trim : plain_tracker k.primary ≡ plain_tracker (tracker_of (plain_tracker k.primary))
      trim = sym (ap plain_tracker (tracker_back k.primary) ∙ tracker_plain k.primary)

      numbered : k.serial ≡ (outcome b p serial).serial
      numbered = ap (λ (m : Taken). m.serial) (h.state said.0)

    exchanged_there : k.flag ≡ Ok true → Found (told_as b p serial k (Ok true))
    exchanged_there e =
        let never : (outcome b p serial).switched ≡ false → ⊥ = λ s. true≢false ((said true e).1 ∙ s) in
        record {
          says = told true e;
          kept = λ z. absurd (z (free true e));
          state = λ z. crew true e;
          still = λ z. sturdy true e;
          neat = λ z. sym (bank_neat k.bank);
          idle = λ z s. absurd (never s);
          found = λ z s. lone true e;
          whole = λ z s. hale true e;
          plain = λ z s. trim true e;
          serial_is = λ z s. numbered true e;
        }

    idle_there : k.flag ≡ Ok false → Found (told_as b p serial k (Ok false))
    idle_there e =
        let never : (outcome b p serial).switched ≡ true → ⊥ = λ s. true≢false (sym ((said false e).1 ∙ s)) in
        record {
          says = told false e;
          kept = λ z. absurd (z (free false e));
          state = λ z. crew false e;
          still = λ z. sturdy false e;
          neat = λ z. sym (bank_neat k.bank);
          idle = λ z s. (refl, refl);
          found = λ z s. absurd (never s);
          whole = λ z s. absurd (never s);
          plain = λ z s. absurd (never s);
          serial_is = λ z s. absurd (never s);
        }

    by_flag : (f : Result Bool Refusal) → k.flag ≡ f → Found (told_as b p serial k f)
    by_flag (Ok true) e = exchanged_there e
    by_flag (Ok false) e = idle_there e
    by_flag (Err r) e = refused_there r e

    exchanges : Found (told_as b p serial k k.flag)
    exchanges = by_flag k.flag refl

-- ---- what the parts hand on

abbrev Answered : TimingBank → SpeedTracker → ℕ → Switched → Type 0
Answered c t serial k = Switches standard (switch_refusal standard c t) c t serial (take_switch (view c) (Tracked.view t) serial) k

module _ (b : PlainBank) (p : PlainTracker) (serial : ℕ) (k : Switched) where
  pub answered : (c : TimingBank) (t : SpeedTracker) (r : BankExchanged) → is_bank b && is_tracker p ≡ true → c ≡ bank_of b → t ≡ tracker_of p
      → Answered c t serial k → r ≡ told_as b p serial k k.flag
      → Exchanges b p serial (switch_code r.told) r.bank r.primary r.serial
  answered c t r i e f h j =
      let w = subst (λ (x : TimingBank). Answered x (tracker_of p) serial k) e (subst (λ (y : SpeedTracker). Answered c y serial k) f h) in
      subst (Found b p serial) (sym j) (exchanges b p serial k i w)
