-- What the calls answer and leave, by what their parts did. Assumes nothing.
use Rattle.std.proofs.Common.{
  ◌≡◌,
  ℕ,
  ◌+◌,
  Bool,
  true,
  false,
  cond,
  ◌&&◌,
  List,
  Result,
  Ok,
  Err,
  refl,
  sym,
  ap,
  ◌∙◌,
  arith,
}
use lib.Ieee.{Float}
use Rattle.refusals.specs.declared.Refusal.{Refusal}
use Rattle.refusals.specs.declared.Refusal.TheVariants as R
use Rattle.refusals.specs.Refusal.{number}
use Rattle.ranges.specs.Limits.{duration_refusal}
use Rattle.ranges.specs.Settings.{standard}
use Rattle.tracker.specs.declared.SpeedTracker.{SpeedTracker}
use Rattle.tracker.specs.Sound as Tracking
use Rattle.tracker.specs.Answers as Saying
use Rattle.tracker.specs.Answers.{done, refused, unless}
use Rattle.bank_model.specs.declared.departures.Departures.{Departures}
use Rattle.bank_model.specs.Departures.{widest}
use Rattle.bank_model.specs.Model as Model
use Rattle.bank.specs.declared.TimingBank.{TimingBank}
use Rattle.bank.specs.declared.Changed.{Changed}
use Rattle.bank.specs.declared.sound_bank.SoundBank.{SoundBank}
use Rattle.bank.specs.View.{view, told}
use Rattle.bank.specs.Sound.{sound}
use Rattle.bank.specs.Answers.{
  Answers,
  Hears,
  bank_then,
  both_then,
  count_then,
  full,
  marks_refusal,
  heard_refusal,
  ready_refusal,
}
use Rattle.bank_model.specs.Steps as Steps
use Rattle.bank_model.specs.Steps.{take_switch}
use Rattle.tracker.specs.Model as Tracked
use Rattle.tracker.specs.Answers.{flag}
use Rattle.bank.specs.declared.inner.switch.Taken.{Taken}
use Rattle.bank.specs.Switching.{Took, primary_after, view_taken}
use Rattle.bank.specs.Answers.{Switches}
use Rattle.bank.proofs.Refusing.{some_number}
use Rattle.bank.proofs.Sounding.{sturdy_sound}

-- ---- a refusal that was passed leaves those after it

on : (x : Bool) (m n : ℕ) → 0 ≡ cond x 0 (m + 1) → n ≡ cond x n (m + 1)
on true m n h = refl
on false m n h = absurd (omega arith)

off : (x : Bool) (m n : ℕ) → 0 ≡ cond x (m + 1) 0 → n ≡ cond x (m + 1) n
off true m n h = absurd (omega arith)
off false m n h = refl

module _ (b : TimingBank) (n : ℕ) where
  bank_on : 0 ≡ bank_then standard b 0 → n ≡ bank_then standard b n
  bank_on h = on (sound standard widest b) 0 n h

  count_on : 0 ≡ count_then b 0 → n ≡ count_then b n
  count_on h = off (full b.marks_seen b.gaps_seen) 1 n h

  module _ (p : SpeedTracker) where
    both_on : 0 ≡ both_then standard b p 0 → n ≡ both_then standard b p n
    both_on h = on (sound standard widest b && Tracking.sound standard p) 0 n h

module _ (b s : TimingBank) (e : s ≡ b) (k : 0 ≡ count_then s 0) where
  counted : 0 ≡ count_then b 0
  counted = k ∙ ap (λ (x : TimingBank). count_then x 0) e

  module _ (p : SpeedTracker) (h : 0 ≡ both_then standard b p 0) where
    pub heard_passed : (d : Float) → duration_refusal d ≡ heard_refusal standard b p d
    heard_passed d = count_on b (duration_refusal d) counted ∙ both_on b (count_then b (duration_refusal d)) p h

    pub ready_passed : (l : List Float) → marks_refusal l ≡ ready_refusal standard b p l
    ready_passed l = count_on b (marks_refusal l) counted ∙ both_on b (count_then b (marks_refusal l)) p h

-- ---- what a call then answers

pub refused_says : (r : Refusal) → refused (number r) ≡ unless (number r) done
refused_says R.UnsoundState = refl
refused_says R.FullCounts = refl
refused_says R.TooWide = refl
refused_says R.LongList = refl
refused_says R.EndlessDuration = refl
refused_says R.ShortDuration = refl
refused_says R.LongDuration = refl
refused_says R.BadSpeed = refl
refused_says R.BadDit = refl
refused_says R.NoLogarithm = refl
refused_says R.NoRoot = refl
refused_says R.BadLine = refl

module _ (b : TimingBank) (n : ℕ) where
  pub answered : (m : Model.Told) (c : Changed) → 0 ≡ n → told c ≡ m → Answers standard n b m (Ok c.gone) c.bank.bank
  answered m c z e = record {
    says = ap (λ (k : ℕ). unless k done) z;
    kept = λ k. absurd (k (sym z));
    state = λ _. e;
    still = λ _. sturdy_sound c.bank.bank c.bank.sturdy;
  }

  pub heard : (m : Model.Bank) (s : SoundBank) → 0 ≡ n → view s.bank ≡ m → Hears standard n b m (Ok tt) s.bank
  heard m s z e = record {
    says = ap (λ (k : ℕ). unless k done) z;
    bank = record { kept = λ k. absurd (k (sym z)); state = λ _. e; still = λ _. sturdy_sound s.bank s.sturdy };
  }

  pub unanswered : (m : Model.Told) (a : Result Departures Refusal) (r : Refusal) → a ≡ Err r → number r ≡ n →
      Answers standard n b m a b
  unanswered m a r e z = record {
    says = ap (Saying.told (λ _. done)) e ∙ refused_says r ∙ ap (λ (k : ℕ). unless k done) z;
    kept = λ _. refl;
    state = λ h. absurd (some_number r (z ∙ h));
    still = λ h. absurd (some_number r (z ∙ h));
  }

  pub unheard : (m : Model.Bank) (a : Result Unit Refusal) (r : Refusal) → a ≡ Err r → number r ≡ n →
      Hears standard n b m a b
  unheard m a r e z = record {
    says = ap (Saying.told (λ _. done)) e ∙ refused_says r ∙ ap (λ (k : ℕ). unless k done) z;
    bank = record {
      kept = λ _. refl;
      state = λ h. absurd (some_number r (z ∙ h));
      still =
          λ h. absurd (some_number r (z ∙ h));
    };
  }

-- ---- a switch call
module _ (b s : TimingBank) (e : s ≡ b) (p : SpeedTracker) (serial : ℕ) (n : ℕ) where
  pub switched : (t : Taken) → 0 ≡ n → Took s p t (take_switch (view s) (Tracked.view p) serial)
      → Switches standard n b p serial (take_switch (view b) (Tracked.view p) serial)
      (record { flag = Ok t.switched; bank = t.bank.bank; primary = t.primary.tracker; serial = t.serial })
  switched t z k =
      let m = take_switch (view b) (Tracked.view p) serial in
      let v : view_taken t ≡ m = k.is ∙ ap (λ (x : TimingBank). take_switch (view x) (Tracked.view p) serial) e in
      let q : t.switched ≡ m.switched = ap (λ (x : Steps.Taken). x.switched) v in
      record {
        says = ap flag q ∙ ap (λ (i : ℕ). unless i (flag m.switched)) z;
        kept = λ h. absurd (h (sym z));
        state = λ _. ap (λ (x : Bool). record {
          bank = view t.bank.bank;
          primary = Tracked.view t.primary.tracker;
          serial =
              t.serial;
          switched = x;
        }) (sym q) ∙ v;
        held = λ _. k.held ∙ ap (primary_after s p) q ∙ ap (λ (x : TimingBank). primary_after x p m.switched) e;
        still = λ _. (sturdy_sound t.bank.bank t.bank.sturdy, t.primary.held);
      }
