-- What a public call of a bank answers stands in the plain form that leaves; a form that is none is refused. Assumes nothing.
use mathlib.Core.Path.{◌≡◌, refl, ap, sym, ◌∙◌, subst}
use mathlib.Core.Bool.{Bool, true, false, cond, ◌&&◌}
use mathlib.Core.List.{map}
use Prim.Native.Nat.{ℕ, zero, suc}
use native.Mathlib.Omega.{arith}
use lib.Dec.{T, leb, ltb}
use lib.ListN.{take}
use borrow.Author.Tests.{ne_eqb}
use Rattle.std.specs.Prelude.{Result, Ok, Err}
use Rattle.std.specs.List.{list_all}
use Rattle.refusals.specs.declared.Refusal.{Refusal}
use Rattle.refusals.specs.Refusal.{number, refusal_of}
use Rattle.ranges.specs.Settings.{standard}
use Rattle.tracker.specs.declared.SpeedTracker.{SpeedTracker}
use Rattle.tracker.specs.Model as Tracked
use Rattle.tracker.specs.Sound as Tracking
use Rattle.tracker.specs.Answers.{done, flag, refused, told, unless}
use Rattle.bank_model.specs.declared.departures.Departures.{Departures}
use Rattle.bank_model.specs.Departures.{widest}
use Rattle.bank_model.specs.Model as Model
use Rattle.bank_model.specs.Steps as Steps
use Rattle.rival.specs.Sound.{hyp_sound}
use Rattle.bank.specs.declared.TimingBank.{TimingBank}
use Rattle.bank.specs.declared.Switched.{Switched}
use Rattle.bank.specs.View.{view}
use Rattle.bank.specs.Sound.{counted, rest_sound, sound, width_sound}
use Rattle.bank.specs.Switching.{primary_after}
use Rattle.bank.specs.Answers.{Answers, Hears, Started, Switches, bank_then, both_then, width_refusal}
use Rattle.plain_tracker.specs.declared.PlainTracker.{PlainTracker}
use Rattle.plain_tracker.specs.Plain.{carried, is_tracker, plain_tracker, tracker_of}
use Rattle.plain_tracker.proofs.Back.{tracker_named}
use Rattle.plain.specs.declared.PlainBank.{PlainBank}
use Rattle.plain.specs.Plain.{bank_of, plain_bank, plain_departure, is_bank}
use Rattle.plain.proofs.Back.{bank_named, bank_sound}
use Rattle.exports.specs.declared.of_bank.BankAnswered.{BankAnswered}
use Rattle.exports.specs.declared.of_bank.BankHeard.{BankHeard}
use Rattle.exports.specs.declared.of_bank.BankSwitched.{BankSwitched}
use Rattle.exports.specs.Bank.{BankAnswers, BankHears, BankStarted, BankSwitches, ReadAs, Well, forms_then, heard_on, passed_on, plain_then, switched_on}
use Rattle.exports.specs.Tracker as Trackers
use Rattle.exports.proofs.Banking.{left_blank, left_is, neat, view_as}
use Rattle.exports.proofs.Handing.{form_of, form_view, numbered}

-- ---- a bank of width 0 is unsound

nor : (x : Bool) → (x && false) ≡ false
nor true = refl
nor false = refl

unsound : (c : TimingBank) → c.width ≡ 0 → sound standard widest c ≡ false
unfolding sound
unsound c e =
    let w : width_sound widest c ≡ false = ap (λ (n : ℕ). leb 1 n && (leb n widest && ltb c.challengers_len n)) e in
    ap (λ (z : Bool). counted widest c && (z && (list_all (hyp_sound standard) (take c.challengers_len c.challengers) && rest_sound c))) w ∙ nor (counted widest c)

pub read_none : (b : PlainBank) (c : TimingBank) → is_bank b ≡ false → c.width ≡ 0 → ReadAs b c
read_none b c i e = record { is = λ w. absurd (subst T (sym w ∙ i) tt); is_not = λ w. unsound c e }

-- ---- the bank c of the form b, and the tracker t of the form p; where there is no form, a call is refused by 1

cases : {P : Type 0} (x : Bool) → (x ≡ true → P) → (x ≡ false → P) → P
cases true f g = f refl
cases false f g = g refl

not_one : {A : Type 0} (n : ℕ) → n ≡ 1 → n ≡ 0 → A
not_one n e z = let w : ◌≡◌ {A = ℕ} 1 0 = sym e ∙ z in absurd (omega arith)

module _ (b : PlainBank) (c : TimingBank) (R : ReadAs b c) (k : TimingBank → ℕ) where
  pub bank_read : bank_then standard c (k c) ≡ plain_then b (bank_then standard (bank_of b) (k (bank_of b)))
  bank_read =
      cases (is_bank b)
      (λ e. ap (λ z. bank_then standard z (k z)) (R.is e) ∙ sym (rw e))
      (λ e. rw (R.is_not e) (sym (rw e)))

  pub bank_known : plain_then b (bank_then standard (bank_of b) (k (bank_of b))) ≡ 0 → c ≡ bank_of b
  bank_known z = cases (is_bank b) R.is (λ e. not_one _ (rw e) z)

module _ (b : PlainBank) (c : TimingBank) (R : ReadAs b c) (p : PlainTracker) (t : SpeedTracker) (S : Trackers.ReadAs p t) (k : TimingBank → SpeedTracker → ℕ) where
  abbrev both_forms : ℕ
  both_forms = forms_then b p (both_then standard (bank_of b) (tracker_of p) (k (bank_of b) (tracker_of p)))

  pub forms_read : both_then standard c t (k c t) ≡ both_forms
  forms_read =
      cases (is_bank b)
      (λ e. cases (is_tracker p)
      (λ f. ap (λ z. both_then standard z t (k z t)) (R.is e) ∙ ap (λ z. both_then standard (bank_of b) z (k (bank_of b) z)) (S.is f) ∙ sym (rw (e, f)))
      (λ f. ap (λ x. cond (sound standard widest c && x) (k c t) 1) (S.is_not f) ∙ ap (λ x. cond x (k c t) 1) (nor (sound standard widest c)) ∙ sym (rw (e, f))))
      (λ e. rw (R.is_not e) (sym (rw e)))

  pub forms_known : both_forms ≡ 0 → (c ≡ bank_of b) × (t ≡ tracker_of p) × (is_tracker p ≡ true)
  forms_known z =
      cases (is_bank b)
      (λ e. cases (is_tracker p)
      (λ f. (R.is e, S.is f, f))
      (λ f. not_one _ (rw (e, f)) z))
      (λ e. not_one _ (rw e) z)

-- ---- what an answer says of its refusal

done_is : (n : ℕ) → done ≡ unless n done → n ≡ 0
done_is zero e = refl
done_is (suc n) e = absurd cc

refused_is : (m n : ℕ) → refused m ≡ unless n done → m ≡ n
refused_is m zero e = absurd cc
refused_is m (suc n) e = cc

flag_is : (on is : Bool) (n : ℕ) → flag on ≡ unless n (flag is) → (n ≡ 0) × (on ≡ is)
flag_is on is zero e = (refl, cc)
flag_is on is (suc n) e = absurd cc

unflagged_is : (m n : ℕ) (is : Bool) → refused m ≡ unless n (flag is) → m ≡ n
unflagged_is m zero is e = absurd cc
unflagged_is m (suc n) is e = cc

well : (d : TimingBank) → T (sound standard widest d) → Well (plain_bank d)
well d h = record { is = bank_named d; neat = neat d refl; sound = subst T (sym (bank_sound standard widest d)) h }

-- ---- a call that met the refusal q on a bank, and so N on its form
module _ (N q : ℕ) (e : q ≡ N) (b : PlainBank) (c d : TimingBank) where
  some : (r : Refusal) → number r ≡ q → {A : Type 0} → N ≡ 0 → A
  some r i z = absurd (numbered r (i ∙ e ∙ z))

  module _ (m k : Model.Told) (known : N ≡ 0 → m ≡ k) where
    answers : (said : Result Departures Refusal) → Answers standard q c m said d → BankAnswers N b k (passed_on b said d)
    unfolding carried
    answers (Ok gone) h =
        let z : q ≡ 0 = done_is q h.says in
        let s = h.state z ∙ known (sym e ∙ z) in
        record {
          says = sym z ∙ e;
          kept = λ f. absurd (f (sym e ∙ z));
          state = λ w. record {
            bank = view_as d refl ∙ ap (λ (x : Model.Told). x.bank) s;
            left = left_is gone.left gone.left_len refl ∙ ap (λ (x : Model.Told). map plain_departure x.left) s;
          };
          still = λ w. well d (h.still z);
          few = gone.listed.few;
          blank = left_blank gone.left gone.left_len refl;
        }
    answers (Err r) h =
        let i : number r ≡ q = refused_is (number r) q h.says in
        record { says = i ∙ e; kept = λ f. (refl, refl); state = some r i; still = some r i; few = omega arith; blank = refl }

    pub answered_by : (said : Result Departures Refusal) (r : BankAnswered) → Answers standard q c m said d → r ≡ passed_on b said d → BankAnswers N b k r
    answered_by said r h f = subst (BankAnswers N b k) (sym f) (answers said h)

  module _ (m k : Model.Bank) (known : N ≡ 0 → m ≡ k) where
    hears : (said : Result (Unit {0}) Refusal) → Hears standard q c m said d → BankHears N b k (heard_on b said d)
    hears (Ok u) h =
        let z : q ≡ 0 = done_is q h.says in
        record {
          says = sym z ∙ e;
          kept = λ f. absurd (f (sym e ∙ z));
          state = λ w. view_as d refl ∙ h.bank.state z ∙ known w;
          still = λ w. well d (h.bank.still z);
        }
    hears (Err r) h =
        let i : number r ≡ q = refused_is (number r) q h.says in
        record { says = i ∙ e; kept = λ f. refl; state = some r i; still = some r i }

    pub heard_by : (said : Result (Unit {0}) Refusal) (r : BankHeard) → Hears standard q c m said d → r ≡ heard_on b said d → BankHears N b k r
    heard_by said r h f = subst (BankHears N b k) (sym f) (hears said h)

-- ---- a switch call that met the refusal q on a bank c and a tracker t, and so N on their forms
module _ (N q : ℕ) (e : q ≡ N) (b : PlainBank) (c : TimingBank) (p : PlainTracker) (t : SpeedTracker) (serial : ℕ) (m k : Steps.Taken)
    (known : N ≡ 0 → (c ≡ bank_of b) × (t ≡ tracker_of p) × (is_tracker p ≡ true)) (same : N ≡ 0 → m ≡ k)
    (a : Switched) (h : Switches standard q c t serial m a) where
  abbrev after : Bool → PlainTracker
  after on = cond on (plain_tracker a.primary) p

  abbrev taking : Model.Bank → Tracked.Tracker → Bool → Steps.Taken
  taking x y s = record { bank = x; primary = y; serial = a.serial; switched = s }

  -- the tracker that is found
  found : (on : Bool) → q ≡ 0 → on ≡ m.switched → after on ≡ cond on (plain_tracker (primary_after (bank_of b) (tracker_of p) true)) p
  found true z s =
      let w = known (sym e ∙ z) in
      ap plain_tracker (h.held z ∙ ap (primary_after c t) (sym s) ∙ ap (λ x. primary_after x t true) w.0 ∙ ap (λ x. primary_after (bank_of b) x true) w.1)
  found false z s = refl

  view_found : (on : Bool) → q ≡ 0 → on ≡ m.switched → Tracked.view (tracker_of (after on)) ≡ m.primary
  view_found true z s = form_view _ a.primary refl ∙ ap (λ (x : Steps.Taken). x.primary) (h.state z)
  view_found false z s =
      let w = known (sym e ∙ z) in
      ap Tracked.view (sym w.1 ∙ ap (primary_after c t) s ∙ sym (h.held z)) ∙ ap (λ (x : Steps.Taken). x.primary) (h.state z)

  still_found : (on : Bool) → q ≡ 0 → on ≡ m.switched → (is_tracker (after on) ≡ true) × T (Tracking.sound standard (tracker_of (after on)))
  still_found true z s = (tracker_named a.primary, (form_of _ a.primary refl (h.still z).1).1)
  still_found false z s =
      let w = known (sym e ∙ z) in
      let is : a.primary ≡ tracker_of p = h.held z ∙ ap (primary_after c t) (sym s) ∙ w.1 in
      (w.2, subst (λ x. T (Tracking.sound standard x)) is (h.still z).1)

  switches : (f : Result Bool Refusal) → a.flag ≡ f → BankSwitches N b p serial k (switched_on b p a f)
  switches (Ok on) g =
      let i = flag_is on m.switched q (sym (ap (told flag) g) ∙ h.says) in
      let z : q ≡ 0 = i.0 in
      let n : N ≡ 0 = sym e ∙ z in
      let s = same n in
      let on_is : on ≡ k.switched = i.1 ∙ ap (λ (x : Steps.Taken). x.switched) s in
      record {
        says = sym n;
        flag = on_is ∙ sym (rw n);
        kept = λ f. absurd (f n);
        state = λ w. ap (λ (x : Model.Bank). taking x (Tracked.view (tracker_of (after on))) k.switched) (view_as a.bank refl)
            ∙ ap (λ (x : Tracked.Tracker). taking (view a.bank) x k.switched) (view_found on z i.1 ∙ sym (ap (λ (x : Steps.Taken). x.primary) (h.state z)))
            ∙ ap (taking (view a.bank) (Tracked.view a.primary)) (sym (ap (λ (x : Steps.Taken). x.switched) s))
            ∙ h.state z ∙ s;
        held = λ w. found on z i.1 ∙ ap (λ x. cond x (plain_tracker (primary_after (bank_of b) (tracker_of p) true)) p) on_is;
        still = λ w. let u = still_found on z i.1 in (well a.bank (h.still z).0, u.0, u.1);
      }
  switches (Err r) g =
      let i : number r ≡ q = unflagged_is (number r) q m.switched (sym (ap (told flag) g) ∙ h.says) in
      let never : N ≡ 0 → ⊥ = λ z. numbered r (i ∙ e ∙ z) in
      record {
        says = i ∙ e;
        flag = sym (rw (ne_eqb N 0 never));
        kept = λ f. (refl, (refl, (h.kept (λ z. f (sym e ∙ z))).1.1));
        state = λ z. absurd (never z);
        held = λ z. absurd (never z);
        still = λ z. absurd (never z);
      }

  pub switched_by : (r : BankSwitched) → r ≡ switched_on b p a a.flag → BankSwitches N b p serial k r
  switched_by r f = subst (BankSwitches N b p serial k) (sym f) (switches a.flag refl)

-- ---- the calls on a bank that was read from the form b, beside a primary that was read from the form p
module _ (b : PlainBank) (c : TimingBank) (R : ReadAs b c) (p : PlainTracker) (t : SpeedTracker) (S : Trackers.ReadAs p t) (k : TimingBank → SpeedTracker → ℕ) where
  abbrev inner : ℕ
  inner = both_then standard c t (k c t)

  abbrev outer : ℕ
  outer = both_forms b c R p t S k

  same_for : {A : Type 0} (m : TimingBank → SpeedTracker → A) → outer ≡ 0 → m c t ≡ m (bank_of b) (tracker_of p)
  same_for m z = let w = forms_known b c R p t S k z in ap (λ x. m x t) w.0 ∙ ap (m (bank_of b)) w.1

  pub answers_both : (m : TimingBank → SpeedTracker → Model.Told) (said : Result Departures Refusal) (d : TimingBank) (r : BankAnswered)
      → Answers standard inner c (m c t) said d → r ≡ passed_on b said d → BankAnswers outer b (m (bank_of b) (tracker_of p)) r
  answers_both m said d r h f = answered_by outer inner (forms_read b c R p t S k) b c d _ _ (same_for m) said r h f

  pub hears_both : (m : TimingBank → SpeedTracker → Model.Bank) (said : Result (Unit {0}) Refusal) (d : TimingBank) (r : BankHeard)
      → Hears standard inner c (m c t) said d → r ≡ heard_on b said d → BankHears outer b (m (bank_of b) (tracker_of p)) r
  hears_both m said d r h f = heard_by outer inner (forms_read b c R p t S k) b c d _ _ (same_for m) said r h f

  pub switches_both : (serial : ℕ) (m : TimingBank → SpeedTracker → Steps.Taken) (a : Switched) (r : BankSwitched)
      → Switches standard inner c t serial (m c t) a → r ≡ switched_on b p a a.flag → BankSwitches outer b p serial (m (bank_of b) (tracker_of p)) r
  switches_both serial m a r h f =
      switched_by outer inner (forms_read b c R p t S k) b c p t serial _ _ (forms_known b c R p t S k) (same_for m) a h r f

-- ---- a start
pub started : (width : ℕ) (switching : Bool) (said : Result (Unit {0}) Refusal) (d : TimingBank) (n : ℕ) (q : PlainBank) → n ≡ refusal_of said → q ≡ plain_bank d
    → Started standard width switching said d → BankStarted width switching (record { code = n; bank = q })
started width switching said d n q e f h = record {
  says = e ∙ by said h.says;
  state = view_as d f ∙ h.state;
  still = subst Well (sym f) (well d h.still);
}
  where
    by : (r : Result (Unit {0}) Refusal) → told (λ _. done) r ≡ unless (width_refusal width) done → refusal_of r ≡ width_refusal width
    by (Ok u) s = sym (done_is _ s)
    by (Err r) s = refused_is (number r) _ s
