-- How a wrapper reads a form, and hands on what its callee said and left. Assumes nothing.
use Rattle.std.proofs.Common.{
  ◌≡◌,
  ℕ,
  zero,
  suc,
  Bool,
  true,
  false,
  cond,
  T,
  refl,
  sym,
  ap,
  ◌∙◌,
  subst,
  arith,
  Result,
  Ok,
  Err,
}
use Rattle.refusals.specs.declared.Refusal.{Refusal}
use Rattle.refusals.specs.declared.Refusal.TheVariants.{
  UnsoundState,
  FullCounts,
  TooWide,
  LongList,
  EndlessDuration,
  ShortDuration,
  LongDuration,
  BadSpeed,
  BadDit,
  NoLogarithm,
  NoRoot,
  BadLine,
}
use Rattle.refusals.specs.Refusal.{number, refusal_of}
use Rattle.ranges.specs.Settings.{standard}
use Rattle.tracker.specs.declared.SpeedTracker.{SpeedTracker}
use Rattle.tracker.specs.Model.{Tracker, view}
use Rattle.tracker.specs.Sound.{sound}
use Rattle.tracker.specs.Answers.{Answer, done, flag, unless, state_then, told, Answers}
use Rattle.plain_tracker.specs.declared.PlainTracker.{PlainTracker}
use Rattle.plain_tracker.specs.Plain.{is_tracker, plain_tracker, tracker_of}
use Rattle.plain_tracker.proofs.Back.{tracker_back, tracker_named, tracker_plain, tracker_sound, tracker_view}
use Rattle.exports.specs.declared.of_tracker.TrackerTold.{TrackerTold}
use Rattle.exports.specs.declared.of_tracker.TrackerFlagged.{TrackerFlagged}
use Rattle.exports.specs.Tracker.{code, yes, form_state_then, Handed, NeatTracker, ReadAs, left_by, said_by, told_by}

-- a refusal's number is not 0
pub numbered : (r : Refusal) → number r ≡ 0 → ⊥
numbered UnsoundState e = omega arith
numbered FullCounts e = omega arith
numbered TooWide e = omega arith
numbered LongList e = omega arith
numbered EndlessDuration e = omega arith
numbered ShortDuration e = omega arith
numbered LongDuration e = omega arith
numbered BadSpeed e = omega arith
numbered BadDit e = omega arith
numbered NoLogarithm e = omega arith
numbered NoRoot e = omega arith
numbered BadLine e = omega arith

-- the code of what is said, where no value has one of its own
pub told_code : {A : Type 0} (f : A → Answer) → ((x : A) → code (f x) ≡ 0) → (r : Result A Refusal)
    → refusal_of r ≡ code (told f r)
told_code f p (Ok x) = sym (p x)
told_code f p (Err r) = refl

unless_code : (n : ℕ) (a : Answer) → code a ≡ 0 → code (unless n a) ≡ n
unless_code zero a e = e
unless_code (suc n) a e = refl

-- the form of a tracker means what it means; that of a sound one is that of a sound one
pub form_view : (q : PlainTracker) (v : SpeedTracker) → q ≡ plain_tracker v → view (tracker_of q) ≡ view v
form_view q v e = ap (λ w. view (tracker_of w)) e ∙ ap view (tracker_back v) ∙ tracker_view v

pub form_of : (q : PlainTracker) (v : SpeedTracker) → q ≡ plain_tracker v → T (sound standard v)
    → (view (tracker_of q) ≡ view v) × T (sound standard (tracker_of q))
form_of q v e s = (
  form_view q v e,
  subst (λ w. T (sound standard (tracker_of w))) (sym e)
      (subst (λ w. T (sound standard w)) (sym (tracker_back v)) (subst (λ b. T b) (sym (tracker_sound standard v)) s)),
)

-- that form has no number but those of its tracker
pub form_neat : (q : PlainTracker) (v : SpeedTracker) → q ≡ plain_tracker v → NeatTracker q
form_neat q v e =
    e ∙ sym
    (ap (λ (z : PlainTracker). plain_tracker (tracker_of z)) e ∙ ap plain_tracker (tracker_back v)
    ∙ tracker_plain v)

-- a tracker with a count above its capacity
pub overfull : (t : SpeedTracker) → t.pair.init_len ≡ 0 → t.ring_len ≡ 13 → sound standard t ≡ false
unfolding sound
overfull t e h = rw (e, h)

-- ---- the tracker u of the form t
module _ (t : PlainTracker) (u : SpeedTracker) (R : ReadAs t u) where
  by_form : {P : Type 0} → (is_tracker t ≡ true → P) → (is_tracker t ≡ false → P) → P
  by_form {P} f g = go (is_tracker t) refl
    where
      go : (b : Bool) → is_tracker t ≡ b → P
      go true e = f e
      go false e = g e

  pub read_then : (n : ℕ) → state_then standard u n ≡ form_state_then t n
  read_then n =
      by_form
      (λ e. ap (λ z. state_then standard z n) (R.is e) ∙ sym
      (ap (λ b. cond b (state_then standard (tracker_of t) n) 1) e))
      (λ e. ap (λ b. cond b n 1) (R.is_not e) ∙ sym (ap (λ b. cond b (state_then standard (tracker_of t) n) 1) e))

  -- what a call says
  pub says : (n : ℕ) (g : SpeedTracker → Answer) (x : Answer) → x ≡ unless (state_then standard u n) (g u)
      → x ≡ unless (form_state_then t n) (g (tracker_of t))
  says n g x e =
      by_form
      (λ h. e ∙ ap (λ z. unless (state_then standard z n) (g z)) (R.is h) ∙ sym
      (ap (λ b. unless (cond b (state_then standard (tracker_of t) n) 1) (g (tracker_of t))) h))
      (λ h. e ∙ ap (λ b. unless (cond b n 1) (g u)) (R.is_not h) ∙ sym
      (ap (λ b. unless (cond b (state_then standard (tracker_of t) n) 1) (g (tracker_of t))) h))

  -- where none refuses, it is the form's
  is_form : (n : ℕ) → form_state_then t n ≡ 0 → u ≡ tracker_of t
  is_form n z = by_form R.is (λ h. absurd (one (sym (ap (λ b. cond b (state_then standard (tracker_of t) n) 1) h) ∙ z)))
    where
      one : ◌≡◌ {A = ℕ} 1 0 → ⊥
      one e = omega arith

  -- ---- a call that changes it
  module _ {A : Type 0} (f : A → Answer) (p : (x : A) → code (f x) ≡ 0) (n : ℕ) (g : SpeedTracker → Answer)
      (q : code (g (tracker_of t)) ≡ 0) (m : SpeedTracker → Tracker) (r : Result A Refusal) (v : SpeedTracker)
      (h : Answers standard (state_then standard u n) u (g u) (told f r) (m u) v) where
    pub said_is : told f r ≡ unless (form_state_then t n) (g (tracker_of t))
    said_is = says n g (told f r) h.says

    pub code_is : refusal_of r ≡ form_state_then t n
    code_is = told_code f p r ∙ ap code said_is ∙ unless_code (form_state_then t n) (g (tracker_of t)) q

    refuses : (r : Result A Refusal) → refusal_of r ≡ form_state_then t n → (form_state_then t n ≡ 0 → ⊥)
        → left_by t r v ≡ t
    refuses (Ok x) e k = absurd (k (sym e))
    refuses (Err x) e k = refl

    accepts : (r : Result A Refusal) → refusal_of r ≡ form_state_then t n → form_state_then t n ≡ 0
        → left_by t r v ≡ plain_tracker v
    accepts (Ok x) e z = refl
    accepts (Err x) e z = absurd (numbered x (e ∙ z))

    pub hands : Handed standard (form_state_then t n) t (m (tracker_of t)) (left_by t r v)
    hands = record {
      kept = refuses r code_is;
      form =
          λ z. subst (λ w. T (is_tracker w)) (sym (accepts r code_is z)) (subst (λ b. T b) (sym (tracker_named v)) tt);
      neat = λ z. form_neat (left_by t r v) v (accepts r code_is z);
      state =
          λ z. (form_of (left_by t r v) v (accepts r code_is z) (h.still (read_then n ∙ z))).0
          ∙ h.state (read_then n ∙ z) ∙ ap m (is_form n z);
      still = λ z. (form_of (left_by t r v) v (accepts r code_is z) (h.still (read_then n ∙ z))).1;
    }

  pub told_on : (n : ℕ) (m : SpeedTracker → Tracker) (r : Result (Unit {0}) Refusal) (v : SpeedTracker)
      (w : TrackerTold)
      → Answers standard (state_then standard u n) u done (told (λ x. done) r) (m u) v → w ≡ told_by t r v
      → (w.code ≡ code (unless (form_state_then t n) done)) × Handed standard (form_state_then t n) t
      (m (tracker_of t)) w.tracker
  told_on n m r v w h e = (
    ap (λ z. z.code) e ∙ told_code (λ x. done) (λ x. refl) r
        ∙ ap code (said_is (λ x. done) (λ x. refl) n (λ z. done) refl m r v h),
    subst (λ z. Handed standard (form_state_then t n) t (m (tracker_of t)) z) (sym (ap (λ z. z.tracker) e))
        (hands (λ x. done) (λ x. refl) n (λ z. done) refl m r v h),
  )

  pub said_on : (n : ℕ) (g : SpeedTracker → Bool) (m : SpeedTracker → Tracker) (r : Result Bool Refusal)
      (v : SpeedTracker) (w : TrackerFlagged)
      → Answers standard (state_then standard u n) u (flag (g u)) (told flag r) (m u) v → w ≡ said_by t r v
      → (w.code ≡ code (unless (form_state_then t n) (flag (g (tracker_of t))))) ×
      (w.yes ≡ yes (unless (form_state_then t n) (flag (g (tracker_of t))))) × Handed standard
      (form_state_then t n) t (m (tracker_of t)) w.tracker
  said_on n g m r v w h e = (
    ap (λ z. z.code) e ∙ told_code flag (λ x. refl) r
        ∙ ap code (said_is flag (λ x. refl) n (λ z. flag (g z)) refl m r v h),
    ap (λ z. z.yes) e ∙ ap yes (said_is flag (λ x. refl) n (λ z. flag (g z)) refl m r v h),
    subst (λ z. Handed standard (form_state_then t n) t (m (tracker_of t)) z) (sym (ap (λ z. z.tracker) e))
        (hands flag (λ x. refl) n (λ z. flag (g z)) refl m r v h),
  )
