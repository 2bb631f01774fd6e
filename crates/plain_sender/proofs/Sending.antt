-- What becomes of a sender's statistics in the host's memory. Assumes nothing.
use mathlib.Core.Path.{◌≡◌, refl, ap, sym, ◌∙◌}
use mathlib.Core.Bool.{Bool, true, false, cond}
use mathlib.Core.Option.{Option, none, some}
use Prim.Native.Nat.{ℕ, zero, suc}
use native.Mathlib.Omega.{arith}
use lib.Dec.{eqb}
use lib.Ieee.{Float}
use borrow.Author.Tests.{ne_eqb}
use Rattle.std.specs.Prelude.{Result, Ok, Err}
use Rattle.refusals.specs.declared.Refusal.{Refusal}
use Rattle.refusals.specs.Refusal.{coded, refusal_of}
use Rattle.sender.specs.declared.TimingClass.{TimingClass}
use Rattle.sender.specs.declared.TimingClass.TheVariants.{Dot, Dash, ElementGap, CharGap, WordGap}
use Rattle.sender.specs.declared.ClassStats.{ClassStats}
use Rattle.sender.specs.declared.SenderTiming.{SenderTiming}
use Rattle.sender.specs.Model.{Class, Timing, at, sampled, stats_of, view, view_class, with_stats}
use Rattle.sender.specs.Steps.{dits, observed, observed_class}
use Rattle.sender.specs.Answers.{Left, done, first_of, observe_refusal, of_told, unless}
use Rattle.sender.proofs.Views.{at_view}
use Rattle.plain_sender.specs.Plain.{Observes, plain_class, sent_refusal, with_class}

-- ---- refusals

-- the refusal in what `observe` says
told_refusal : (r : Result Unit Refusal) (n : ℕ) → of_told r ≡ unless n done → refusal_of r ≡ n
told_refusal (Ok u) zero e = refl
told_refusal (Ok u) (suc n) e = absurd (cc)
told_refusal (Err r) zero e = absurd (cc)
told_refusal (Err r) (suc n) e = cc

-- ---- a class

class_back : (m v : Float) (n : ℕ) (x : Class) → sampled m v n ≡ some x
    → plain_class (sampled m v n) ≡ record { mean = record { 0 = m }; var = v; n = n }
class_back m v zero x e = absurd (cc)
class_back m v (suc n) x e = rw (ne_eqb (suc n) 0 (λ h. omega arith))

class_put : (k : TimingClass) (x : Float) (t : Timing) → at k (observed k x t) ≡ some (observed_class (at k t) x)
unfolding observed
class_put Dot x t = refl
class_put Dash x t = refl
class_put ElementGap x t = refl
class_put CharGap x t = refl
class_put WordGap x t = refl

-- ---- what is left of an observation

module _ (k : TimingClass) (dur dit : Float) (s r : SenderTiming)
    (l : Left (observe_refusal (view s) dur dit) s (observed k (dits dur dit) (view s)) r)
    (w : r ≡ with_stats k (stats_of k r) s) where
  abbrev after : Option Class
  after = at k (observed k (dits dur dit) (view s))

  changed : observe_refusal (view s) dur dit ≡ 0 → stats_of k r ≡ plain_class after
  changed z =
      let c = stats_of k r in
      let e : view_class c ≡ after = at_view k r ∙ ap (at k) (l.state z) in
      sym (class_back c.mean.0 c.var c.n _ (e ∙ class_put k (dits dur dit) (view s))) ∙ ap plain_class e

  leaves : (n : ℕ) → observe_refusal (view s) dur dit ≡ n → r ≡ cond (eqb n 0) (with_class (some k) dur dit s) s
  leaves zero z = w ∙ ap (λ (c : ClassStats). with_stats k c s) (changed z)
  leaves (suc n) z =
      let more : observe_refusal (view s) dur dit ≡ 0 → ⊥ = λ y. omega arith in
      l.kept more ∙ sym (rw (ne_eqb (suc n) 0 (λ h. omega arith)))

  pub observes_named : (a : Result Unit Refusal) → of_told a ≡ unless (observe_refusal (view s) dur dit) done
      → Observes (some k) dur dit s (coded (refusal_of a)) r
  observes_named a e = record {
    says = ap coded (told_refusal a _ e);
    leaves = leaves (observe_refusal (view s) dur dit) refl;
    still = l.still;
  }

-- ---- where no class has the number
same_either : {A : Type 0} (b : Bool) (x : A) → x ≡ cond b x x
same_either true x = refl
same_either false x = refl

never_none : (n : ℕ) → first_of n 12 ≡ 0 → ⊥
never_none zero e = omega arith
never_none (suc n) e = omega arith

pub observes_none : (dur dit : Float) (s : SenderTiming) (code : ℕ) → code ≡ coded (sent_refusal none dur dit (view s))
    → Observes none dur dit s code s
observes_none dur dit s code e = record {
  says = e;
  leaves = same_either (eqb (sent_refusal none dur dit (view s)) 0) s;
  still = λ z. absurd (never_none (observe_refusal (view s) dur dit) z);
}
