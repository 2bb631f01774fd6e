-- Demand 3 of the program: what the contract of `call` says is all that it takes. Assumes nothing.
use mathlib.Core.Path.{◌≡◌, refl, ap, sym, ◌∙◌, subst}
use mathlib.Core.Bool.{Bool, true, false, cond, not, ◌&&◌, true≢false}
use mathlib.Core.List.Permᴰ
use mathlib.Core.List.{List, [], ◌∷◌, Permᴰ}
use mathlib.Core.Option.{none}
use Prim.Native.Nat.{ℕ, zero, suc, ◌≤◌, ◌<◌}
use native.Mathlib.Omega.{arith}
use borrow.Author.Tests.{le-leb, lt-leb}
use lib.Dec.{T, leb}
use lib.ListN.{take}
use lib.Ieee.Bits.{is_true}
use Rattle.std.specs.Prelude as Held
use Rattle.std.specs.Prelude.{Ok, Err, Some, None, is_some}
use Rattle.pair.specs.Model.{held}
use Rattle.refusals.specs.declared.Refusal.TheVariants.{TooWide}
use Rattle.refusals.specs.Refusal.{of_number}
use Rattle.ranges.specs.Settings.{standard}
use Rattle.ranges.proofs.Standard.{standard_good, standard_held}
use Rattle.bank_model.specs.Departures.{widest}
use Rattle.station_model.specs.declared.Event.{Event}
use Rattle.station_model.specs.declared.Event.TheVariants.{Mark, Gap, Finish, Seed, Hint, Clear, Switch}
use Rattle.station_model.specs.declared.Code.{Code}
use Rattle.station_model.specs.declared.Code.TheVariants as Codes
use Rattle.station_model.specs.Station.{number, taken, ready, fresh, refusal, step}
use Rattle.station_model.specs.Station as Model
use Rattle.station_model.specs.Watch.{SameAnswer, Stepped, Ran, RanFrom}
use Rattle.station_model.proofs.Naming.{numbered}
use Rattle.station_model.proofs.Whole.{program_watch}
use Rattle.station.specs.declared.Station.{Station}
use Rattle.station.specs.declared.Outcome.{Outcome}
use Rattle.station.specs.View.{view, answered, outcome}
use Rattle.station.specs.Parts.{Steady}
use Rattle.station.specs.Sound.{sound, choice_sound}
use Rattle.station.specs.Answers.{call_refusal, Called, station_of, Watched, Begins}
use Rattle.station.proofs.Sounding.{solid_sound}

-- ---- no choice is pending beside an unready primary
choice_of : (p : Held.Option ℕ) (ready : Bool) → (ready ≡ false → held p ≡ none) → not (is_some p && not ready) ≡ true
choice_of (Some i) true f = refl
choice_of (Some i) false f = let z = f refl in cc
choice_of None r f = refl

-- nothing is pending while the primary is unready
abbrev pub Quiet : Model.Station → Type 0
Quiet m = ready m.primary ≡ false → m.bank.pending ≡ none

quiet_choice : (s : Station) (e : Event) → Quiet (view s) → choice_sound s e ≡ true
quiet_choice s (Mark d live) k = refl
quiet_choice s (Gap d) k = refl
quiet_choice s Finish k = refl
quiet_choice s (Seed v) k = refl
quiet_choice s (Hint r) k = refl
quiet_choice s Clear k = refl
quiet_choice s Switch k = choice_of s.bank.pending s.primary.pair.ready k

-- so refusal 1 never holds
pub quiet_refusal : (s : Station) (e : Event) → T (sound standard s) → Quiet (view s) → call_refusal standard s e ≡ refusal (view s) e
quiet_refusal s e t k =
    ap (λ (b : Bool). cond (b && choice_sound s e) (refusal (view s) e) 1) (is_true (sound standard s) t)
    ∙ ap (λ (b : Bool). cond b (refusal (view s) e) 1) (quiet_choice s e k)

-- ---- the code of a refusal
refused_code : (c : Code) (n : ℕ) → taken c ≡ false → number c ≡ n → c ≡ Codes.Refused (of_number n)
refused_code Codes.Done n t e = absurd (true≢false t)
refused_code Codes.BecameReady n t e = absurd (true≢false t)
refused_code Codes.Switched n t e = absurd (true≢false t)
refused_code Codes.Nothing n t e = absurd (true≢false t)
refused_code (Codes.Refused r) n t e = ap Codes.Refused (sym (numbered r).is ∙ ap of_number e)

pub same : {a b : Model.Answer} → a ≡ b → SameAnswer a b
same {a} {b} e = record { code = ap (λ (x : Model.Answer). x.code) e; departures = subst (λ (x : Model.Answer). Permᴰ a.departures x.departures) e (Permᴰ.refl a.departures) }

-- ---- one call
module _ (s : Station) (e : Event) (r : Outcome) (t : T (sound standard s)) (k : Quiet (view s)) (c : Called standard s e r) where
  abbrev After : Type 0
  After = T (sound standard r.station) × (outcome r ≡ step standard (view s) e)

  accepted_after : refusal (view s) e ≡ 0 → After
  accepted_after z = let n = quiet_refusal s e t k ∙ z in (c.still n, c.state n)

  refused_after : (n : ℕ) → refusal (view s) e ≡ suc n → After
  unfolding step
  refused_after n z =
      let q = quiet_refusal s e t k ∙ z in
      let h : call_refusal standard s e ≡ 0 → ⊥ = λ y. (let x : ◌≡◌ {A = ℕ} (suc n) 0 = sym q ∙ y in omega arith) in
      let v = c.kept h in
      let code = refused_code r.answer.code (suc n) (c.says h).0 ((c.says h).1 ∙ q) in
      let a : outcome r ≡ Model.outcome standard (view s) e (suc n) =
      λ i. record { station = view (v.0 i); answer = record { code = code i; departures = ap (λ (j : ℕ). take j r.answer.gone.left) v.1 i } } in
      (subst (λ (x : Station). T (sound standard x)) (sym v.0) t, a ∙ sym (ap (Model.outcome standard (view s) e) z))

  pub after : After
  after = go (refusal (view s) e) refl
    where
      go : (n : ℕ) → refusal (view s) e ≡ n → After
      go zero z = accepted_after z
      go (suc n) z = refused_after n z

  stepped : T (sound standard r.station) × Stepped standard (view s) e (view r.station) (answered r.answer)
  stepped = let w = after.1 in (after.0, record { station = ap (λ (x : Model.Outcome). x.station) w; answer = same (ap (λ (x : Model.Outcome). x.answer) w) })

-- ---- every list of calls
still_sound : (s : Station) (e : Event) (r : Outcome) → T (sound standard s) → Called standard s e r → T (sound standard r.station)
still_sound s e r t c = go (call_refusal standard s e) refl
  where
    go : (n : ℕ) → call_refusal standard s e ≡ n → T (sound standard r.station)
    go zero z = c.still z
    go (suc n) z = subst (λ (x : Station). T (sound standard x)) (sym (c.kept (λ y. (let x : ◌≡◌ {A = ℕ} (suc n) 0 = sym z ∙ y in omega arith))).0) t

sound_run : (s : Station) → T (sound standard s) → (calls : List (Ran Station Outcome)) (now : Station) → RanFrom station_of (Called standard) s calls now → T (sound standard now)
unfolding RanFrom
sound_run s t [] now q = subst (λ (x : Station). T (sound standard x)) (sym q) t
sound_run s t (c ∷ calls) now q =
    subst (λ (x : Station). T (sound standard x)) (sym q.2)
    (still_sound c.before c.event c.returned (sound_run s t calls c.before q.0) q.1.1)

pub watched : (width : ℕ) (switching : Bool) (s : Station) → T (sound standard s) → view s ≡ fresh width switching → Watched standard width switching s
watched width switching s t b = record {
  holds = program_watch standard standard_good standard_held width switching station_of view (λ (r : Outcome). answered r.answer) (Called standard) (λ (x : Station). T (sound standard x))
      (λ x e r t k c d. stepped x e r t k.unready d) s t b;
  stays = sound_run s t;
}

-- ---- a start
pub begins : (w : ℕ) (b : Bool) (s : Station) → w ≤ widest → (view s ≡ fresh w b) × Steady s → Begins standard w b (Ok tt) s
begins w b s h k =
    let e : leb w widest ≡ true = le-leb w widest h in
    let t = solid_sound s k.1.solid in
    record {
      says = sym (ap (λ (x : Bool). cond x 0 3) e);
      state = k.0 ∙ sym (ap (λ (x : Bool). cond x (fresh w b) (fresh 1 false)) e);
      still = t;
      watch = subst (λ (x : Bool). Watched standard (cond x w 1) (cond x b false) s) (sym e) (watched w b s t k.0);
    }

pub begins_not : (w : ℕ) (b : Bool) (s : Station) → widest < w → (view s ≡ fresh 1 false) × Steady s → Begins standard w b (Err TooWide) s
begins_not w b s h k =
    let e : leb w widest ≡ false = lt-leb w widest h in
    let t = solid_sound s k.1.solid in
    record {
      says = sym (ap (λ (x : Bool). cond x 0 3) e);
      state = k.0 ∙ sym (ap (λ (x : Bool). cond x (fresh w b) (fresh 1 false)) e);
      still = t;
      watch = subst (λ (x : Bool). Watched standard (cond x w 1) (cond x b false) s) (sym e) (watched 1 false s t k.0);
    }
