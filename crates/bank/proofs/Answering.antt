-- What an accepted call answers. Assumes nothing.
use Rattle.std.proofs.Common.{
  ◌≡◌,
  ℕ,
  zero,
  suc,
  ◌<◌,
  ◌≤◌,
  Bool,
  true,
  false,
  cond,
  ◌||◌,
  leb,
  List,
  [],
  ◌∷◌,
  sym,
  refl,
  ap,
  ◌∙◌,
  subst,
  le-leb,
}
use Rattle.std.specs.Prelude.{Ok, Err}
use Rattle.std.specs.List.{slice_get}
use lib.Ieee.Bits.{is_true}
use lib.ListN.{get_elem?}
use borrow.Author.Tests.{lt-leb}
use Rattle.refusals.specs.declared.Refusal.TheVariants.{TooWide}
use Rattle.ranges.specs.Settings.{standard}
use Rattle.tracker.specs.Answers.{Answer, done, unless}
use Rattle.bank_model.specs.Departures.{widest}
use Rattle.bank_model.specs.Model as Model
use Rattle.bank_model.specs.Steps as Steps
use Rattle.bank.specs.declared.TimingBank.{TimingBank}
use Rattle.bank.specs.declared.sound_bank.SoundBank.{SoundBank}
use Rattle.bank.specs.declared.Changed.{Changed}
use Rattle.bank.specs.View.{view, told}
use Rattle.bank.specs.Sturdy.{Sturdy}
use Rattle.bank.specs.Parts.{Countable}
use Rattle.bank.specs.Sound.{sound}
use Rattle.bank.specs.Answers.{of_shown, showing, bank_then, count_then, clear_refusal, Started, Answers}
use Rattle.bank.proofs.Sounding.{sturdy_sound}

-- ---- no refusal holds
module _ (b : TimingBank) (s : Sturdy b) where
  passes : sound standard widest b ≡ true
  passes = is_true (sound standard widest b) (sturdy_sound b s)

  pub bank_passes : (n : ℕ) → bank_then standard b n ≡ n
  bank_passes n = ap (λ (x : Bool). cond x n 1) passes

count_passes : (b : TimingBank) → Countable b → (n : ℕ) → count_then b n ≡ n
count_passes b k n =
    ap (λ (x : Bool). cond (x || leb 4294967295 b.gaps_seen) 2 n) (lt-leb 4294967295 b.marks_seen k.marks)
    ∙ ap (λ (x : Bool). cond x 2 n) (lt-leb 4294967295 b.gaps_seen k.gaps)

accepts : (n : ℕ) (a : Answer) → n ≡ 0 → a ≡ unless n a
accepts n a z = sym (ap (λ (i : ℕ). unless i a) z)

-- ---- the i-th of the first n
module _ {A : Type 0} where
  found : (l : List A) (i : ℕ) → of_shown (Ok (slice_get l i)) ≡ showing 0 (get_elem? l i)
  found [] i = refl
  found (x ∷ xs) zero = refl
  found (x ∷ xs) (suc i) = found xs i

  -- the bank b, which is s, has the list
  pub shows : (b : TimingBank) (s : SoundBank) → s.bank ≡ b → (list : TimingBank → List A) (i : ℕ) →
      of_shown (Ok (slice_get (list s.bank) i)) ≡ showing (bank_then standard b 0) (get_elem? (list b) i)
  shows b s e list i =
      found (list s.bank) i
      ∙ ap (λ (n : ℕ). showing n (get_elem? (list s.bank) i)) (sym (bank_passes s.bank s.sturdy 0))
      ∙ ap (λ (d : TimingBank). showing (bank_then standard d 0) (get_elem? (list d) i)) e

-- ---- a start
module _ (w : ℕ) (s : Bool) (r : SoundBank) where
  pub begins : w ≤ widest → view r.bank ≡ Steps.fresh_bank w s → Started standard w s (Ok tt) r.bank
  begins h k =
      let e : leb w widest ≡ true = le-leb w widest h in
      record {
        says = sym (ap (λ (b : Bool). unless (cond b 0 3) done) e);
        state = k ∙ sym (ap (λ (b : Bool). cond b (Steps.fresh_bank w s) (Steps.fresh_bank 1 false)) e);
        still = sturdy_sound r.bank r.sturdy;
      }

  pub begins_not : widest < w → view r.bank ≡ Steps.fresh_bank 1 false → Started standard w s (Err TooWide) r.bank
  begins_not h k =
      let e : leb w widest ≡ false = lt-leb w widest h in
      record {
        says = sym (ap (λ (b : Bool). unless (cond b 0 3) done) e);
        state = k ∙ sym (ap (λ (b : Bool). cond b (Steps.fresh_bank w s) (Steps.fresh_bank 1 false)) e);
        still = sturdy_sound r.bank r.sturdy;
      }

-- ---- calls that leave a bank: s is the bank b, which was handed in
module _ (b : TimingBank) (s : SoundBank) (e : s.bank ≡ b) (k : Countable s.bank) where
  answers : (n : ℕ) (m : Model.Told) (r : Changed) → n ≡ 0 → told r ≡ m → Answers standard n b m (Ok r.gone) r.bank.bank
  answers n m r z t = record {
    says = accepts n done z;
    kept = λ h. absurd (h z);
    state = λ h. t;
    still = λ h. sturdy_sound r.bank.bank r.bank.sturdy;
  }

  sturdy : Sturdy b
  sturdy = subst Sturdy e s.sturdy

  countable : Countable b
  countable = subst Countable e k

  pub cleared : (r : Changed) → told r ≡ Steps.clear (view s.bank) →
      Answers standard (clear_refusal standard b) b (Steps.clear (view b)) (Ok r.gone) r.bank.bank
  cleared r t =
      answers _ _ r (bank_passes b sturdy _ ∙ count_passes b countable 0) (t
      ∙ ap (λ (x : TimingBank). Steps.clear (view x)) e)
