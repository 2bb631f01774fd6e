-- What the test of a challenger says, and that a fit one passes it. Assumes nothing.
use mathlib.Core.Path.{◌≡◌, refl, ap, sym, ◌∙◌, subst}
use mathlib.Core.Bool.{Bool, true, false, not, ◌&&◌, ◌||◌, beq, false≢true}
use Prim.Native.Nat.{ℕ, zero, suc, ◌*◌, ◌^◌, ◌+◌}
use lib.Dec.{T, eqb, eqb→eq, ltb}
use lib.IntN.{ℤ, pos, negsuc}
use lib.Ieee.{Float, nan, inf, fin, Format, binary32, prec, emax, low, up, down, odd, units, round, fits, eq, is_nan}
use lib.Ieee.Fits.{round-fits, nan-fits, down_pos, round_is, eq→eqb}
use lib.Ieee.Positive.{positive}
use Rattle.numbers.specs.Log.{ln_of, scaled, fixed}
use Rattle.order.specs.Order.{larger, negative}
use Rattle.ranges.specs.Settings.{standard}
use Rattle.ranges.specs.Limits.{nought, score_min}
use Rattle.ranges.proofs.Compare.{passed, and_taken, and_left, in_within, within_in}
use Rattle.ranges.proofs.Own.{value_unique}
use Rattle.tracker.specs.Sound as Tracking
use Rattle.tracker.proofs.Keeping.{by_cond}
use Rattle.marks.proofs.Bounds.{both, join}
use Rattle.bank_model.specs.Constants.{milli}
use Rattle.bank_model.specs.Scores.{log_of, ln_dit, ln_dah}
use Rattle.bank_model.proofs.Ready.{dit_log, dah_log}
use Rattle.rival.specs.declared.TimingHypothesis.{TimingHypothesis}
use Rattle.rival.specs.View.{view_hyp}
use Rattle.rival.specs.Sound.{same, score, logs_same, scores_sound, hyp_sound}
use Rattle.rival.specs.Parts.{HoldsLogs, Fit}

-- ---- one value and one sign
beq_is : (s t : Bool) → T (beq s t) → s ≡ t
beq_is true true e = refl
beq_is true false e = absurd e
beq_is false true e = absurd e
beq_is false false e = refl

beq_self : (s : Bool) → T (beq s s)
beq_self true = tt
beq_self false = tt

left : (a b : Bool) → T a → T (a || b)
left true b t = tt
left false b t = absurd t

pub same_is : (x y : Float) → T (fits binary32 x) → T (fits binary32 y) → T (same x y) → x ≡ y
unfolding eq
same_is nan y p q e = absurd e
same_is (inf s) nan p q e = absurd e
same_is (inf s) (inf t) p q e = ap inf (beq_is s t (both (beq s t) (beq s t) e).0)
same_is (inf s) (fin t n d) p q e = absurd e
same_is (fin s m e) nan p q h = absurd h
same_is (fin s m e) (inf t) p q h = absurd h
same_is (fin s m e) (fin t n d) p q h =
    let a = m * up e * down d in
    let b = n * up d * down e in
    let k = both (eqb a b && (beq s t || eqb a 0)) (beq s t) h in
    let v = eqb→eq a b (both (eqb a b) (beq s t || eqb a 0) k.0).0 in
    value_unique binary32 (fin s m e) (fin t n d) s (m * up e) (down e) (down_pos e) p q (
      refl,
      refl,
    ) (sym (beq_is s t k.1), sym v)

-- above zero there is one sign
pub positive_is : (x y : Float) → T (fits binary32 x) → T (fits binary32 y) → T (positive x) → T (positive y) → eq x y
    ≡ true → x ≡ y
positive_is nan y p q a b e = absurd a
positive_is (inf s) y p q a b e = absurd a
positive_is (fin true m d) y p q a b e = absurd a
positive_is (fin false m d) nan p q a b e = absurd b
positive_is (fin false m d) (inf t) p q a b e = absurd b
positive_is (fin false m d) (fin true n c) p q a b e = absurd b
positive_is (fin false m d) (fin false n c) p q a b e =
    same_is (fin false m d) (fin false n c) p q (join (eq (fin false m d) (fin false n c)) true (passed e) tt)

pub same_self : (x : Float) → T (not (is_nan x)) → T (same x x)
unfolding eq is_nan
same_self nan p = absurd p
same_self (inf s) p = join (beq s s) (beq s s) (beq_self s) (beq_self s)
same_self (fin s m e) p =
    let a = m * up e * down e in
    join (eqb a a && (beq s s || eqb a 0)) (beq s s)
    (join (eqb a a) (beq s s || eqb a 0) (eq→eqb {a = a} {b = a} refl) (left (beq s s) (eqb a 0) (beq_self s)))
    (beq_self s)

pub agree : (a b : Float) (r s : Bool) → T (fits binary32 a) → T (fits binary32 b) → eq a b ≡ true → r ≡ negative a → s
    ≡ negative b → (beq r s ≡ same a b) × (beq r s ≡ true → a ≡ b)
agree a b r s f g e p q = let k : beq r s ≡ same a b = rw (e, p, q) in (k, λ t. same_is a b f g (passed (sym k ∙ t)))

pub differ : (a b : Float) → eq a b ≡ false → (false ≡ same a b) × (false ≡ true → a ≡ b)
differ a b e = (rw e, λ t. absurd (false≢true t))

-- ---- a logarithm fits, and is a number
abbrev Number : Float → Type 0
Number x = T (not (is_nan x))

odd_number : (d : ℕ) (s : Bool) (q k l : ℕ) → Number (odd d s q k l)
unfolding odd is_nan
odd_number d s zero k l = tt
odd_number d s (suc q) k l = tt

units_number : (f : Format) (s : Bool) (q k : ℕ) → Number (units f s q k)
unfolding units is_nan
units_number f s q k =
    by_cond Number (ltb (q * 2 ^ k) (2 ^ (low f + suc (emax f)))) (odd (suc (prec f)) s q k (low f)) (inf s)
    (λ e. odd_number (suc (prec f)) s q k (low f)) (λ e. tt)

round_number : (f : Format) (s : Bool) (a c : ℕ) → Number (round f s a c)
round_number f s a c = subst Number (sym (round_is f s a c)) (units_number f s _ _)

scaled_number : (z : ℤ) → Number (scaled z)
scaled_number (pos n) = round_number binary32 false _ _
scaled_number (negsuc n) = round_number binary32 true _ _

scaled_fits : (z : ℤ) → T (fits binary32 (scaled z))
scaled_fits (pos n) = round-fits binary32 false _ _
scaled_fits (negsuc n) = round-fits binary32 true _ _

pub ln_fits : (v : Float) → T (fits binary32 (ln_of v))
unfolding ln_of
ln_fits nan = nan-fits binary32
ln_fits (inf s) = nan-fits binary32
ln_fits (fin s zero e) = nan-fits binary32
ln_fits (fin true (suc m) e) = nan-fits binary32
ln_fits (fin false (suc m) e) = scaled_fits (fixed (suc m) e)

ln_number : (v : Float) → T (positive v) → Number (ln_of v)
unfolding ln_of
ln_number nan p = absurd p
ln_number (inf s) p = absurd p
ln_number (fin true zero e) p = absurd p
ln_number (fin false zero e) p = absurd p
ln_number (fin true (suc m) e) p = absurd p
ln_number (fin false (suc m) e) p = scaled_number (fixed (suc m) e)

log_fits : (v : Float) → T (fits binary32 (log_of v))
unfolding log_of
log_fits v = ln_fits (larger v milli)

log_number : (v : Float) → T (positive (larger v milli)) → Number (log_of v)
unfolding log_of
log_number v p = ln_number (larger v milli) p

-- ---- a challenger
module _ (h : TimingHypothesis) where
  abbrev sounds : Bool
  sounds = Tracking.sound standard h.tracker

  abbrev later : Bool
  later = h.tracker.pair.ready && (logs_same h && scores_sound h)

  abbrev Logs : Bool → Type 0
  Logs r = (r ≡ logs_same h) × (r ≡ true → HoldsLogs h)

  pub logs_agree : (lo hi : Float) (r s : Bool) → lo ≡ ln_dit (view_hyp h).tracker → hi ≡ ln_dah (view_hyp h).tracker →
      (r ≡ same h.ln_lo lo) × (r ≡ true → h.ln_lo ≡ lo) → r ≡ true → (s ≡ same h.ln_hi hi) × (s ≡ true → h.ln_hi ≡ hi) →
      Logs s
  logs_agree lo hi r s a b c d e =
      let m = (view_hyp h).tracker in (
        e.0 ∙ ap (same h.ln_hi) b
            ∙ and_taken (same h.ln_lo (ln_dit m)) (same h.ln_hi (ln_dah m)) (ap (same h.ln_lo) (sym a) ∙ sym c.0 ∙ d),
        λ t. record { lo = c.1 d ∙ a; hi = e.1 t ∙ b },
      )

  pub logs_differ : (lo : Float) (r : Bool) → lo ≡ ln_dit (view_hyp h).tracker → r ≡ same h.ln_lo lo → r ≡ false →
      Logs false
  logs_differ lo r a c d =
      let m = (view_hyp h).tracker in
      let e : same h.ln_lo (ln_dit m) ≡ false = ap (same h.ln_lo) (sym a) ∙ sym c ∙ d in
      (sym e ∙ and_left (same h.ln_lo (ln_dit m)) (same h.ln_hi (ln_dah m)) e, λ t. absurd (false≢true t))

  abbrev Tested : Bool → Type 0
  Tested r = (r ≡ hyp_sound standard h) × (r ≡ true → Fit h)

  -- the test, from what it found
  pub all_hold : (r s : Bool) → sounds ≡ true → h.tracker.pair.ready ≡ true → Logs r → r ≡ true → s ≡ scores_sound h →
      Tested s
  all_hold r s a b c d e =
      let k : logs_same h ≡ true = sym c.0 ∙ d in
      let l : scores_sound h ≡ hyp_sound standard h = rw (a, b, k) in (
        e ∙ l,
        λ t.
            let g = c.1 d in
            let i = both (score h.score) (score h.gap_score) (passed (sym e ∙ t)) in
            record {
              tracker = passed a;
              ready = b;
              ln_lo = g.lo;
              ln_hi = g.hi;
              score = within_in score_min nought h.score i.0;
              score_gap = within_in score_min nought h.gap_score i.1;
            },
      )

  pub unsound : sounds ≡ false → Tested false
  unsound a = (rw a, λ t. absurd (false≢true t))

  pub unready : sounds ≡ true → h.tracker.pair.ready ≡ false → Tested false
  unready a b = (rw (a, b), λ t. absurd (false≢true t))

  pub other_logs : (r : Bool) → sounds ≡ true → h.tracker.pair.ready ≡ true → Logs r → r ≡ false → Tested false
  other_logs r a b c d = let k : logs_same h ≡ false = sym c.0 ∙ d in (rw (a, b, k), λ t. absurd (false≢true t))

  -- one that is fit passes
  pub fit_sound : Fit h → T (hyp_sound standard h)
  fit_sound f =
      let m = (view_hyp h).tracker in
      let lo : T (same h.ln_lo (ln_dit m)) =
      subst (λ (x : Float). T (same x (ln_dit m))) (sym f.ln_lo)
      (same_self (ln_dit m) (log_number m.pair.lo (dit_log h.tracker f.tracker f.ready))) in
      let hi : T (same h.ln_hi (ln_dah m)) =
      subst (λ (x : Float). T (same x (ln_dah m))) (sym f.ln_hi)
      (same_self (ln_dah m) (log_number m.pair.hi (dah_log h.tracker f.tracker f.ready))) in
      join sounds later f.tracker
      (join h.tracker.pair.ready (logs_same h && scores_sound h) (passed f.ready)
      (join (logs_same h) (scores_sound h) (join (same h.ln_lo (ln_dit m)) (same h.ln_hi (ln_dah m)) lo hi)
      (join (score h.score) (score h.gap_score) (in_within score_min nought h.score f.score)
      (in_within score_min nought h.gap_score f.score_gap))))
