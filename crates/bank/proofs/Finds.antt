-- One step of each search among the challengers. Assumes nothing.
use Rattle.std.proofs.Common.{
  ◌≡◌,
  ℕ,
  suc,
  Bool,
  cond,
  ◌||◌,
  List,
  [],
  ◌∷◌,
  map,
  refl,
  sym,
  ap,
  ◌∙◌,
}
use lib.Ieee.{Float}
use Rattle.std.specs.List.{AllByRecursion, list_any}
use Rattle.order.specs.Order.{larger}
use Rattle.ranges.specs.Settings.{Settings}
use Rattle.tracker.specs.Steps.{dit_estimate}
use Rattle.bank_model.specs.Model.{Hyp}
use Rattle.bank_model.specs.Scores.{ln_dit, ln_dah, twins}
use Rattle.bank_model.specs.Steps.{Best, lesser, least_from, any_twin, greatest_unit}
use Rattle.rival.specs.declared.TimingHypothesis.{TimingHypothesis}
use Rattle.rival.specs.View.{view_hyp}
use Rattle.rival.specs.Parts.{Fit}

pub least_step : (q : Hyp → Bool) (i : ℕ) (h : Hyp) (acc acc' : Best) (r : List Hyp) → acc'
    ≡ cond (q h) (lesser i h.score acc) acc → least_from q i acc (h ∷ r) ≡ least_from q (suc i) acc' r
unfolding least_from
least_step q i h acc acc' r e = ap (λ (z : Best). least_from q (suc i) z r) (sym e)

abbrev pub unit_fold : Settings → ℕ → Float → List Hyp → Float
unit_fold k i u l = greatest_unit k u l

pub unit_step : (k : Settings) (i : ℕ) (h : Hyp) (acc acc' u : Float) (r : List Hyp) → u ≡ dit_estimate k h.tracker →
    acc' ≡ larger acc u → unit_fold k i acc (h ∷ r) ≡ unit_fold k (suc i) acc' r
unfolding greatest_unit
unit_step k i h acc acc' u r e f = ap (λ (z : Float). greatest_unit k z r) (sym (f ∙ ap (larger acc) e))

-- a twin among those that are fit, by the logarithms that they hold
module _ (lo hi : Float) where
  twin_held : (h : TimingHypothesis) → Fit h → twins lo hi h.ln_lo h.ln_hi
      ≡ twins lo hi (ln_dit (view_hyp h).tracker) (ln_dah (view_hyp h).tracker)
  twin_held h f = ap (λ (z : Float). twins lo hi z h.ln_hi) f.ln_lo
      ∙ ap (twins lo hi (ln_dit (view_hyp h).tracker)) f.ln_hi

  pub twin_any : (l : List TimingHypothesis) → AllByRecursion Fit l →
      list_any (λ (h : TimingHypothesis). twins lo hi h.ln_lo h.ln_hi) l ≡ any_twin lo hi (map view_hyp l)
  unfolding any_twin
  twin_any [] a = refl
  twin_any (h ∷ l) a =
      let r = list_any (λ (h : TimingHypothesis). twins lo hi h.ln_lo h.ln_hi) l in
      ap (λ (z : Bool). z || r) (twin_held h a.0)
      ∙ ap (λ (z : Bool). twins lo hi (ln_dit (view_hyp h).tracker) (ln_dah (view_hyp h).tracker) || z)
      (twin_any l a.1)
