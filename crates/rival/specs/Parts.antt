-- What the parts of the code ask of a challenger. Definitions only.
use Rattle.std.specs.Prelude.{◌≡◌, Bool, true, false, T}
use Rattle.std.proofs.Math.Option.{Option, none, some}
use Rattle.ranges.specs.Settings.{standard}
use Rattle.ranges.specs.Limits.{nought, score_min}
use Rattle.ranges.specs.Interval.{In}
use Rattle.tracker.specs.Sound as Tracking
use Rattle.bank_model.specs.declared.logs.LogPair.{LogPair}
use Rattle.bank_model.specs.Scores.{ln_dit, ln_dah}
use Rattle.rival.specs.declared.TimingHypothesis.{TimingHypothesis}
use Rattle.rival.specs.View.{view_hyp}

-- the logarithms that it holds
abbrev pub logs_held : TimingHypothesis → LogPair
logs_held h = record { lo = h.ln_lo; hi = h.ln_hi }

-- it holds the logarithms of its tracker's centroids
pub record HoldsLogs (h : TimingHypothesis) : Type 0 where
  pub lo : h.ln_lo ≡ ln_dit (view_hyp h).tracker
  pub hi : h.ln_hi ≡ ln_dah (view_hyp h).tracker

-- a challenger: a sound tracker that is ready, its logarithms, scores from -30 to 0
pub record Fit (h : TimingHypothesis) : Type 0 where
  pub tracker : T (Tracking.sound standard h.tracker)
  pub ready : h.tracker.pair.ready ≡ true
  pub ln_lo : h.ln_lo ≡ ln_dit (view_hyp h).tracker
  pub ln_hi : h.ln_hi ≡ ln_dah (view_hyp h).tracker
  pub score : In score_min nought h.score
  pub score_gap : In score_min nought h.gap_score

-- there is none
abbrev pub is_none : {A : Type 0} → Option A → Bool
is_none none = true
is_none (some x) = false
