-- What is left beside the state of a tracker in its plain form. Definitions only.
use Rattle.std.specs.Prelude.{◌≡◌, cond, eqb, List, ◌++◌, ℕ, take, drop}
use Rattle.plain_tracker.specs.declared.PlainTracker.{PlainTracker}

-- the first n, and behind them what is left there
abbrev behind : {A : Type 0} → ℕ → List A → List A → List A
behind n now left = take n now ++ drop n left

-- the state of a tracker, and beside it what is left of another
abbrev pub kept : PlainTracker → PlainTracker → PlainTracker
kept left now = record now {
  pair = record now.pair { init = behind now.pair.init_len now.pair.init left.pair.init };
  ring = behind now.ring_len now.ring left.ring;
  wpm_ema = cond (eqb now.has_wpm 0) left.wpm_ema now.wpm_ema;
  recent = behind now.recent_len now.recent left.recent;
  mu_egap_ms = cond (eqb now.has_egap 0) left.mu_egap_ms now.mu_egap_ms;
  ratio_hint = cond (eqb now.has_hint 0) left.ratio_hint now.ratio_hint;
}

-- whatever is left, the state is the call's
pub record Keeps (now after : PlainTracker) : Type 0 where
  pub left : PlainTracker
  pub is : after ≡ kept left now
