-- What a challenger's struct means. Definitions only.
use Rattle.tracker.specs.Model as Tracked
use Rattle.bank_model.specs.Model.{Hyp}
use Rattle.rival.specs.declared.TimingHypothesis.{TimingHypothesis}

-- its logarithms are no part of it: in a sound bank they are those of its tracker
abbrev pub view_hyp : TimingHypothesis → Hyp
view_hyp h = record {
  tracker = Tracked.view h.tracker;
  score = h.score;
  gap_score = h.gap_score;
  lead = h.lead_marks;
  age = h.age_marks;
  origin = h.origin;
  reported = h.reported;
  serial = h.serial;
}
