-- What a switch call hands back. Definitions only.
use Rattle.std.specs.Prelude as Held
use Rattle.std.specs.Prelude.{◌≡◌, ℕ, Bool, true, cond, T, List, None, Some, is_some}
use Rattle.std.proofs.Math.Option.{Option, none, some}
use Rattle.std.proofs.Math.ListN.{get_elem?}
use Rattle.tracker.specs.declared.SpeedTracker.{SpeedTracker}
use Rattle.tracker.specs.Model.{Tracker}
use Rattle.tracker.specs.Model as Tracked
use Rattle.tracker.specs.Parts.{unflagged}
use Rattle.bank_model.specs.Model.{Hyp, Bank}
use Rattle.rival.specs.declared.TimingHypothesis.{TimingHypothesis}
use Rattle.bank_model.specs.Steps.{untaken, unpended}
use Rattle.bank_model.specs.Steps as Steps
use Rattle.bank.specs.declared.TimingBank.{TimingBank}
use Rattle.bank.specs.declared.inner.switch.Taken.{Taken}
use Rattle.bank.specs.View.{view}

-- "At a switch: a choice pending and the primary unready" is no sound state
abbrev pub Chosen : TimingBank → SpeedTracker → Type 0
Chosen b p = is_some b.pending ≡ true → p.pair.ready ≡ true

abbrev pub view_taken : Taken → Steps.Taken
view_taken r =
    record {
      bank = view r.bank.bank;
      primary = Tracked.view r.primary.tracker;
      serial = r.serial;
      switched = r.switched;
    }

-- the tracker of a challenger that takes the primary's place, where there is one
abbrev pub moved_in : SpeedTracker → Option TimingHypothesis → SpeedTracker
moved_in p none = p
moved_in p (some h) = unflagged h.tracker

-- the one at the pending place of a list, where there are both
abbrev pub chosen_of : List TimingHypothesis → Held.Option ℕ → Option TimingHypothesis
chosen_of l None = none
chosen_of l (Some i) = get_elem? l i

-- the primary after a switch call on b and p, each field and place of it: p itself, or, exchanged, the tracker of the
-- challenger at the pending place, its flag of a recovery cleared
abbrev pub primary_after : TimingBank → SpeedTracker → Bool → SpeedTracker
primary_after b p switched = cond switched (moved_in p (chosen_of b.challengers b.pending)) p

-- as m says; b and p were handed in
pub record Took (b : TimingBank) (p : SpeedTracker) (r : Taken) (m : Steps.Taken) : Type 0 where
  pub is : view_taken r ≡ m
  pub held : r.primary.tracker ≡ primary_after b p r.switched

-- what a step makes of the challenger at a place, where there is one
abbrev pub taking : (Bank → Tracker → ℕ → ℕ → Hyp → Steps.Taken) → Bank → Tracker → ℕ → ℕ → Option Hyp → Steps.Taken
taking f b p serial i none = untaken (unpended b b.challengers b.log) p serial
taking f b p serial i (some c) = f b p serial i c

abbrev pub noting : (Bank → Tracker → ℕ → Hyp → Bank) → Bank → Tracker → ℕ → Option Hyp → Bank
noting f b p i none = unpended b b.challengers b.log
noting f b p i (some c) = f b p i c
