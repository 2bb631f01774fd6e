-- What makes a station sound (document 01, refusal 1). Definitions only.
use Rattle.std.specs.Prelude.{Bool, true, not, ◌&&◌, List, [], ◌∷◌, map, ℕ, ◌+◌, leb, eqb, take, is_some}
use Rattle.ranges.specs.Settings.{Settings}
use Rattle.marks.specs.Lists.{all}
use Rattle.tracker.specs.Sound as Tracking
use Rattle.rival.specs.declared.TimingHypothesis.{TimingHypothesis}
use Rattle.bank.specs.Sound as Banking
use Rattle.bank_model.specs.Departures.{widest}
use Rattle.station_model.specs.declared.Event.{Event}
use Rattle.station_model.specs.declared.Event.TheVariants.{Mark, Gap, Finish, Seed, Hint, Clear, Switch}
use Rattle.station_model.specs.declared.Counts.{Counts}
use Rattle.station.specs.declared.Station.{Station}

-- the serials that a station holds: the primary's, then the challengers' in bank order
abbrev pub serial_of : TimingHypothesis → ℕ
serial_of h = h.serial

abbrev pub serials : Station → List ℕ
serials s = s.serial ∷ map serial_of (take s.bank.challengers_len s.bank.challengers)

-- "a serial above started"
abbrev pub up_to : ℕ → ℕ → Bool
up_to most n = leb n most

-- ".. or held twice": no two of a list are the same
abbrev pub differs : ℕ → ℕ → Bool
differs n m = not (eqb n m)

abbrev pub distinct : List ℕ → Bool
distinct [] = true
distinct (n ∷ l) = all (differs n) l && distinct l

abbrev pub held_once : ℕ → List ℕ → Bool
held_once started l = all (up_to started) l && distinct l

-- "counts out of balance": started is what is held and what left
abbrev pub given_out : ℕ → Counts → ℕ
given_out held c = held + c.twins + c.outscored + c.aged + c.replaced + c.cleared

abbrev pub balanced : ℕ → ℕ → Counts → Bool
balanced started held c = eqb started (given_out held c)

-- "a serial above started or held twice, started above the accepted calls, counts out of balance"
abbrev pub own_sound : Station → Bool
own_sound s =
    held_once s.bank.started (serials s)
    && (leb s.bank.started s.accepted && balanced s.bank.started s.bank.challengers_len s.counts)

-- refusal 1 says of a station that this is false
unfoldable pub sound : Settings → Station → Bool
sound k s = Tracking.sound k s.primary && (Banking.sound k widest s.bank && own_sound s)

-- "At a switch: a choice pending and the primary .. unready"
abbrev pub choice_sound : Station → Event → Bool
choice_sound s (Mark d live) = true
choice_sound s (Gap d) = true
choice_sound s Finish = true
choice_sound s (Seed v) = true
choice_sound s (Hint r) = true
choice_sound s Clear = true
choice_sound s Switch = not (is_some s.bank.pending && not s.primary.pair.ready)
