-- What the calls of a station say, and which refusal a call meets (document 01, "Refusals in checking order"). Definitions only.
use Rattle.std.specs.Prelude.{◌≡◌, Bool, false, cond, ◌&&◌, List, map, ℕ, T, leb, Result, Ok, Err}
use Rattle.refusals.specs.declared.Refusal.{Refusal}
use Rattle.refusals.specs.declared.Refusal.TheVariants.{UnsoundState}
use Rattle.refusals.specs.Refusal.{refusal_of}
use Rattle.ranges.specs.Settings.{Settings}
use Rattle.bank_model.specs.Model.{Hyp}
use Rattle.bank_model.specs.Departures.{widest}
use Rattle.bank.specs.Answers.{width_refusal}
use Rattle.station_model.specs.declared.Event.{Event}
use Rattle.station_model.specs.Station.{number, taken, refusal, step}
use Rattle.station_model.specs.Station as Model
use Rattle.station_model.specs.Watch.{Call, Ran, RanFrom, Watch}
use Rattle.station.specs.declared.Station.{Station}
use Rattle.station.specs.declared.Outcome.{Outcome}
use Rattle.station.specs.declared.Rival.{Rival}
use Rattle.station.specs.View.{view, answered, outcome}
use Rattle.station.specs.Sound.{sound, choice_sound}

-- ---- refusals; 0 where there is none

-- 1, 2 and 5 to 8, in this order
abbrev pub call_refusal : Settings → Station → Event → ℕ
call_refusal k s e = cond (sound k s && choice_sound s e) (refusal (view s) e) 1

-- ---- a call that met the refusal n
-- "A refusal is the number, with the state handed back bit for bit", and none departs; else the outcome that the definitions give, of a sound station.
pub record Answers (k : Settings) (n : ℕ) (s : Station) (e : Event) (r : Outcome) : Type 0 where
  pub says : (n ≡ 0 → ⊥) → (taken r.answer.code ≡ false) × (number r.answer.code ≡ n)
  pub kept : (n ≡ 0 → ⊥) → (r.station ≡ s) × (r.answer.gone.left_len ≡ 0)
  pub state : n ≡ 0 → outcome r ≡ step k (view s) e
  pub still : n ≡ 0 → T (sound k r.station)

abbrev pub Called : Settings → Station → Event → Outcome → Type 0
Called k s e r = Answers k (call_refusal k s e) s e r

-- ---- demand 3, of the program

-- a call of the program, on the views
abbrev pub station_of : Outcome → Station
station_of r = r.station

abbrev pub viewed : Ran Station Outcome → Call
viewed c = record { event = c.event; answer = answered c.returned.answer; before = view c.before; after = view c.returned.station }

-- after every list of calls, each on the station that the one before handed back, the first on this one: demand 3, and the station is `sound`. (That no switch is refused
-- by 1 follows from clause 1: `defined` of `Watch`.)
pub record Watched (k : Settings) (width : ℕ) (switching : Bool) (first : Station) : Type 0 where
  pub holds : (calls : List (Ran Station Outcome)) (now : Station) → RanFrom station_of (Called k) first calls now → Watch k width switching (map viewed calls) (view now)
  pub stays : (calls : List (Ran Station Outcome)) (now : Station) → RanFrom station_of (Called k) first calls now → T (sound k now)

-- a start: a fresh station, or, refused by 3, one of width 1 that does not switch; and what it promises of every list of calls
pub record Begins (k : Settings) (width : ℕ) (switching : Bool) (told : Result Unit Refusal) (s : Station) : Type 0 where
  pub says : refusal_of told ≡ width_refusal width
  pub state : view s ≡ cond (leb width widest) (Model.fresh width switching) (Model.fresh 1 false)
  pub still : T (sound k s)
  pub watch : Watched k (cond (leb width widest) width 1) (cond (leb width widest) switching false) s

-- ---- calls that only read

-- refusal 1, or else a
abbrev pub reads : {A : Type 0} → Settings → Station → A → Result A Refusal
reads k s a = cond (sound k s) (Ok a) (Err UnsoundState)

-- what a host shows of a challenger
abbrev pub glimpse : Hyp → Rival
glimpse h = record { serial = h.serial; dit_ms = h.tracker.pair.lo; dah_ms = h.tracker.pair.hi; score = h.score }
