-- A station changed in place is what the definitions say. Assumes nothing.
use mathlib.Core.Path.{◌≡◌, refl, ap, sym, ◌∙◌, subst}
use mathlib.Core.Bool.{Bool, true, false, cond}
use mathlib.Core.List.{[]}
use mathlib.Core.Option.{none}
use Prim.Native.Nat.{ℕ, ◌+◌}
use lib.Dec.{T}
use lib.Ieee.{Float}
use Rattle.ranges.specs.Settings.{Settings, standard}
use Rattle.tracker.specs.declared.SpeedTracker.{SpeedTracker}
use Rattle.tracker.specs.Model.{Tracker}
use Rattle.tracker.specs.Model as Tracked
use Rattle.tracker.specs.Sound.{sound}
use Rattle.bank_model.specs.Model.{Bank, stay}
use Rattle.tracker.specs.Steps.{element_gap}
use Rattle.tracker.specs.Steps as Tracking
use Rattle.bank_model.specs.Steps.{Taken, on, on_gap, on_mark, untaken, taken_of, take_switch}
use Rattle.bank.specs.declared.TimingBank.{TimingBank}
use Rattle.bank.specs.View as Banked
use Rattle.bank.specs.Sturdy.{Sturdy}
use Rattle.station_model.specs.declared.Code.{Code}
use Rattle.station_model.specs.declared.Code.TheVariants.{Done}
use Rattle.station_model.specs.declared.Counts.{Counts}
use Rattle.station_model.specs.Station.{Act, ready, act, gap_act, learnt_act, live_act, accepted, refusal}
use Rattle.station_model.specs.Station as Model
use Rattle.station_model.proofs.Lists.{by_cond}
use Rattle.station.specs.declared.Station.{Station}
use Rattle.station.specs.declared.Outcome.{Outcome}
use Rattle.station.specs.View.{view}
use Rattle.station.specs.Parts.{Stands, NoOneLeft}
use Rattle.station.specs.After.{Holds}
use Rattle.station.proofs.Tallying.{tallied_none}

-- ---- one call that none leaves at
module _ (s : Station) (p : SpeedTracker) (n : ℕ) (b : TimingBank) (c : Code) where
  abbrev held : Counts → Model.Station
  held l = record {
    primary = Tracked.view p;
    serial = n;
    bank = Banked.view b;
    counts = l;
    accepted = (view s).accepted + 1;
  }

  pub holds : (a : Act) → T (sound standard p) → Sturdy b
      → record { primary = Tracked.view p; serial = n; told = stay (Banked.view b); code = c } ≡ a
      → Holds (record { primary = p; serial = n; bank = b; counts = s.counts; accepted = s.accepted + 1 })
      (accepted (view s) a).station
  holds a f k e = record {
    is = sym (ap held (tallied_none s.counts)) ∙ ap (λ (x : Act). (accepted (view s) x).station) e;
    primary = f;
    bank = k;
  }

-- a gap, by whether the primary is ready
module _ (k : Settings) (m : Model.Station) (d : Float) where
  abbrev by_gap : Bool → Act
  by_gap h = cond h (act m (element_gap k m.primary d) (stay (on_gap k m.bank m.primary d)) Done) (act m m.primary (stay m.bank) Done)

  pub gap_is : (q : Tracker) (b : Bank) → ready m.primary ≡ true → q ≡ element_gap k m.primary d → b ≡ on_gap k m.bank m.primary d
      → act m q (stay b) Done ≡ gap_act k m d
  gap_is q b r e f = (λ i. act m (e i) (stay (f i)) Done) ∙ sym (ap by_gap r)

  pub gap_not : ready m.primary ≡ false → act m m.primary (stay m.bank) Done ≡ gap_act k m d
  gap_not r = sym (ap by_gap r)

-- a live mark, by whether the primary was ready; it learnt the mark, and is q
module _ (k : Settings) (m : Model.Station) (d : Float) where
  abbrev live_by : Bool → Tracker → Act
  live_by h p = cond h (act m p (on_mark k m.bank p d true) Done) (learnt_act k m p)

  pub live_by_law : (q : Tracker) → q ≡ Tracking.on_mark k m.primary d → (h : Bool) → ready m.primary ≡ h
      → live_by h q ≡ live_act k m d
  live_by_law q e h r = ap (live_by h) e ∙ sym (ap (λ (x : Bool). live_by x (Tracking.on_mark k m.primary d)) r)

-- a switch where nothing is pending
pub idle : (b : Bank) (p : Tracker) (n : ℕ) → b.pending ≡ none → untaken b p n ≡ take_switch b p n
unfolding take_switch
idle b p n e = by_cond (λ (t : Taken). untaken b p n ≡ t) (on b) (λ x. sym (ap (taken_of b p n) e)) (λ x. refl)

-- the answer of a call that none leaves at
pub none_leave : (t : Station) (r : Outcome) (m : Model.Station) (a : Act) (c : Code) → NoOneLeft t c r
    → Holds t (accepted m a).station → c ≡ a.code → a.told.left ≡ [] → Stands r (accepted m a)
none_leave t r m a c d h e f = record {
  is = λ i. record {
    station = (ap view d.station ∙ h.is) i;
    answer = record { code = (d.code ∙ e) i; departures = (d.none ∙ sym f) i };
  };
  primary = subst (λ (x : Station). T (sound standard x.primary)) (sym d.station) h.primary;
  bank = subst (λ (x : Station). Sturdy x.bank) (sym d.station) h.bank;
}

-- a gap is such a call, and done
pub gap_quiet : (k : Settings) (m : Model.Station) (d : Float) → (Done ≡ (gap_act k m d).code) × ((gap_act k m d).told.left ≡ [])
gap_quiet k m d = by_cond (λ (a : Act). (Done ≡ a.code) × (a.told.left ≡ [])) (ready m.primary) (λ x. (refl, refl)) (λ x. (refl, refl))
