-- One station has one form. Assumes nothing.
use mathlib.Core.Path.{◌≡◌, ap, sym, ◌∙◌, subst}
use mathlib.Core.Bool.{◌&&◌}
use mathlib.Core.List.{List, [], ◌∷◌, map}
use Prim.Native.Nat.{ℕ}
use lib.Dec.{T}
use lib.ListN.{take, length-map}
use Rattle.ranges.specs.Settings.{standard}
use Rattle.ranges.proofs.Compare.{passed}
use Rattle.marks.specs.Lists.{all}
use Rattle.marks.proofs.Bounds.{both}
use Rattle.tracker.specs.Sound as Tracking
use Rattle.rival.specs.Sound.{hyp_sound}
use Rattle.bank.specs.declared.TimingBank.{TimingBank}
use Rattle.std.specs.List.{AllByRecursion}
use Rattle.bank_model.specs.Departures.{widest}
use Rattle.bank.specs.Sound as Banking
use Rattle.station.specs.Sound.{own_sound, sound}
use Rattle.station.specs.View.{view}
use Rattle.plain_tracker.specs.declared.PlainTracker.{PlainTracker}
use Rattle.plain_tracker.specs.Plain.{carried, entry_of, tracker_of}
use Rattle.plain_tracker.proofs.Carrying.{carried_long, take_carried}
use Rattle.plain.specs.declared.PlainHypothesis.{PlainHypothesis}
use Rattle.plain.specs.Plain.{hyp_of, no_hyp, record_of, no_record, bank_of}
use Rattle.plain_station.specs.declared.PlainStation.{PlainStation}
use Rattle.plain_station.specs.Plain.{plain_station, station_of}
use Rattle.plain_station.specs.Canonical.{TrackerInMemory, HypInMemory, InMemory, Formed, Canonical}
use Rattle.plain_station.proofs.Told.{Sized, Lawful, Whole, tracker_means, bank_means}

-- ---- what is read from memory has arrays of their lengths

sized : (p : PlainTracker) → TrackerInMemory p → Sized (tracker_of p)
sized p m = record { init = m.init; ring = length-map p.ring entry_of ∙ m.ring; recent = m.recent }

lawful : (l : List PlainHypothesis) → AllByRecursion HypInMemory l → T (all (hyp_sound standard) (map hyp_of l)) → AllByRecursion Lawful (map hyp_of l)
lawful [] a t = tt
lawful (h ∷ l) a t =
    let b = both (hyp_sound standard (hyp_of h)) (all (hyp_sound standard) (map hyp_of l)) t in
    let m = a.0 in
    (record { tracker = sized h.tracker m.tracker; ln_lo = m.ln_lo; ln_hi = m.ln_hi; good = b.0 }, lawful l a.1 b.1)

-- the challengers of a sound bank are
crew_sound : (b : TimingBank) → T (Banking.sound standard widest b) → T (all (hyp_sound standard) (take b.challengers_len b.challengers))
unfolding Banking.sound
crew_sound b t =
    let crew = take b.challengers_len b.challengers in
    let x = both (Banking.counted widest b) (Banking.width_sound widest b && (all (hyp_sound standard) crew && Banking.rest_sound b)) t in
    let y = both (Banking.width_sound widest b) (all (hyp_sound standard) crew && Banking.rest_sound b) x.1 in
    (both (all (hyp_sound standard) crew) (Banking.rest_sound b) y.1).0

module _ (p : PlainStation) (f : Formed p) where
  goods : T (Tracking.sound standard (station_of p).primary) × T (Banking.sound standard widest (station_of p).bank)
  unfolding sound
  goods =
      let s = station_of p in
      let x = both (Tracking.sound standard s.primary) (Banking.sound standard widest s.bank && own_sound s) (passed f.good) in
      (x.0, (both (Banking.sound standard widest s.bank) (own_sound s) x.1).0)

  whole : Whole (bank_of p.bank)
  whole =
      let n = p.bank.challengers_len in
      let l = p.bank.challengers in
      let m = f.memory in
      let e = take_carried hyp_of no_hyp l n in
      record {
        challengers = carried_long hyp_of no_hyp l n ∙ m.challengers;
        each = subst (AllByRecursion Lawful) (sym e) (lawful (take n l) m.each (subst (λ k. T (all (hyp_sound standard) k)) e (crew_sound (bank_of p.bank) goods.1)));
        streak = m.streak;
        gaps = m.gaps;
        log = carried_long record_of no_record p.bank.log p.bank.log_len ∙ m.log;
        good = goods.1;
      }

-- two forms that mean the same are the same, number for number
pub canonical : Canonical
canonical p q f g e =
    let t = tracker_means (tracker_of p.primary) (tracker_of q.primary) (sized p.primary f.memory.primary) (sized q.primary g.memory.primary) (goods p f).0 (goods q g).0 (ap (λ m. m.primary) e) in
    let b = bank_means (bank_of p.bank) (bank_of q.bank) (whole p f) (whole q g) (ap (λ m. m.bank) e) in
    let h : plain_station (station_of p) ≡ plain_station (station_of q) = λ i. record {
      primary = t i;
      serial = (e i).serial;
      bank = b i;
      twins = (e i).counts.twins;
      outscored = (e i).counts.outscored;
      aged = (e i).counts.aged;
      replaced = (e i).counts.replaced;
      cleared = (e i).counts.cleared;
      accepted = (e i).accepted;
    } in
    f.neat ∙ h ∙ sym g.neat
