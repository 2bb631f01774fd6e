-- What holds of every sound bank. Assumes nothing.
use Rattle.std.proofs.Common.{◌&&◌, T, take}
use lib.Ieee.Bits.{is_true}
use Rattle.ranges.specs.Settings.{standard}
use Rattle.ranges.specs.Interval.{In}
use Rattle.marks.specs.Lists.{all}
use Rattle.marks.proofs.Bounds.{both}
use Rattle.tracker.specs.Sound as Tracking
use Rattle.tracker.proofs.Stored.{ready_dit_in}
use Rattle.rival.specs.declared.TimingHypothesis.{TimingHypothesis}
use Rattle.rival.specs.Sound.{logs_same, scores_sound, hyp_sound}
use Rattle.bank.specs.declared.TimingBank.{TimingBank}
use Rattle.std.specs.List.{AllByRecursion}
use Rattle.bank_model.specs.Departures.{widest}
use Rattle.bank.specs.Sound.{counted, width_sound, rest_sound, sound}
use Rattle.bank.proofs.Sounding.{all_facts}

-- a challenger's dit lies in 20 to 150
abbrev pub DitIn : TimingHypothesis → Type 0
DitIn h = In standard.dit_min standard.dit_max h.tracker.pair.lo

dit_in : (h : TimingHypothesis) → T (hyp_sound standard h) → DitIn h
dit_in h t =
    let a = both (Tracking.sound standard h.tracker) (h.tracker.pair.ready && (logs_same h && scores_sound h)) t in
    let b = both h.tracker.pair.ready (logs_same h && scores_sound h) a.1 in
    ready_dit_in h.tracker a.0 (is_true h.tracker.pair.ready b.0)

-- every challenger of a sound bank is ready, with its dit in 20 to 150
pub crew_dits : (b : TimingBank) → T (sound standard widest b) →
    AllByRecursion DitIn (take b.challengers_len b.challengers)
unfolding sound
crew_dits b t =
    let crew = take b.challengers_len b.challengers in
    let x = both (counted widest b) (width_sound widest b && (all (hyp_sound standard) crew && rest_sound b)) t in
    let y = both (width_sound widest b) (all (hyp_sound standard) crew && rest_sound b) x.1 in
    let z = both (all (hyp_sound standard) crew) (rest_sound b) y.1 in
    all_facts (hyp_sound standard) DitIn dit_in crew z.0
