-- Whether a pair has another reading, by what the code computed. Assumes nothing.
use mathlib.Core.Path.{◌≡◌, ap, sym, ◌∙◌}
use mathlib.Core.Bool.{Bool, true, false, not, ◌&&◌}
use mathlib.Core.List.{List}
use lib.Dec.{T}
use lib.Ieee.{Float}
use lib.Ieee.Bits.{is_true}
use Rattle.ranges.specs.Settings.{Settings, standard}
use Rattle.ranges.specs.Interval.{In}
use Rattle.ranges.proofs.Compare.{passed}
use Rattle.pair.specs.Model.{Pair}
use Rattle.marks.specs.Band.{band, agree}
use Rattle.pair.specs.Readings.{unsure, gaps_say_dahs, has_other}
use Rattle.pair.specs.Sound.{pair_sound}
use Rattle.marks.proofs.Bounds.{both}
use Rattle.pair.proofs.Soundness.{ready_in}

-- an unsure lock is a ready one
pub unsure_in : (p : Pair) → T (pair_sound standard p) → unsure standard p ≡ true
    → In standard.dit_min standard.dit_max p.lo
unsure_in p s e =
    let a = both (p.ready && (not p.confirmed && not p.placeholder_is_lo)) _ (passed e) in
    let b = both p.ready (not p.confirmed && not p.placeholder_is_lo) a.0 in
    (ready_in standard p (is_true p.ready b.0) s).0

pub kept_says : (k : Settings) (p : Pair) (gaps l : List Float) (v : Bool) → unsure k p ≡ true → l ≡ band k p.lo gaps
    → v ≡ agree l → v ≡ gaps_say_dahs k p gaps
kept_says k p gaps l v e b a = a ∙ ap agree b ∙ sym (ap (λ (u : Bool). u && agree (band k p.lo gaps)) e)

pub sure_says : (k : Settings) (p : Pair) (gaps : List Float) → unsure k p ≡ false → false ≡ gaps_say_dahs k p gaps
sure_says k p gaps e = sym (ap (λ (u : Bool). u && agree (band k p.lo gaps)) e)

pub other_ready : (p : Pair) → has_other standard p ≡ true → p.ready ≡ true
other_ready p e = is_true p.ready (both p.ready (not p.confirmed) (both (p.ready && not p.confirmed) _ (passed e)).0).0
