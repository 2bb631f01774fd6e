-- What a sound station shows. Assumes nothing.
use mathlib.Core.Path.{◌≡◌, refl, sym, ◌∙◌}
use mathlib.Core.Bool.{Bool, true, false}
use mathlib.Core.List.{List, map}
use Prim.Native.Nat.{ℕ}
use native.Mathlib.Omega.{arith}
use lib.ListN.{length, take}
use lib.Ieee.{Float}
use Rattle.ranges.specs.Settings.{standard}
use Rattle.ranges.specs.Limits.{nought}
use Rattle.std.specs.Int.{from_bool}
use Rattle.std.specs.Option.{unwrap_or}
use Rattle.std.specs.Prelude.{Option as Given, Some, None, is_some}
use Rattle.pair.specs.Model.{held}
use Rattle.tracker.specs.Model as Tracked
use Rattle.tracker.specs.Steps.{dit_estimate}
use Rattle.rival.specs.View.{view_hyp}
use Rattle.station.specs.declared.Station.{Station}
use Rattle.station.specs.View.{view}
use Rattle.station.specs.Parts.{Solid}
use Rattle.plain_tracker.specs.Plain.{as_number, carried, zeros}
use Rattle.plain_sender.specs.Plain.{has, or_nought}
use Rattle.plain.specs.declared.PlainRecord.{PlainRecord}
use Rattle.plain.specs.Plain.{plain_record, blank_record}
use Rattle.hullathan.specs.declared.PlainRival.{PlainRival}
use Rattle.hullathan.specs.Host.{no_rival, padded, reading_of, rival_of}
use Rattle.std.proofs.lemmas.List.{length-map, length-take-le}
use Rattle.hullathan.proofs.Rows.{array_padded}

-- a flag's byte
pub byte : (b : Bool) → from_bool b ≡ as_number b
byte true = refl
byte false = refl

has_held : (x : Given Float) → as_number (is_some x) ≡ has (held x)
has_held None = refl
has_held (Some x) = refl

held_or : (x : Given Float) → unwrap_or x nought ≡ or_nought (held x)
held_or None = refl
held_or (Some x) = refl

pub reading_is : (s : Station) (ready wpm switching : ℕ) (estimate speed : Float) (rivals : List PlainRival) (log : List PlainRecord) → Solid s → ready ≡ as_number s.primary.pair.ready → wpm ≡ as_number (is_some s.primary.wpm_ema)
    → switching ≡ as_number s.bank.switching → estimate ≡ dit_estimate standard (Tracked.view s.primary) → speed ≡ unwrap_or s.primary.wpm_ema nought → rivals ≡ padded no_rival 8 (map rival_of (view s).bank.challengers)
    → log ≡ carried plain_record blank_record s.bank.log_len s.bank.log
    → record {
      code = 0;
      ready = ready;
      has_wpm = wpm;
      switching = switching;
      pad_switching = zeros 4;
      width = s.bank.width;
      dit_ms = s.primary.pair.lo;
      dah_ms = s.primary.pair.hi;
      dit_estimate_ms = estimate;
      wpm = speed;
      score = s.bank.primary_score;
      gap_score = s.bank.primary_gap_score;
      serial = s.serial;
      accepted = s.accepted;
      marks = s.bank.marks_seen;
      gaps = s.bank.gaps_seen;
      started = s.bank.started;
      twins = s.counts.twins;
      outscored = s.counts.outscored;
      aged = s.counts.aged;
      replaced = s.counts.replaced;
      cleared = s.counts.cleared;
      challengers = s.bank.challengers_len;
      rivals = rivals;
      log_len = s.bank.log_len;
      log = log;
    } ≡ reading_of (view s)
reading_is s ready wpm switching estimate speed rivals log h a b c d e f g =
    let few = h.bank.crew.few in
    let wide = h.bank.crew.long in
    let n = s.bank.challengers_len in
    let many : n ≡ length (map view_hyp (take n s.bank.challengers)) = sym (length-map (take n s.bank.challengers) view_hyp ∙ length-take-le n s.bank.challengers (omega arith)) in
    let few-logged = h.bank.log.few in
    let log-long = h.bank.log.long in
    let m = s.bank.log_len in
    let logged : m ≡ length (take m s.bank.log) = sym (length-take-le m s.bank.log (omega arith)) in
    λ i. record {
      code = 0;
      ready = a i;
      has_wpm = (b ∙ has_held s.primary.wpm_ema) i;
      switching = c i;
      pad_switching = zeros 4;
      width = s.bank.width;
      dit_ms = s.primary.pair.lo;
      dah_ms = s.primary.pair.hi;
      dit_estimate_ms = d i;
      wpm = (e ∙ held_or s.primary.wpm_ema) i;
      score = s.bank.primary_score;
      gap_score = s.bank.primary_gap_score;
      serial = s.serial;
      accepted = s.accepted;
      marks = s.bank.marks_seen;
      gaps = s.bank.gaps_seen;
      started = s.bank.started;
      twins = s.counts.twins;
      outscored = s.counts.outscored;
      aged = s.counts.aged;
      replaced = s.counts.replaced;
      cleared = s.counts.cleared;
      challengers = many i;
      rivals = f i;
      log_len = logged i;
      log = (g ∙ array_padded plain_record blank_record s.bank.log m 16 log-long) i;
    }
