-- What makes a bank sound (document 01, refusal 1). Definitions only.
use Rattle.std.specs.Prelude.{ℕ, Bool, true, ◌&&◌, Option, Some, None, take, nat_le, nat_lt, Float}
use Rattle.ranges.specs.Settings.{Settings}
use Rattle.marks.specs.Lists.{all, duration, all_durations}
use Rattle.bank_model.specs.declared.SwitchRecord.{SwitchRecord}
use Rattle.rival.specs.Sound.{score, hyp_sound}
use Rattle.bank.specs.declared.TimingBank.{TimingBank}

-- "a held duration that 5 to 7 would refuse": the dits of a switch record
abbrev pub record_sound : SwitchRecord → Bool
record_sound r = duration r.from_dit_ms && duration r.to_dit_ms

-- "a count above its capacity": challengers up to the widest bank n, streak 4, streak gaps 4, log 16
abbrev pub counted : ℕ → TimingBank → Bool
counted n b =
    nat_le b.challengers_len n && (nat_le b.streak_len 4 && (nat_le b.streak_gaps_len 4 && nat_le b.log_len 16))

-- "width 0 or above 8; challengers not below the width"
abbrev pub width_sound : ℕ → TimingBank → Bool
width_sound n b = nat_le 1 b.width && (nat_le b.width n && nat_lt b.challengers_len b.width)

-- what is there passes the test p
abbrev pub or_absent : {A : Type 0} → (A → Bool) → Option A → Bool
or_absent p None = true
or_absent p (Some x) = p x

-- "a pending index not below the challenger count"
abbrev pub pending_sound : TimingBank → Bool
pending_sound b = or_absent (λ (i : ℕ). nat_lt i b.challengers_len) b.pending

-- a held gap, where there is one
abbrev pub gap_sound : Option Float → Bool
gap_sound gap = or_absent duration gap

-- "more streak gaps than streak marks", and held durations
abbrev pub streak_sound : TimingBank → Bool
streak_sound b =
    nat_le b.streak_gaps_len b.streak_len
    && (all_durations (take b.streak_len b.streak)
    && (all_durations (take b.streak_gaps_len b.streak_gaps) && gap_sound b.last_gap))

abbrev pub primary_sound : TimingBank → Bool
primary_sound b = score b.primary_score && score b.primary_gap_score

-- the choice, the streak, the primary's scores and the log
abbrev pub rest_sound : TimingBank → Bool
rest_sound b = pending_sound b && (streak_sound b && (primary_sound b && all record_sound (take b.log_len b.log)))

-- refusal 1 says of a bank that this is false; n is the widest bank
unfoldable pub sound : Settings → ℕ → TimingBank → Bool
sound k n b =
    counted n b && (width_sound n b && (all (hyp_sound k) (take b.challengers_len b.challengers) && rest_sound b))
