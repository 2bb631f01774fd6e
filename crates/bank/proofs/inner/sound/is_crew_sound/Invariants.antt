use Rattle.std.proofs.Common.{take}
use Rattle.bank.proofs.Sounding.{Trying}
use Rattle.bank.proofs.inner.sound.is_crew_sound.Given as goal

abbrev pub invariant-loop-h : goal.invariant-loop-h
invariant-loop-h l = Trying (take l.b.challengers_len l.b.challengers) l.h-index
