-- The sizes are those of the structs as they lie in memory: no byte lies between two fields, or behind the last. Assumes nothing.
use mathlib.Core.Path.{◌≡◌, refl}
use Prim.Native.Nat.{ℕ}
use borrow.Author.Tests.{ne_eqb}
use prog.Memory.{size}
use Rattle.sender.proofs.SenderTiming.TheLaws as N
use Rattle.plain_sender.proofs.SenderReading.TheLaws as Q
use Rattle.plain_station.proofs.PlainStation.TheLaws as S
use Rattle.plain.proofs.PlainBank.TheLaws as K
use Rattle.plain_tracker.proofs.PlainTracker.TheLaws as T
use Rattle.hullathan.proofs.PlainAnswer.TheLaws as A
use Rattle.hullathan.proofs.PlainEvent.TheLaws as E
use Rattle.hullathan.proofs.PlainBatch.TheLaws as B
use Rattle.hullathan.proofs.PlainReading.TheLaws as R
use Rattle.hullathan.specs.Version.{size_of}

pub station_long : size S.mir ≡ size_of 0
station_long = refl

pub answer_long : size A.mir ≡ size_of 1
answer_long = refl

pub event_long : size E.mir ≡ size_of 2
event_long = refl

pub batch_long : size B.mir ≡ size_of 3
batch_long = refl

pub reading_long : size R.mir ≡ size_of 4
reading_long = refl

pub bank_long : size K.mir ≡ size_of 5
bank_long = refl

pub tracker_long : size T.mir ≡ size_of 6
tracker_long = refl

pub sender_long : size N.mir ≡ size_of 7
sender_long = refl

pub sender_reading_long : size Q.mir ≡ size_of 8
sender_reading_long = refl

-- a number above 8 is no struct's
pub no_size : (n : ℕ) → (n ≡ 0 → ⊥) → (n ≡ 1 → ⊥) → (n ≡ 2 → ⊥) → (n ≡ 3 → ⊥) → (n ≡ 4 → ⊥)
    → (n ≡ 5 → ⊥) → (n ≡ 6 → ⊥) → (n ≡ 7 → ⊥) → (n ≡ 8 → ⊥) → size_of n ≡ 0
no_size n a b c d e f g h i =
    rw (
      ne_eqb n 0 a,
      ne_eqb n 1 b,
      ne_eqb n 2 c,
      ne_eqb n 3 d,
      ne_eqb n 4 e,
      ne_eqb n 5 f,
      ne_eqb n 6 g,
      ne_eqb n 7 h,
      ne_eqb n 8 i,
    )
