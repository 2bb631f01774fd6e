-- The version of the library's interface, and how long its structs are, so that a host can see that its own declarations are these. Definitions only.
use Rattle.std.specs.Prelude.{cond, ℕ, ◌+◌, ◌*◌, eqb}
use Rattle.bank_model.specs.Departures.{most_left}

-- one more with each change of a struct or of a function that hosts have
abbrev pub version : ℕ
version = 2

-- ---- bytes. Each belongs to a field, so that a struct is as long as its fields together, in their order here: a u8 has 1, an f32 or a u32 4, a u64 or a usize 8

abbrev pub pair : ℕ
pair = 4 + 4 + 12 * 4 + 8 + 1 + 1 + 1 + 5 + 8

abbrev pub entry : ℕ
entry = 4 + 1 + 3 + 4 + 4

abbrev pub tracker : ℕ
tracker = pair + 12 * entry + 8 + 1 + 3 + 4 + 5 * 4 + 4 + 8 + 1 + 3 + 4 + 1 + 3 + 4 + 4 + 1 + 1 + 2

abbrev pub hypothesis : ℕ
hypothesis = tracker + 4 + 4 + 4 + 4 + 1 + 3 + 4 + 1 + 3 + 4 + 4 + 4 + 8

abbrev pub switch : ℕ
switch = 8 + 4 + 4 + 1 + 7

abbrev pub bank : ℕ
bank =
    8 + 1 + 3 + 4 + 4 + 4 + 8 * hypothesis + 8 + 4 * 4 + 8 + 4 * 4 + 8 + 1 + 1 + 1 + 1 + 4 + 8 + 8 + 1 + 7 + 8 + 16 * switch + 8 + 8

abbrev pub station : ℕ
station = tracker + 8 + bank + 8 + 8 + 8 + 8 + 8 + 8

abbrev pub departure : ℕ
departure = 8 + 1 + 7

abbrev pub answer : ℕ
answer = 1 + 3 + 4 + 4 + 4 + 8 + 8 + most_left * departure + 8

abbrev pub event : ℕ
event = 1 + 1 + 2 + 4

abbrev pub batch : ℕ
batch = 8 + 64 * event + 64 * answer

abbrev pub rival : ℕ
rival = 8 + 4 + 4 + 4 + 4

abbrev pub reading : ℕ
reading =
    1 + 1 + 1 + 1 + 4 + 8 + 4 + 4 + 4 + 4 + 4 + 4 + 8 + 8 + 8 + 8 + 8 + 8 + 8 + 8 + 8 + 8 + 8 + 8 * rival + 8 + 16 * switch

-- one class of a sender's statistics, the five, and what a host shows of them
abbrev pub stats : ℕ
stats = 4 + 4 + 4

abbrev pub sender : ℕ
sender = 5 * stats

abbrev pub sender_reading : ℕ
sender_reading = 1 + 1 + 1 + 1 + 4 + 4 + 4 + 5 * stats

-- how long a struct is, by its number; 0 where none has it
abbrev pub size_of : ℕ → ℕ
size_of n =
    cond (eqb n 0) station
    (cond (eqb n 1) answer
    (cond (eqb n 2) event
    (cond (eqb n 3) batch
    (cond (eqb n 4) reading
    (cond (eqb n 5) bank
    (cond (eqb n 6) tracker
    (cond (eqb n 7) sender
    (cond (eqb n 8) sender_reading 0))))))))
