-- What the switch call with a lent tracker answers stands in the plain forms that leave; a form that is none is refused. Assumes nothing.
use mathlib.Core.Path.{◌≡◌, ap, ◌∙◌}
use Prim.Native.Nat.{ℕ}
use Rattle.ranges.specs.Settings.{standard}
use Rattle.tracker.specs.declared.SpeedTracker.{SpeedTracker}
use Rattle.tracker.specs.Model as Tracked
use Rattle.bank_model.specs.Steps as Steps
use Rattle.bank.specs.declared.TimingBank.{TimingBank}
use Rattle.bank.specs.View.{view}
use Rattle.bank.specs.Answers.{Switches, choice_then, count_then, switch_refusal}
use Rattle.lent.specs.declared.LentSwitched.{LentSwitched}
use Rattle.lent.specs.Lent.{together}
use Rattle.plain_tracker.specs.declared.PlainTracker.{PlainTracker}
use Rattle.plain_tracker.specs.Plain.{tracker_of}
use Rattle.plain.specs.declared.PlainBank.{PlainBank}
use Rattle.plain.specs.Plain.{bank_of}
use Rattle.exports.specs.declared.of_bank.BankSwitched.{BankSwitched}
use Rattle.exports.specs.declared.of_lent.BankLent.{BankLent}
use Rattle.exports.specs.Bank.{BankSwitches, ReadAs, forms_then, primary_on}
use Rattle.exports.specs.Lent.{found, lent_on}
use Rattle.exports.specs.Tracker as Trackers
use Rattle.exports.proofs.Rivals.{switches_both}

-- what `lent` says of its answer a and of the tracker p that is found, of the bank c and the lent tracker h
abbrev pub Said : TimingBank → SpeedTracker → ℕ → LentSwitched → SpeedTracker → Type 0
Said c h n a p =
    Switches standard (switch_refusal standard c h) c h n (Steps.take_switch (view c) (Tracked.view h) n) (together a p)

-- and what leaves, of the forms b and q
abbrev pub Leaves : PlainBank → PlainTracker → ℕ → BankSwitched → Type 0
Leaves b q n =
    BankSwitches (forms_then b q (switch_refusal standard (bank_of b) (tracker_of q))) b q n
    (Steps.take_switch (view (bank_of b)) (Tracked.view (tracker_of q)) n)

-- any answer and any tracker, on a bank and a tracker that were read from the forms
pub lent_leaves : (b : PlainBank) (c : TimingBank) → ReadAs b c → (q : PlainTracker) (h : SpeedTracker)
    → Trackers.ReadAs q h → (n : ℕ) (a : LentSwitched) (p : SpeedTracker) → Said c h n a p
    → (r : BankLent) → r ≡ lent_on b a → (x : PlainTracker) → x ≡ primary_on q a.flag p → Leaves b q n (found r x)
lent_leaves b c how q h read n a p said r e x f =
    switches_both b c how q h read (λ (z : TimingBank) (y : SpeedTracker). choice_then z y (count_then z 0)) n
    (λ (z : TimingBank) (y : SpeedTracker). Steps.take_switch (view z) (Tracked.view y) n) (together a p) _ said
    (ap (λ (z : BankLent). found z x) e ∙ ap (found (lent_on b a)) f)
