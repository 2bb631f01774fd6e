-- `sender::SenderTiming::sender_word_dits` meets its contract. Assumes nothing.
use mathlib.Core.Path.{sym, ap, ◌∙◌}
use Prim.Native.Nat.{ℕ}
use Rattle.sender.specs.declared.SenderTiming.{SenderTiming}
use Rattle.sender.specs.Model.{view}
use Rattle.sender.specs.Answers.{in_dits, optional, unless, word_said}
use Rattle.sender.proofs.Readings.{word_said_in}
use Rattle.sender.proofs.SenderTiming.sender_word_dits.Goals as goal

pub returns-clause-fact : goal.returns-clause-fact
returns-clause-fact c =
    let s = c.args.self in
    let k = c.in_ok-try_from.ensures in
    let said =
    ap (optional in_dits) c.sender_word_dits.ensures
    ∙ ap (λ (t : SenderTiming). word_said (view t)) k.1
    ∙ ap (λ (n : ℕ). unless n (word_said (view s))) k.0 in
    λ x q. word_said_in (view s) x (sym said ∙ q)
