use Rattle.std.proofs.Common.{take}
use Rattle.bank_model.specs.Steps.{logged}
use Rattle.bank.proofs.Exchanging.{Logging, log_room, log_full, relogged_sturdy, relogged_is}
use Rattle.bank.proofs.inner.switch.push_log.Goals as goal
use Rattle.bank.proofs.inner.switch.push_log.Goals.{then-n-lt16, else-n-lt16}

pub invariant_of-result : goal.invariant_of-result
invariant_of-result c =
    let b = c.args.b.bank in
    let s = c.args.b.sturdy in
    let k : Logging c.if-n-lt16.log c.if-n-lt16.n (logged (take b.log_len b.log) c.args.e) =
    elim c.if-n-lt16.branch [
      | then-n-lt16 w ↦ rw (w.log-is, w.n-is) (log_room b.log b.log_len c.args.e s.log c.requires w.if-n-lt16.true)
      | else-n-lt16 w ↦ rw (
        w.log-is,
        w.n-is,
      ) (log_full b.log b.log_len c.args.e s.log c.requires w.if-n-lt16.false _ w.rotate_left.ensures.after)
    ] in
    record { sturdy = relogged_sturdy b _ _ _ k s }

pub returns : goal.returns
returns c =
    let b = c.args.b.bank in
    let k : Logging c.if-n-lt16.log c.if-n-lt16.n (logged (take b.log_len b.log) c.args.e) =
    elim c.if-n-lt16.branch [
      | then-n-lt16 w ↦ rw (
        w.log-is,
        w.n-is,
      ) (log_room b.log b.log_len c.args.e c.args.b.sturdy.log c.requires w.if-n-lt16.true)
      | else-n-lt16 w ↦ rw (
        w.log-is,
        w.n-is,
      ) (log_full b.log b.log_len c.args.e c.args.b.sturdy.log c.requires w.if-n-lt16.false _
          w.rotate_left.ensures.after)
    ] in
    relogged_is b _ _ _ k
