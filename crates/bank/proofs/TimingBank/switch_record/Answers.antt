use Rattle.std.proofs.Common.{Ok, take, ap, ◌∙◌}
use Rattle.bank.specs.declared.TimingBank.{TimingBank}
use Rattle.bank.specs.Answers.{of_shown}
use Rattle.bank.proofs.Answering.{shows}
use Rattle.bank.proofs.TimingBank.switch_record.Goals as goal

pub returns : goal.returns
returns c =
    ap (λ o. of_shown (Ok o)) c.nth.ensures
    ∙ shows c.args.self.now c.in_ok-logged.logged c.in_ok-logged.ensures.1 (λ (b : TimingBank). take b.log_len b.log) c.args.i
