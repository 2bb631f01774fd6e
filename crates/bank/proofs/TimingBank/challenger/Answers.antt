use Rattle.std.proofs.Common.{Ok, List, take, ap, ◌∙◌}
use Rattle.bank.specs.declared.TimingBank.{TimingBank}
use Rattle.rival.specs.declared.TimingHypothesis.{TimingHypothesis}
use Rattle.bank.specs.Answers.{of_shown}
use Rattle.bank.proofs.Answering.{shows}
use Rattle.bank.proofs.TimingBank.challenger.Goals as goal

pub returns : goal.returns
returns c =
    let l : TimingBank → List TimingHypothesis = λ b. take b.challengers_len b.challengers in
    ap (λ o. of_shown (Ok o)) c.nth.ensures ∙ shows c.args.self.now c.in_ok-crew.crew c.in_ok-crew.ensures.1 l c.args.i
