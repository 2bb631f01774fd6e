use Rattle.std.proofs.Common.{refl, ap, ◌∙◌, le-leb}
use Rattle.std.specs.Prelude.{is_some}
use borrow.Author.Tests.{lt-leb}
use Rattle.tracker.specs.Model as Tracked
use Rattle.bank_model.specs.Model.{Bank}
use Rattle.bank_model.specs.Steps.{untaken}
use Rattle.bank.proofs.Exchanging.{call_exchange, call_observe, call_none, call_off, took_as}
use Rattle.bank.proofs.inner.switch.take_switch.Goals as goal

pub exchange-requires : goal.exchange-requires
exchange-requires c =
    record {
      ready = c.requires (ap is_some c.in-Some.is);
      i_bound =
          (rw c.in-Some.is at c.args.b.sturdy.pending, c.in-Some.is);
    }

pub returns-then-b : goal.returns-then-b
returns-then-b c =
    took_as _ _ _ _ _
    (call_exchange c.args.b.bank (Tracked.view c.args.p.tracker) c.args.serial c.in-Some.i
    (le-leb 2 c.args.b.bank.width c.if-b-ge2.true) c.in-Some.is c.if-b.true) c.exchange.ensures

pub observe-bank-requires : goal.observe-bank-requires
observe-bank-requires c =
    record {
      ready = c.requires (ap is_some c.in-Some.is);
      i_bound =
          rw c.in-Some.is at c.args.b.sturdy.pending;
    }

pub returns-else-b : goal.returns-else-b
returns-else-b c = record {
  is =
      ap (λ (m : Bank). untaken m (Tracked.view c.args.p.tracker) c.args.serial) c.observe-bank.ensures
      ∙ call_observe c.args.b.bank (Tracked.view c.args.p.tracker) c.args.serial c.in-Some.i
      (le-leb 2 c.args.b.bank.width c.if-b-ge2.true) c.in-Some.is c.if-b.false;
  held = refl;
}

pub returns-in_default : goal.returns-in_default
returns-in_default c =
    record {
      is =
          call_none c.args.b.bank (Tracked.view c.args.p.tracker) c.args.serial
          (le-leb 2 c.args.b.bank.width c.if-b-ge2.true) c.in_default.is;
      held = refl;
    }

pub returns-else-b-ge2 : goal.returns-else-b-ge2
returns-else-b-ge2 c =
    record {
      is =
          call_off c.args.b.bank (Tracked.view c.args.p.tracker) c.args.serial
          (lt-leb 2 c.args.b.bank.width c.if-b-ge2.false);
      held =
          refl;
    }
