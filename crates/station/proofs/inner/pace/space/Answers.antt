-- `station::inner::pace::space` meets its contract. Assumes nothing.
use mathlib.Core.Path.{ap, sym, ◌∙◌, subst}
use lib.Dec.{T}
use lib.Ieee.{Float}
use lib.Ieee.Positive.{positive}
use Rattle.order.specs.Order.{larger}
use Rattle.ranges.specs.Settings.{standard}
use Rattle.bank.specs.declared.TimingBank.{TimingBank}
use Rattle.bank.specs.View as Banked
use Rattle.bank_model.specs.Constants.{milli}
use Rattle.bank_model.specs.Steps.{heard_gap}
use Rattle.bank_model.proofs.Ready.{estimate_positive}
use Rattle.station_model.specs.declared.Code.TheVariants.{Done}
use Rattle.station_model.specs.Station.{gap_act}
use Rattle.station.specs.View.{view}
use Rattle.station.proofs.Moving.{holds, none_leave, gap_quiet}
use Rattle.station.proofs.Pacing.{stands_next, heard_ready, space_is}
use Rattle.station.proofs.inner.pace.space.Goals as goal

pub hear_space-requires : goal.hear_space-requires
hear_space-requires c =
    let s = c.args.s.now in
    let u = c.dit_estimate-unit.ensures in (
      u,
      subst (λ (x : Float). T (positive (larger x milli))) (sym u)
          (estimate_positive s.primary c.requires.0.solid.primary (heard_ready s c.requires.1.heard)),
    )

pub returns : goal.returns
returns c =
    let s = c.args.s.now in
    let m = view s in
    let d = c.args.d in
    let k = c.requires.0 in
    let i = c.requires.1 in
    let b = c.hear_space in
    let q = c.hear_one in
    let a = gap_quiet standard m d.ms in
    let heard = b.ensures ∙ ap (λ (x : TimingBank). heard_gap standard (Banked.view x) m.primary d.ms) c.bank.ensures in
    let h = holds s q.result.tracker m.serial b.result.bank Done (gap_act standard m d.ms) q.result.held b.result.sturdy
    (space_is s i.heard d k.solid c.args.e i _ _ (rw c.primary.ensures at q.ensures) heard) in
    stands_next s c.args.e k i.free i.is c.done.result (none_leave _ c.done.result m _ Done c.done.ensures h a.0 a.1)
