-- `station::inner::events::switch` meets its contract. Assumes nothing.
use mathlib.Core.Path.{refl, ap, ◌∙◌}
use mathlib.Core.Bool.{cond}
use lib.Dec.{eqb}
use Rattle.station_model.specs.declared.Code.TheVariants.{Switched, Nothing}
use Rattle.station_model.specs.Station as Model
use Rattle.station.specs.View.{view}
use Rattle.station.proofs.Coding.{coded_switch}
use Rattle.station.proofs.Moving.{none_leave}
use Rattle.station.proofs.inner.events.switch.Goals as goal

pub returns : goal.returns
returns c =
    let s = c.args.s.now in
    let t = s.station in
    let h = c.after_switch-t in
    let told = ap (λ (m : Model.Station). cond (eqb m.serial t.serial) Nothing Switched) h.ensures.is in
    none_leave h.result c.done.result (view t) _ _ c.done.ensures h.ensures
    (c.switching-code.ensures ∙ told ∙ coded_switch (view t) s.solid.books) refl
