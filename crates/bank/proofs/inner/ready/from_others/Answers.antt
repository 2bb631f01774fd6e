use Rattle.bank_model.proofs.Others.{place_below, rest_length, rest_good, rest_is}
use Rattle.std.proofs.Common.{List, [], ap, ◌∙◌}
use lib.Ieee.{Float}
use Rattle.marks.proofs.Bounds.{durations_in, held_durations}
use Rattle.tracker.specs.Steps.{from_marks}
use Rattle.ranges.specs.Settings.{standard}
use Rattle.bank.proofs.inner.ready.from_others.Goals as goal

pub others-rest-requires : goal.others-rest-requires
others-rest-requires c = (c.args.marks.few, place_below _ [] _ c.least_place-k.ensures c.requires)

pub slice_bounds-others-end : goal.slice_bounds-others-end
slice_bounds-others-end c = rest_length _ _ _ c.least_place-k.ensures c.requires c.others-rest.ensures

pub invariant_of-others : goal.invariant_of-others
invariant_of-others c =
    let the = rest_good _ _ _ c.least_place-k.ensures c.requires c.others-rest.ensures _ _
    c.args.marks.few (durations_in _ c.args.marks.held) in
    record { held = held_durations _ the.1.0; few = the.0.1 }

pub from_marks-requires : goal.from_marks-requires
from_marks-requires c =
    record {
      any =
          (rest_good _ _ _ c.least_place-k.ensures c.requires c.others-rest.ensures _ _ c.args.marks.few
          (durations_in _ c.args.marks.held)).0.0;
      between = durations_in [] tt;
    }

pub returns : goal.returns
returns c = c.from_marks.ensures
    ∙ ap (λ (l : List Float). from_marks standard l [])
    (rest_is _ _ _ c.least_place-k.ensures c.requires c.others-rest.ensures)
