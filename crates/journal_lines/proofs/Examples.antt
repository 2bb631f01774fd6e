-- The worked journals print what specs/Examples.antt has for them, by computation. Assumes nothing.
use mathlib.Core.Path.{refl}
use lib.Ieee.{size, round, of_int, to_bits, of_bits, add, sub, mul, div, neg, lt, le, eq, is_nan}
use Rattle.numbers.specs.Values.{narrow}
use Rattle.ranges.specs.Mean.{sum_from}
use Rattle.marks.specs.Sort.{insert, insert_all, ratios, first_largest}
use Rattle.pair.specs.Lock.{locked, constrained, started}
use Rattle.tracker.specs.Steps.{bootstrapped, three_to_one}
use Rattle.tracker.specs.Steps as Tracking
use Rattle.bank_model.specs.Steps.{any_twin, spawned_at, other, on_ready, take_switch}
use Rattle.station_model.specs.Station.{of_cause, step}
use Rattle.line_in.specs.Fields.{fields}
use Rattle.line_in.specs.Form as Form
use Rattle.line_out.specs.Shown as Shown
use Rattle.line_out.specs.Examples.{bytes}
use Rattle.journal_lines.specs.Whole.{rows, answers}
use Rattle.journal_lines.specs.Examples.{Worked}

pub worked : Worked
unfolding rows answers bytes Shown.line Shown.digits Shown.tens Form.entry fields Form.said Form.digits Form.followed Form.number Form.flag Form.whole Form.sixty_fourths step Tracking.on_mark bootstrapped three_to_one insert insert_all ratios first_largest locked constrained started narrow sum_from other on_ready take_switch spawned_at any_twin of_cause size round of_int to_bits of_bits add sub mul div neg lt le is_nan eq
worked = record { document = refl; nothing = refl; unended = refl; early = refl }
