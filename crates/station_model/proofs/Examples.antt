-- The worked watches hold, by computation. Assumes nothing.
use mathlib.Core.Path.{refl}
use lib.Ieee.{size, round, of_int, to_bits, of_bits, add, sub, mul, div, neg, lt, le, eq, is_nan}
use Rattle.numbers.specs.Root.{root_of, floor_root, root_in, sqrt_of}
use Rattle.numbers.specs.Values.{narrow}
use Rattle.numbers.specs.Log.{ln_of, digits}
use Rattle.order.specs.Order.{total_less}
use Rattle.ranges.specs.Mean.{sum_from, squares_from}
use Rattle.marks.specs.Sort.{insert, insert_all, ratios, first_largest}
use Rattle.pair.specs.Lock.{locked, constrained, learnt, started}
use Rattle.ring.specs.Ring.{anchor}
use Rattle.tracker.specs.Steps.{checked, seeded, bootstrapped, settled, element_gaps, from_marks, three_to_one}
use Rattle.tracker.specs.Steps as Tracking
use Rattle.bank_model.specs.Scores.{log_of, fit, mark_fit, gap_fit, decayed, near}
use Rattle.bank_model.specs.Steps.{least_from, highest_from, any_twin, spawned_at, first_least, least_place, without, other, on_ready, marked, candidate_at, streak_at, cause_at, staying, leaving, pruned_at, led, qualified, on_mark, gapped, greatest_unit, pausing_at, on_gap, clear, take_switch}
use Rattle.station_model.specs.Station.{of_cause, step}
use Rattle.station_model.specs.Watch.{station_after, calls_of, among, marks_heard, ahead_among, age, first_highest, named}
use Rattle.station_model.specs.Examples.{AllHold, worked, Printed, Answers}

pub examples : AllHold worked
unfolding AllHold calls_of named marks_heard ahead_among age first_highest among station_after step Tracking.on_mark Tracking.on_gap seeded settled element_gaps from_marks three_to_one checked anchor insert insert_all ratios first_largest locked constrained learnt narrow sum_from squares_from on_mark on_gap clear take_switch spawned_at any_twin candidate_at streak_at marked cause_at staying leaving pruned_at led qualified gapped greatest_unit pausing_at least_from highest_from of_cause log_of fit mark_fit gap_fit decayed near ln_of digits sqrt_of root_of floor_root root_in size round of_int to_bits of_bits add sub mul div neg lt le is_nan eq
examples = ((refl, refl, (refl, refl), refl), ((refl, refl, (refl, refl), refl), ((refl, refl, (refl, refl), refl), ((refl, refl, (refl, refl), refl), ((refl, refl, (refl, refl), refl), ((refl, refl, (refl, refl), refl), ((refl, refl, (refl, refl), refl), tt)))))))

pub printed : Printed
unfolding station_after step Tracking.on_mark bootstrapped three_to_one insert insert_all ratios first_largest locked constrained started narrow sum_from other on_ready take_switch spawned_at any_twin of_cause size round of_int to_bits of_bits add sub mul div neg lt le is_nan eq
printed = record { first = (refl, refl); second = (refl, refl); finish = (refl, refl); switch = (refl, refl); dit = refl; dah = refl; serial = refl; alone = refl }

pub answers : Answers
unfolding station_after step Tracking.on_mark Tracking.on_gap bootstrapped seeded three_to_one element_gaps from_marks insert insert_all ratios first_largest locked constrained started narrow sum_from other on_ready on_mark on_gap gap_fit fit decayed gapped greatest_unit pausing_at clear first_least least_place without total_less spawned_at any_twin near of_cause log_of ln_of digits size round of_int to_bits of_bits add sub mul div neg lt le is_nan eq
answers = record { endless = (refl, refl); empty = (refl, refl); longest = (refl, refl); still = (refl, refl); waits = (refl, refl); counts = refl; unheard = refl; unheld = refl; heard = refl; element = refl; longer = refl; seeds = (refl, refl); again = (refl, refl); unfinished = (refl, refl); fifth = (refl, refl); begun = refl }
