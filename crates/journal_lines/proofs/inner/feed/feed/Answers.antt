-- `journal_lines::inner::feed::feed` meets its contract. Assumes nothing.
use borrow.Author.Tests.{lt-leb}
use Rattle.journal_lines.proofs.Going.{within_size, go_begins, go_part, go_line, go_less, go_few, go_stops, go_ends}
use Rattle.journal_lines.proofs.Answering.{answer_written}
use Rattle.journal_lines.proofs.inner.feed.feed.Goals as goal
use Rattle.journal_lines.proofs.inner.feed.feed.Goals.{in-Some-Call+in-Some-station, in-Idle, in-Beat, in-Space}
use Rattle.journal_lines.proofs.inner.feed.feed.Goals.{in-Other, in_default, in_default-via-in-Some+in-Watch-1}
use Rattle.journal_lines.proofs.inner.feed.feed.Goals.{in_default-via-in-None-1, in_default-via-in-Some-Call+in-None-1}
use Rattle.std.proofs.Common.{◌≡◌, ◌-◌, Some, subst, refl, sym, ap, ◌∙◌}
use Rattle.line_in.specs.declared.Entry.TheVariants.{Call}
use Rattle.ranges.specs.Settings.{standard}
use Rattle.station.specs.Parts.{Next}
use Rattle.journal_lines.specs.Journal.{answer}
use Rattle.journal_lines.specs.Parts.{reading}
use Rattle.journal_lines.proofs.Going.{Turned, turned_other}
use Rattle.journal_lines.proofs.Answering.{called_answered}

pub loop-used-init : goal.loop-used-init
loop-used-init c = go_begins _ _ _ c.requires

pub loop-used-preserved-in-None : goal.loop-used-preserved-in-None
loop-used-preserved-in-None c =
    go_part _ _ _ _ _ _ _ c.loop-used.invariant c.if-out-put-ge80.true c.gather.new.line c.in-None.ensures

pub overflow_add-used : goal.overflow_add-used
overflow_add-used c =
    within_size c.args.piece.now _
    (go_few _ _ _ _ _ _ _ c.loop-used.invariant c.if-out-put-ge80.true c.gather.new.line _ c.in-Some.ensures)
    c.well_formed.1.0.1

pub loop-used-smaller : goal.loop-used-smaller
loop-used-smaller c =
    go_less _ _ _ _ _ _ _ c.loop-used.invariant c.if-out-put-ge80.true c.gather.new.line _ c.in-Some.ensures
    c.loop-used-test.true

pub loop-used-preserved : goal.loop-used-preserved
loop-used-preserved c =
    let w = c.write_line-put.ensures in
    let t : Turned c.loop-used.j c.match-e.j c.match-e.shown
    (answer standard (reading c.loop-used.j.station) c.entry_of-e.result) =
    elim c.match-e.branch [
      | in-Some-Call+in-Some-station w ↦
          let k : Next w.in-Some-station.s w.in-Some-Call.c w.match-way_of.o =
          elim w.match-way_of.branch [
            | in-Idle x ↦ subst (Next _ _) (sym x.o-is) x.idle-o.ensures
            | in-Beat x ↦ subst (Next _ _) (sym x.o-is) x.beat-o.ensures
            | in-Space x ↦ subst (Next _ _) (sym x.o-is) x.space-o.ensures
            | in-Other x ↦ subst (Next _ _) (sym x.o-is) x.next-o.ensures
          ] in
          let q : c.entry_of-e.result ≡ Some (Call w.in-Some-Call.c) =
          w.in-Some-Call.is ∙ ap Some (rw w.in-Some-Call.is at w.in-Some-Call.field-0-is) in
          rw (w.j-is, w.shown-is) record {
            answered = called_answered _ _ _ _ _ _ w.in-Some-station.is q k _ w.letter.ensures w.show_one-shown.ensures;
            held = c.clear.ensures;
            left = refl;
          }
      | in_default w ↦
          let e : w.in_default.j ≡ record
          { station = c.loop-used.j.station; held = c.clear.new.self; left = c.loop-used.j.left - 1 } =
          elim w.in_default.branch [
            | in_default-via-in-Some+in-Watch-1 x ↦ x.j-is
            | in_default-via-in-None-1 x ↦ x.j-is
            | in_default-via-in-Some-Call+in-None-1 x ↦ x.j-is
          ] in
          rw (w.j-is, w.shown-is) (turned_other _ _ _ _ _ _ e c.clear.ensures w.answer-shown.ensures)
    ] in
    go_line _ _ _ _ _ _ _ c.loop-used.invariant c.if-out-put-ge80.true c.gather.new.line _ c.in-Some.ensures _ _ t.held
    t.left _
    (answer_written _ _ _ _ _ _ _ _ _ c.as_slice.ensures c.entry_of-e.ensures t.answered w.value w.out_after
    c.write_line-put.auto.out)

pub returns-else-out-put-ge80-clause-used_value : goal.returns-else-out-put-ge80-clause-used_value
returns-else-out-put-ge80-clause-used_value c =
    go_stops _ _ _ _ _ _ _ c.loop-used.invariant (lt-leb 80 _ c.if-out-put-ge80.false)

pub returns-after-loop-used-clause-used_value : goal.returns-after-loop-used-clause-used_value
returns-after-loop-used-clause-used_value c = go_ends _ _ _ _ _ _ _ c.loop-used.invariant c.loop-used-test.false
