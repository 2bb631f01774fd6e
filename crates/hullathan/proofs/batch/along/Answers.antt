-- `hullathan::batch::along` meets its contract. Assumes nothing.
use mathlib.Core.Path.{ap, sym, ◌∙◌, subst}
use borrow.Author.Rules.{rules}
use Rattle.marks.proofs.Shifting.{unmapped}
use Rattle.pair.specs.Model.{held}
use Rattle.station.specs.Parts.{Next}
use Rattle.hullathan.proofs.Calling.{none_told}
use Rattle.hullathan.proofs.Running.{along_turns, run_begins, run_turns, run_ends}
use Rattle.hullathan.proofs.batch.along.Goals as goal
use Rattle.hullathan.proofs.batch.along.Goals.{in-Idle, in-Beat, in-Space, in-Other}

pub loop-i-init : goal.loop-i-init
loop-i-init c =
    let r = c.requires in
    (r.0, run_begins _ _ r.0.solid r.1 (search (unmapped, rules)) (search (unmapped, rules)))

pub loop-i-preserved-in_default : goal.loop-i-preserved-in_default
loop-i-preserved-in_default c =
    let l = c.loop-i in
    let e = ap held (sym c.in_default.is) ∙ c.event_of.ensures in
    let t = none_told l.c _ _ l.invariant.0 e c.formless_row.ensures in
    (t.0, run_turns _ _ l.c _ l.out l.i _ _ c.loop-i-test.true l.invariant.1 t.1)

pub loop-i-preserved : goal.loop-i-preserved
loop-i-preserved c =
    let l = c.loop-i in
    let e = ap held (sym c.in-Some.is) ∙ c.event_of.ensures in
    let n : Next l.c c.in-Some.v c.match-way_of.o =
    elim c.match-way_of.branch [
      | in-Idle w ↦ subst (Next _ _) (sym w.o-is) w.idle-o.ensures
      | in-Beat w ↦ subst (Next _ _) (sym w.o-is) w.beat-o.ensures
      | in-Space w ↦ subst (Next _ _) (sym w.o-is) w.space-o.ensures
      | in-Other w ↦ subst (Next _ _) (sym w.o-is) w.next-o.ensures
    ] in
    along_turns _ _ l.c l.out l.i _ _ _ _ c.loop-i-test.true l.invariant e n c.row_after.ensures

pub returns : goal.returns
returns c = run_ends _ _ _ _ _ _ c.loop-i-test.false c.loop-i.invariant.1 c.run_of.ensures
