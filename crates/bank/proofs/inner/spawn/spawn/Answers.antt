use Rattle.std.proofs.Common.{true, false, refl, ap, ◌∙◌}
use Rattle.tracker.specs.Model as Tracked
use Rattle.bank_model.specs.Model.{Hyp}
use Rattle.bank_model.specs.Steps.{Best, pushed, replacing, place, newborn}
use Rattle.bank_model.proofs.Ready.{dit_log, dah_log}
use Rattle.bank.specs.View.{view}
use Rattle.bank.proofs.Coming.{spawn_is, victim_before, roomy_yes, roomy_no}
use Rattle.bank.proofs.inner.spawn.spawn.Goals as goal
use Rattle.bank.proofs.inner.spawn.spawn.Goals.{
  then-duplicates-via-then-duplicates,
  then-duplicates-via-else-duplicates+then-any_twin,
}

pub centroid_logs-l-requires : goal.centroid_logs-l-requires
centroid_logs-l-requires c = (
  dit_log c.args.t.tracker c.args.t.held c.requires,
  dah_log c.args.t.tracker c.args.t.held c.requires,
)

pub returns-then-duplicates : goal.returns-then-duplicates
returns-then-duplicates c =
    let s = c.args.b.sturdy in
    c.unchanged.ensures
    ∙ elim c.then-duplicates.branch [
      | then-duplicates-via-then-duplicates w ↦ spawn_is c.args.b.bank s c.args.p.lo c.args.p.hi c.args.o _ _
          c.centroid_logs-l.ensures true _ _ _ _ c.duplicates.ensures w.if-duplicates.true refl refl refl
      | then-duplicates-via-else-duplicates+then-any_twin w ↦ spawn_is c.args.b.bank s c.args.p.lo c.args.p.hi c.args.o
          _ _ c.centroid_logs-l.ensures false true _ _ _ c.duplicates.ensures w.if-duplicates.false w.any_twin.ensures
          w.if-any_twin.true refl
    ]

pub returns-then-b : goal.returns-then-b
returns-then-b c =
    let s = c.args.b.sturdy in
    c.push.ensures ∙ ap (pushed (view c.args.b.bank)) c.newborn-h.ensures.0
    ∙ spawn_is c.args.b.bank s c.args.p.lo c.args.p.hi c.args.o _ _ c.centroid_logs-l.ensures false false true _ _
    c.duplicates.ensures c.if-duplicates.false c.any_twin.ensures c.if-any_twin.false
    (roomy_yes c.args.b.bank s c.if-b.true)

pub replace-requires-clause-before : goal.replace-requires-clause-before
replace-requires-clause-before c = victim_before c.args.b.bank c.args.b.sturdy _ c.victim-v.ensures

pub returns : goal.returns
returns c =
    let s = c.args.b.sturdy in
    c.replace.ensures
    ∙ ap (λ (h : Hyp). replacing (view c.args.b.bank) h (place c.victim-v.result)) c.newborn-h.ensures.0
    ∙ ap (λ (v : Best). replacing (view c.args.b.bank)
    (newborn (view c.args.b.bank) (Tracked.view c.args.t.tracker) c.args.o) (place v)) c.victim-v.ensures
    ∙ spawn_is c.args.b.bank s c.args.p.lo c.args.p.hi c.args.o _ _ c.centroid_logs-l.ensures false false false _ _
    c.duplicates.ensures c.if-duplicates.false c.any_twin.ensures c.if-any_twin.false
    (roomy_no c.args.b.bank s c.if-b.false)
