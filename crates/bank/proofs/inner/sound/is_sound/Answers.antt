use Rattle.std.proofs.Common.{◌≡◌, length, sym, ◌∙◌, rules}
use Rattle.marks.proofs.Shifting.{unmapped}
use Rattle.bank.proofs.Sounding.{uncounted, narrow_not, crew_not, judged, judged_not}
use Rattle.bank.proofs.inner.sound.is_sound.Goals as goal
use Rattle.bank.proofs.inner.sound.is_sound.Goals.{
  then-not-is_counted-via-then-not-is_counted,
  then-not-is_counted-via-else-not-is_counted+then-not-is_wide,
  then-not-is_counted-via-else-not-is_counted+else-not-is_wide+then-not-is_crew_sound,
}

pub returns-then-not-is_counted : goal.returns-then-not-is_counted
returns-then-not-is_counted c =
    let b = c.args.b.now in
    judged_not b (elim c.then-not-is_counted.branch [
      | then-not-is_counted-via-then-not-is_counted w ↦ uncounted b (sym c.is_counted.ensures
          ∙ w.if-not-is_counted.true)
      | then-not-is_counted-via-else-not-is_counted+then-not-is_wide w ↦ narrow_not b (sym c.is_counted.ensures
          ∙ w.if-not-is_counted.false) (sym w.is_wide.ensures ∙ w.if-not-is_wide.true)
      | then-not-is_counted-via-else-not-is_counted+else-not-is_wide+then-not-is_crew_sound w ↦ crew_not b _
          w.is_crew_sound.ensures (sym c.is_counted.ensures ∙ w.if-not-is_counted.false) (sym w.is_wide.ensures
          ∙ w.if-not-is_wide.false) w.if-not-is_crew_sound.true
    ])

pub returns : goal.returns
returns c =
    let b = c.args.b.now in
    let lc : length b.challengers ≡ 8 = search (unmapped, rules) in
    let ls : length b.streak ≡ 4 = search rules in
    let lg : length b.streak_gaps ≡ 4 = search rules in
    let ll : length b.log ≡ 16 = search (unmapped, rules) in
    judged b _ c.is_crew_sound.ensures (sym c.is_counted.ensures ∙ c.if-not-is_counted.false) (sym c.is_wide.ensures
    ∙ c.if-not-is_wide.false) _ lc ls lg ll c.if-not-is_crew_sound.false c.is_rest_sound.ensures
