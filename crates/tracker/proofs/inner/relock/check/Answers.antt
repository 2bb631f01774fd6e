-- `tracker::inner::relock::check` meets its contract. Assumes nothing.
use Rattle.std.proofs.Common.{◌≡◌, length, sym, ◌∙◌, rules}
use Rattle.ranges.specs.Settings.{standard}
use Rattle.tracker.specs.Model.{view}
use Rattle.tracker.proofs.Relocking.{full_of, drifts_at, checked_drifts, checked_recovers, checked_stays, checked_mixed}
use Rattle.marks.proofs.Shifting.{unmapped}
use Rattle.tracker.proofs.inner.relock.check.Goals as goal

pub drifts-requires : goal.drifts-requires
drifts-requires c =
    let s = c.before.before.before in
    let t = s.args.t in
    let l : length t.ring ≡ 12 = search (unmapped, rules) in
    let u = sym c.uniform.ensures ∙ c.if-uniform.true in
    let f = full_of t l s.requires u in
    f.ring

pub returns-then-drifts : goal.returns-then-drifts
returns-then-drifts c =
    let s = c.before.before.before.before.before.before in
    let t = s.args.t in
    let l : length t.ring ≡ 12 = search (unmapped, rules) in
    let u = sym c.uniform.ensures ∙ c.if-uniform.true in
    let f = full_of t l s.requires u in (
      c.drifted.ensures.0 ∙ checked_drifts standard (view t) u
          (drifts_at t _ _ l f c.drifts.ensures c.if-drifts.true),
      c.drifted.ensures.1,
    )

pub fragment-requires : goal.fragment-requires
fragment-requires c =
    let s = c.before.before.before.before.before in
    let t = s.args.t in
    let l : length t.ring ≡ 12 = search (unmapped, rules) in
    let u = sym c.uniform.ensures ∙ c.if-uniform.true in
    let f = full_of t l s.requires u in
    f

pub recovered-requires : goal.recovered-requires
recovered-requires c =
    let s = c.before.before.before.before.before.before.before in
    let t = s.args.t in
    let l : length t.ring ≡ 12 = search (unmapped, rules) in
    let u = sym c.uniform.ensures ∙ c.if-uniform.true in
    let f = full_of t l s.requires u in
    record { counted = s.requires.counted; full = f }

pub returns-then-fragment : goal.returns-then-fragment
returns-then-fragment c =
    let s = c.before.before.before.before.before.before.before.before in
    let t = s.args.t in
    let l : length t.ring ≡ 12 = search (unmapped, rules) in
    let u = sym c.uniform.ensures ∙ c.if-uniform.true in
    let f = full_of t l s.requires u in (
      c.recovered.ensures.0 ∙ checked_recovers standard (view t) u
          (drifts_at t _ _ l f c.drifts.ensures c.if-drifts.false)
          (sym c.fragment.ensures ∙ c.if-fragment.true),
      c.recovered.ensures.1,
    )

pub returns-else-fragment : goal.returns-else-fragment
returns-else-fragment c =
    let s = c.before.before.before.before.before.before.before in
    let t = s.args.t in
    let l : length t.ring ≡ 12 = search (unmapped, rules) in
    let u = sym c.uniform.ensures ∙ c.if-uniform.true in
    let f = full_of t l s.requires u in (
      checked_stays standard (view t) u (drifts_at t _ _ l f c.drifts.ensures c.if-drifts.false)
          (sym c.fragment.ensures ∙ c.if-fragment.false),
      s.requires.counted,
    )

pub returns-else-uniform : goal.returns-else-uniform
returns-else-uniform c =
    (checked_mixed standard (view c.args.t) (sym c.uniform.ensures ∙ c.if-uniform.false), c.requires.counted)
