-- `journal::answer` meets its contract. Assumes nothing.
use Rattle.std.proofs.Common.{refl, sym, ap, ◌∙◌, not, IsOk}
use Rattle.journal.proofs.Serving.{serve_begins, serve_ends, serve_fails, serve_less, serve_turns, where_ok}
use Rattle.journal.proofs.answer.Goals as goal

pub loop-at-init : goal.loop-at-init
loop-at-init g c = (serve_begins _ _ _ _ c.requires.goes c.requires.in_bounds, refl)

pub loop-at-smaller : goal.loop-at-smaller
loop-at-smaller g c =
    let f = c.feed-fed.ensures in
    serve_less _ _ _ _ _ _ _ _ c.loop-at.invariant.0 _ _ _ f.feeds f.used_value c.feed-fed.auto.out
    c.loop-at-test.true

pub put-well-requires-clause-well_value : goal.put-well-requires-clause-well_value
put-well-requires-clause-well_value g c = c.loop-at.invariant.1

pub loop-at-preserved : goal.loop-at-preserved
loop-at-preserved g c =
    let f = c.feed-fed.ensures in
    let well : IsOk c.put-well.result = c.is_err.ensures.negation ∙ ap not c.if-is_err.false in (
      serve_turns _ _ _ _ _ _ _ _ c.loop-at.invariant.0 _ _ _ f.feeds f.used_value c.feed-fed.auto.out _
          (where_ok _ well c.put-well.ensures),
      well,
    )

pub returns-then-is_err-clause-heard : goal.returns-then-is_err-clause-heard
returns-then-is_err-clause-heard g c =
    let f = c.feed-fed.ensures in
    serve_fails _ _ _ _ _ _ _ _ c.loop-at.invariant.0 _ _ _ f.feeds f.used_value c.feed-fed.auto.out _
    (sym c.is_err.ensures.value ∙ c.if-is_err.true)

pub returns-clause-heard : goal.returns-clause-heard
returns-clause-heard g c = (serve_ends _ _ _ _ _ _ _ _ c.loop-at.invariant.0 c.loop-at-test.false _).0

pub returns-clause-wrote : goal.returns-clause-wrote
returns-clause-wrote g c = (serve_ends _ _ _ _ _ _ _ _ c.loop-at.invariant.0 c.loop-at-test.false _).1
