-- What a fresh journal promises. Assumes nothing.
use mathlib.Core.Path.{◌≡◌, ap, sym, ◌∙◌}
use mathlib.Core.List.{List, [], ◌∷◌, ◌++◌}
use Prim.Native.Nat.{ℕ}
use lib.ListN.{take, drop}
use lib.Seq.{take_at}
use Rattle.ranges.specs.Settings.{standard}
use Rattle.journal_lines.specs.declared.Journal.{Journal}
use Rattle.journal_lines.specs.Pieces.{feed, start, end}
use Rattle.journal_lines.specs.Pieces as Pieces
use Rattle.journal_lines.specs.Parts.{viewed}
use Rattle.journal_lines.specs.Runs.{Promises, Ran, Runs, put, taken}
use Rattle.journal_lines.proofs.Joining.{feed_append, output_is}

-- the calls so far are one piece
ran : (first : Journal) (calls : List Ran) (now : Journal) → Runs first calls now
    → feed standard (viewed first) (taken calls) ≡ record { journal = viewed now; put = put calls }
unfolding Runs taken put feed
ran first [] now r = ap (λ (j : Journal). record { journal = viewed j; put = [] }) (sym r)
ran first (c ∷ earlier) now r =
    let f = r.1 in
    let below = ran first earlier c.before r.0 in
    let piece = take c.fed.used c.piece in
    let more = feed standard (viewed c.before) piece in
    let wrote : take c.fed.put c.is ≡ more.put =
    ap (take c.fed.put) f.out ∙ take_at more.put (drop c.fed.put c.was) c.fed.put (sym f.put) in
    let now-is : viewed now ≡ more.journal = ap viewed r.2 ∙ f.journal in
    feed_append standard (viewed first) (taken earlier) piece
    ∙ ap
    (λ (g : Pieces.Fed). record {
      journal = (feed standard g.journal piece).journal;
      put = g.put
          ++ (feed standard g.journal piece).put;
    }) below
    ∙ ap (λ (l : List ℕ). record { journal = more.journal; put = put earlier ++ l }) (sym wrote)
    ∙ ap (λ (j : Pieces.Journal). record { journal = j; put = put earlier ++ take c.fed.put c.is }) (sym now-is)

pub promises : (first : Journal) → viewed first ≡ start → Promises first
promises first e = record {
  all = λ calls now r.
      ap (λ (f : Pieces.Fed). f.put ++ end f.journal) (sym (ran first calls now r))
      ∙ ap
      (λ (j : Pieces.Journal). (feed standard j (taken calls)).put ++ end (feed standard j (taken calls)).journal) e
      ∙ output_is standard (taken calls);
}
