-- A piece of the input, line by line: what the parts of the code add up to. Assumes nothing.
use mathlib.Core.Path.{◌≡◌, refl, ap, sym, ◌∙◌}
use mathlib.Core.Bool.{Bool, true, false}
use mathlib.Core.List.{List, [], ◌++◌}
use Prim.Native.Nat.{ℕ, zero, suc, ◌+◌, ◌-◌, ◌≤◌, ◌<◌}
use native.Mathlib.Omega.{arith}
use lib.ListN.{length, take, drop, drop_of_length-le}
use lib.Seq.{take_all}
use Rattle.std.specs.Prelude.{Option, Some, None, cond}
use Rattle.line_out.specs.declared.bytes.Bytes.{Bytes}
use Rattle.line_out.specs.Bytes.{contents}
use Rattle.ranges.specs.Settings.{standard}
use Rattle.line_in.specs.Form.{entry}
use Rattle.line_out.specs.Shown.{line}
use Rattle.journal_lines.specs.declared.Fed.{Fed}
use Rattle.journal_lines.specs.declared.Journal.{Journal}
use Rattle.station.specs.declared.Station.{Station}
use Rattle.journal_lines.specs.Journal.{answer}
use Rattle.journal_lines.specs.Pieces.{feed, within}
use Rattle.journal_lines.specs.Pieces as Pieces
use Rattle.journal_lines.specs.Parts.{Feeds, Gathers, Goes, has_newline, keeps, keeps_at, newline_at, reading, taken_at}
use Rattle.journal_lines.specs.Parts.{up_to_newline, viewed}
use Rattle.journal_lines.proofs.Answering.{Writes}
use Rattle.journal_lines.proofs.Feeding.{feed_spent, feed_part, feed_line, taken_few, taken_some, within_spent}
use Rattle.journal_lines.proofs.Feeding.{within_part, within_line, keeping}

-- one line of it, or all where no newline is in it: and it goes on from there
pub record Advances (j : Journal) (piece was is : List ℕ) (j' : Journal) (r : Fed) : Type 0 where
  pub feeds : Feeds j piece was is j' r
  pub moves : 0 < length piece → 0 < r.used
  pub room : r.put ≤ length was
  pub onward : (room : ℕ) → 80 ≤ room
      → within standard room (viewed j) piece ≡ r.used + within standard (room - r.put) (viewed j') (drop r.used piece)

-- ---- what is fed, as the definitions have it

-- so many bytes of a piece make this
feeds_as : (j : Journal) (piece was is : List ℕ) (j' : Journal) (r : Fed) (f : Pieces.Fed)
    → feed standard (viewed j) (take r.used piece) ≡ f
    → r.used ≤ length piece → viewed j' ≡ f.journal → r.put ≡ length f.put → is ≡ f.put ++ drop r.put was → Goes j'
    → Feeds j piece was is j' r
feeds_as j piece was is j' r f e u a b c g = record {
  few = u;
  journal = a ∙ sym (ap (λ (x : Pieces.Fed). x.journal) e);
  put = b ∙ sym (ap (λ (x : Pieces.Fed). length x.put) e);
  out = c ∙ sym (ap (λ (x : Pieces.Fed). x.put ++ drop r.put was) e);
  goes = g;
}

ends_there : (j : Pieces.Journal) (room : ℕ) (piece : List ℕ)
    → length piece ≡ length piece + within standard room j (drop (length piece) piece)
unfolding within
ends_there j room piece = rw (drop_of_length-le piece {i = length piece} (omega arith)) (omega arith)

module _ (j : Journal) (piece was : List ℕ) (h : Bytes 80) where
  -- ---- no newline came, or no line may be read any more

  abbrev pub waits : Journal
  waits = record { station = j.station; held = h; left = j.left }

  abbrev all : Fed
  all = record { used = length piece; put = 0 }

  waiting : Goes j → feed standard (viewed j) piece ≡ record { journal = keeping (viewed j) (contents h); put = [] }
      → ((room : ℕ) → 80 ≤ room → within standard room (viewed j) piece ≡ length piece)
      → Advances j piece was was waits all
  waiting c f w = record {
    feeds = feeds_as j piece was was waits all (record { journal = keeping (viewed j) (contents h); put = [] })
        (ap (feed standard (viewed j)) (take_all (length piece) piece (omega arith)) ∙ f)
        (omega arith) refl refl refl c;
    moves = λ n. n;
    room = omega arith;
    onward = λ room n. w room n ∙ ends_there _ (room - 0) piece;
  }

  pub advance_part : Gathers j.left (contents j.held) piece (contents h) None → Goes j
      → Advances j piece was was waits all
  advance_part k c = go j.left refl k.held k.took
    where
      go : (n : ℕ) → j.left ≡ n → contents h ≡ keeps_at n (contents j.held) piece
          → None ≡ cond (newline_at n piece) (Some (taken_at n piece)) None → Advances j piece was was waits all
      go zero z a b =
          waiting c
          (feed_spent standard (viewed j) z piece
          ∙ ap (λ (x : List ℕ). record { journal = keeping (viewed j) x; put = [] }) (sym a))
          (λ room n. within_spent standard (viewed j) z room n piece)
      go (suc n) z a b = of (has_newline piece) refl b
        where
          of : (t : Bool) → has_newline piece ≡ t → None ≡ cond t (Some (up_to_newline piece)) None
              → Advances j piece was was waits all
          of true e q = cc
          of false e q =
              waiting c
              (feed_part standard (viewed j) n z piece e
              ∙ ap (λ (x : List ℕ). record { journal = keeping (viewed j) x; put = [] }) (sym a))
              (λ room m. within_part standard (viewed j) n z room m piece e)

  -- ---- a newline came, and the line is answered

  module _ (is : List ℕ) (s : Option Station) (empty : Bytes 80) (e₀ : contents empty ≡ []) (used put : ℕ)
      (v : Writes s put was is (answer standard (reading j.station) (entry (contents h)))) where
    abbrev pub after : Journal
    after = record { station = s; held = empty; left = j.left - 1 }

    abbrev pub fed : Fed
    fed = record { used = used; put = put }

    abbrev answered : ℕ → Pieces.Fed
    answered n =
        let t = answer standard (reading j.station) (entry (contents h)) in
        record { journal = record { station = t.station; held = []; left = n }; put = line t.shown }

    abbrev goes_on : ℕ → ℕ → ℕ → Pieces.Journal → ℕ
    goes_on room used put now = used + within standard (room - put) now (drop used piece)

    newline : (n : ℕ) → j.left ≡ suc n → contents h ≡ keeps (contents j.held) piece → used ≡ up_to_newline piece
        → has_newline piece ≡ true → Advances j piece was is after fed
    newline n e a b there =
        let is-answered : Pieces.ended standard (keeping (viewed j) (keeps (contents j.held) piece)) n ≡ answered n =
        ap (λ (x : List ℕ). Pieces.ended standard (keeping (viewed j) x) n) (sym a) in
        let is-viewed : viewed after ≡ (answered n).journal =
        (let d : j.left - 1 ≡ n = omega arith in rw (v.station, d, e₀)) in
        let few = taken_few piece in
        record {
          feeds =
              feeds_as j piece was is after fed (answered n)
              (ap (λ (m : ℕ). feed standard (viewed j) (take m piece)) b
              ∙ feed_line standard (viewed j) n e piece there ∙ is-answered)
              (omega arith) is-viewed v.long
              (v.out ∙ ap (λ (m : ℕ). (answered n).put ++ drop m was) (sym v.long)) v.lives;
          moves = λ m. (let t = taken_some piece m in omega arith);
          room = v.room;
          onward = λ room m.
              within_line standard (viewed j) n e room m piece there
              ∙ ap (λ (f : Pieces.Fed). goes_on room (up_to_newline piece) (length f.put) f.journal) is-answered
              ∙ ap (λ (m : ℕ). goes_on room m (length (answered n).put) (answered n).journal) (sym b)
              ∙ ap (λ (m : ℕ). goes_on room used m (answered n).journal) (sym v.long)
              ∙ ap (goes_on room used put) (sym is-viewed);
        }

    pub advance_line : Gathers j.left (contents j.held) piece (contents h) (Some used)
        → Advances j piece was is after fed
    advance_line k = go j.left refl k.held k.took
      where
        go : (n : ℕ) → j.left ≡ n → contents h ≡ keeps_at n (contents j.held) piece
            → Some used ≡ cond (newline_at n piece) (Some (taken_at n piece)) None → Advances j piece was is after fed
        go zero e a b = cc
        go (suc n) e a b = of (has_newline piece) refl b
          where
            of : (t : Bool) → has_newline piece ≡ t → Some used ≡ cond t (Some (up_to_newline piece)) None
                → Advances j piece was is after fed
            of false w q = cc
            of true w q = let u : used ≡ up_to_newline piece = cc in newline n e a u w
