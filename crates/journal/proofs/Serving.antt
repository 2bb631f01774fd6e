-- The loop that answers a piece, a buffer full at a time. Assumes nothing.
use Rattle.std.proofs.Common.{◌≡◌, refl, ap, sym, ◌∙◌, subst, List, ◌++◌, ℕ, ◌+◌, ◌-◌, ◌≤◌, ◌<◌, arith, length, take}
use Rattle.std.proofs.Common.{drop, Option, Some, None, Result, Ok, Err, IsOk, IsErr, OnOk, [], append-nil, take_all}
use Rattle.std.proofs.Common.{length-drop, take_at, take-add}
use Rattle.std.specs.Io.KnownBytes.{Appends}
use Rattle.std.proofs.KnownBytes.{Appends-trans}
use Rattle.ranges.specs.Settings.{standard}
use Rattle.journal_lines.specs.declared.Fed.{Fed}
use Rattle.journal_lines.specs.declared.Journal.{Journal}
use Rattle.journal_lines.specs.Pieces.{feed, within}
use Rattle.journal_lines.specs.Pieces as Pieces
use Rattle.journal_lines.specs.Parts.{Feeds, Goes, viewed}
use Rattle.journal_lines.proofs.Feeding.{within_some}
use Rattle.journal_lines.proofs.Going.{rest, rest_room}
use Rattle.journal_lines.proofs.Joining.{feed_append}
use Rattle.journal.specs.declared.Failed.{Failed}
use Rattle.journal.specs.Program.{Heard}

-- ---- what went well, or failed

pub where_ok : {A : Type 0} {P : Type 0} (x : Result A Failed) → IsOk x → OnOk x P → P
where_ok (Ok a) o p = p
where_ok (Err e) o p = cc

pub where_err : {A : Type 0} (P : Type 0) (x : Result A Failed) → IsErr x → OnOk x P
where_err P (Ok a) o = cc
where_err P (Err e) o = tt

pub always : {A : Type 0} {P : Type 0} (x : Result A Failed) → P → OnOk x P
always (Ok a) p = p
always (Err e) p = tt

-- ---- the loop

-- nothing more
pub Appends-none : (c : Option (List ℕ)) → Appends c c []
Appends-none None = tt
Appends-none (Some l) = sym (append-nil l)

-- what stands where so many bytes of the piece were answered
pub record Serving (j₀ : Journal) (piece out₀ : List ℕ) (c₀ : Option (List ℕ)) (j : Journal) (at : ℕ) (out : List ℕ)
    (c : Option (List ℕ)) : Type 0 where
  pub goes : Goes j
  pub few : at ≤ length piece
  pub journal : viewed j ≡ (feed standard (viewed j₀) (take at piece)).journal
  pub long : length out ≡ length out₀
  pub room : 80 ≤ length out₀
  pub wrote : Appends c₀ c (feed standard (viewed j₀) (take at piece)).put

pub serve_begins : (piece out : List ℕ) (j : Journal) (c : Option (List ℕ)) → Goes j → 80 ≤ length out
    → Serving j piece out c j 0 out c
unfolding feed
serve_begins piece out j c g h = record {
  goes = g;
  few = omega arith;
  journal = refl;
  long = refl;
  room = h;
  wrote = Appends-none c;
}

-- one call of `feed` on what is left of the piece
module _ (j₀ : Journal) (piece out₀ : List ℕ) (c₀ : Option (List ℕ)) (j : Journal) (at : ℕ) (out : List ℕ)
    (c : Option (List ℕ)) (k : Serving j₀ piece out₀ c₀ j at out c) (is : List ℕ) (j' : Journal) (r : Fed)
    (f : Feeds j (take (length piece - at) (drop at piece)) out is j' r)
    (u : r.used ≡ within standard (length out) (viewed j) (take (length piece - at) (drop at piece)))
    (e : length is ≡ length out) where
  -- the bytes that were fed
  heard : take r.used (take (length piece - at) (drop at piece)) ≡ take r.used (drop at piece)
  heard = ap (take r.used) (rest at piece)

  pub serve_few : at + r.used ≤ length piece
  serve_few =
      let a = f.few in
      let b = ap length (rest at piece) in
      let c = length-drop at piece in
      let d = k.few in
      omega arith

  next : viewed j' ≡ (feed standard (viewed j₀) (take (at + r.used) piece)).journal
  next =
      f.journal
      ∙ ap (λ (l : List ℕ). (feed standard (viewed j) l).journal) heard
      ∙ ap (λ (i : Pieces.Journal). (feed standard i (take r.used (drop at piece))).journal) k.journal
      ∙ sym (ap (λ (g : Pieces.Fed). g.journal)
      (feed_append standard (viewed j₀) (take at piece) (take r.used (drop at piece))))
      ∙ ap (λ (l : List ℕ). (feed standard (viewed j₀) l).journal) (sym (take-add at r.used piece))

  -- the answers to all bytes so far
  written : (feed standard (viewed j₀) (take at piece)).put ++ take r.put is
      ≡ (feed standard (viewed j₀) (take (at + r.used) piece)).put
  written =
      let P = (feed standard (viewed j₀) (take at piece)).put in
      ap (λ (l : List ℕ). P ++ l)
      (ap (take r.put) f.out
      ∙ take_at (feed standard (viewed j) (take r.used (take (length piece - at) (drop at piece)))).put
      (drop r.put out) r.put (sym f.put)
      ∙ ap (λ (l : List ℕ). (feed standard (viewed j) l).put) heard
      ∙ ap (λ (i : Pieces.Journal). (feed standard i (take r.used (drop at piece))).put) k.journal)
      ∙ sym (ap (λ (g : Pieces.Fed). g.put)
      (feed_append standard (viewed j₀) (take at piece) (take r.used (drop at piece))))
      ∙ ap (λ (l : List ℕ). (feed standard (viewed j₀) l).put) (sym (take-add at r.used piece))

  pub serve_less : at < length piece → length piece - (at + r.used) < length piece - at
  serve_less h =
      let x = k.room in
      let y = k.long in
      let a = within_some standard (length out) (omega arith) (viewed j)
      (take (length piece - at) (drop at piece)) (rest_room 1 at piece (omega arith)) in
      omega arith

  -- the answers could not be written
  pub serve_fails : {A : Type 0} (x : Result A Failed) → IsErr x → Heard j₀ piece j' x
  serve_fails (Ok a) n = cc
  serve_fails (Err e) n = record { up_to = at + r.used; few = serve_few; all = tt; journal = next; goes = f.goes }

  -- they were written
  pub serve_turns : (c' : Option (List ℕ)) → Appends c c' (take r.put is)
      → Serving j₀ piece out₀ c₀ j' (at + r.used) is c'
  serve_turns c' a = record {
    goes = f.goes;
    few = serve_few;
    journal = next;
    long = e ∙ k.long;
    room = k.room;
    wrote = subst (Appends c₀ c') written (Appends-trans _ _ _ _ _ k.wrote a);
  }

-- all of the piece was answered
pub serve_ends : (j₀ : Journal) (piece out₀ : List ℕ) (c₀ : Option (List ℕ)) (j : Journal) (at : ℕ) (out : List ℕ)
    (c : Option (List ℕ)) → Serving j₀ piece out₀ c₀ j at out c → length piece ≤ at → (x : Result (Unit {0}) Failed)
    → Heard j₀ piece j x × OnOk x (Appends c₀ c (feed standard (viewed j₀) piece).put)
serve_ends j₀ piece out₀ c₀ j at out c k h x =
    let w = subst (λ (l : List ℕ). Appends c₀ c (feed standard (viewed j₀) l).put) (take_all at piece h) k.wrote in
    let all = always x (let f = k.few in omega arith) in
    (record { up_to = at; few = k.few; all = all; journal = k.journal; goes = k.goes }, always x w)
