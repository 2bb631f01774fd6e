-- The loop over the lines of a piece. Assumes nothing.
use mathlib.Core.Path.{◌≡◌, refl, ap, sym, ◌∙◌, subst}
use mathlib.Core.Bool.{Bool, true, false}
use mathlib.Core.List.{List, [], ◌++◌, append_assoc, append-nil}
use Prim.Native.Nat.{ℕ, zero, suc, ◌+◌, ◌-◌, ◌*◌, ◌^◌, ◌≤◌, ◌<◌}
use native.Mathlib.Omega.{arith}
use native.Mathlib.Nat.{sub-zero, zero-add, add-zero, mul-one}
use borrow.Author.Tests.{leb-false}
use lib.Dec.{leb}
use lib.ListN.{length, take, drop, length-append, length-drop, drop_of_length-le, take-append-drop}
use lib.Seq.{length-take-le, take_all, take-add, take_at, drop_at, drop-drop}
use mir.Syntax.{w64}
use mir.Val.{Fits}
use borrow.Rule.Slice.PartMut.{put_mid}
use Rattle.ranges.specs.Settings.{standard}
use Rattle.line_in.specs.declared.Entry.{Entry}
use Rattle.line_in.specs.Form.{entry}
use Rattle.station.specs.declared.Station.{Station}
use Rattle.std.specs.Prelude.{Option, Some, None, cond}
use Rattle.line_out.specs.declared.bytes.Bytes.{Bytes}
use Rattle.line_out.specs.Bytes.{contents}
use Rattle.journal_lines.specs.declared.Fed.{Fed}
use Rattle.journal_lines.specs.declared.Journal.{Journal}
use Rattle.line_out.specs.declared.Shown.{Shown}
use Rattle.journal_lines.specs.Journal.{Turn, answer}
use Rattle.journal_lines.specs.Pieces.{feed, within}
use Rattle.journal_lines.specs.Pieces as Pieces
use Rattle.journal_lines.specs.Parts.{Answered, Feeds, Gathers, Goes, newline_at, reading, taken_at, viewed}
use Rattle.journal_lines.proofs.Joining.{feed_append}
use Rattle.journal_lines.proofs.Feeding.{taken_few, taken_some, within_full}
use Rattle.journal_lines.proofs.Answering.{Writes}
use Rattle.journal_lines.proofs.Advancing.{Advances, advance_part, advance_line, waits}

abbrev pub at : ℕ → ℕ → Fed
at used put = record { used = used; put = put }

-- a part to the end is what is dropped to
pub rest : (n : ℕ) (l : List ℕ) → take (length l - n) (drop n l) ≡ drop n l
rest n l = take_all (length l - n) (drop n l) (let e = length-drop n l in omega arith)

-- and nothing stands behind it
behind : (n : ℕ) (l : List ℕ) → drop (length l - n) (drop n l) ≡ []
behind n l = drop_of_length-le (drop n l) {i = length l - n} (let e = length-drop n l in omega arith)

pub rest_room : (n m : ℕ) (l : List ℕ) → n ≤ length l - m → n ≤ length (take (length l - m) (drop m l))
rest_room n m l h = let e = ap length (rest m l) ∙ length-drop m l in omega arith

-- each turn takes a byte at least, and no more than there are
pub less : (piece : List ℕ) (used n : ℕ) → used < length piece
    → (0 < length (take (length piece - used) (drop used piece)) → 0 < n)
    → length piece - (used + n) < length piece - used
less piece used n h f = let g = f (rest_room 1 used piece (omega arith)) in omega arith

pub within_size : (l : List ℕ) (n : ℕ) → n ≤ length l → length l * 1 < 2 ^ 63 → Fits w64 n
within_size l n h g = record { fits = (let e = mul-one (length l) in omega arith) }

took_some : (left : ℕ) (l : List ℕ) (n : ℕ) → Some n ≡ cond (newline_at left l) (Some (taken_at left l)) None
    → (0 < left) × (0 < length l → 0 < n) × (n ≤ length l)
took_some zero l n e = cc
took_some (suc m) l n e = of (newline_at (suc m) l) refl e
  where
    of : (t : Bool) → newline_at (suc m) l ≡ t → Some n ≡ cond t (Some (taken_at (suc m) l)) None
        → (0 < suc m) × (0 < length l → 0 < n) × (n ≤ length l)
    of false w q = cc
    of true w q =
        let u : n ≡ taken_at (suc m) l = cc in
        (omega arith, λ h. (let t = taken_some l h in omega arith), (let t = taken_few l in omega arith))

-- what was fed, and then the rest
feeds_more : (j₀ j : Journal) (piece was is : List ℕ) (used put : ℕ) → Feeds j₀ piece was is j (at used put)
    → (more : List ℕ) (j' : Journal) (r : Fed) → Feeds j (drop used piece) (drop put is) more j' r
    → Feeds j₀ piece was (take put is ++ more) j' (at (used + r.used) (put + r.put))
feeds_more j₀ j piece was is used put f more j' r g =
    let P = feed standard (viewed j₀) (take used piece) in
    let Q = feed standard (viewed j) (take r.used (drop used piece)) in
    let whole : feed standard (viewed j₀)
    (take (used + r.used) piece) ≡ record { journal = Q.journal; put = P.put ++ Q.put } =
    ap (feed standard (viewed j₀)) (take-add used r.used piece)
    ∙ feed_append standard (viewed j₀) (take used piece) (take r.used (drop used piece))
    ∙ ap
    (λ (x : Pieces.Journal). record {
      journal = (feed standard x (take r.used (drop used piece))).journal;
      put = P.put
          ++ (feed standard x (take r.used (drop used piece))).put;
    })
    (sym f.journal) in
    let front : take put is ≡ P.put = ap (take put) f.out ∙ take_at P.put (drop put was) put (sym f.put) in
    let behind : drop put is ≡ drop put was = ap (drop put) f.out ∙ drop_at P.put (drop put was) put (sym f.put) in
    let rest : more ≡ Q.put ++ drop (put + r.put) was =
    g.out ∙ ap (λ (l : List ℕ). Q.put ++ drop r.put l) behind
    ∙ ap (λ (l : List ℕ). Q.put ++ l) (drop-drop r.put put was) in
    record {
      few = (let a = f.few in let b = g.few in let c = length-drop used piece in omega arith);
      journal = g.journal ∙ sym (ap (λ (x : Pieces.Fed). x.journal) whole);
      put =
          (let a = f.put in let b = g.put in let c = length-append P.put Q.put in omega arith)
          ∙ sym (ap (λ (x : Pieces.Fed). length x.put) whole);
      out =
          ap (λ (l : List ℕ). l ++ more) front ∙ ap (λ (l : List ℕ). P.put ++ l) rest
          ∙ sym (append_assoc P.put Q.put (drop (put + r.put) was))
          ∙ sym (ap (λ (x : Pieces.Fed). x.put ++ drop (put + r.put) was) whole);
      goes = g.goes;
    }

-- what stands where so many bytes were used and so many put
pub record Going (j₀ : Journal) (piece was : List ℕ) (j : Journal) (used put : ℕ) (is : List ℕ) : Type 0 where
  pub feeds : Feeds j₀ piece was is j (at used put)
  pub room : put ≤ length was
  pub long : length is ≡ length was
  pub onward : within standard (length was) (viewed j₀) piece
      ≡ used + within standard (length was - put) (viewed j) (drop used piece)

pub go_begins : (j : Journal) (piece was : List ℕ) → Goes j → Going j piece was j 0 0 was
unfolding feed
go_begins j piece was g = record {
  feeds = record { few = omega arith; journal = refl; put = refl; out = refl; goes = g };
  room = omega arith;
  long = refl;
  onward = ap (λ (n : ℕ). within standard n (viewed j) piece) (sym (sub-zero (length was))) ∙ sym (zero-add _);
}

pub go_turns : (j₀ : Journal) (piece was : List ℕ) (j : Journal) (used put : ℕ) (is : List ℕ)
    → Going j₀ piece was j used put is → 80 ≤ length was - put → (more : List ℕ) (j' : Journal) (r : Fed)
    → Advances j (drop used piece) (drop put is) more j' r
    → Going j₀ piece was j' (used + r.used) (put + r.put) (take put is ++ more)
go_turns j₀ piece was j used put is k h more j' r a =
    let Q = feed standard (viewed j) (take r.used (drop used piece)) in
    let more_Room = a.room in
    let room = k.room in
    let long = k.long in
    let left : length was - put - r.put ≡ length was - (put + r.put) = omega arith in
    let much : length more ≡ length is - put =
    ap length a.feeds.out ∙ length-append Q.put (drop r.put (drop put is))
    ∙ (let x = a.feeds.put in let y = length-drop r.put (drop put is) in let z = length-drop put is in omega arith) in
    record {
      feeds = feeds_more j₀ j piece was is used put k.feeds more j' r a.feeds;
      room = (let z = length-drop put is in omega arith);
      long = length-append (take put is) more ∙ (let x = length-take-le put is (omega arith) in omega arith);
      onward = k.onward
          ∙ ap (λ (n : ℕ). used + n) (a.onward (length was - put) h)
          ∙ ap (λ (n : ℕ). used + (r.used + within standard n (viewed j') (drop r.used (drop used piece)))) left
          ∙ ap (λ (l : List ℕ). used + (r.used + within standard (length was - (put + r.put)) (viewed j') l))
          (drop-drop r.used used piece)
          ∙ omega arith;
    }

-- the same, of the parts that were lent
pub go_lent : (j₀ : Journal) (piece was : List ℕ) (j : Journal) (used put : ℕ) (is : List ℕ)
    → Going j₀ piece was j used put is → 80 ≤ length is - put → (more : List ℕ) (j' : Journal) (r : Fed)
    → Advances j (take (length piece - used) (drop used piece)) (take (length is - put) (drop put is)) more j' r
    → Going j₀ piece was j' (used + r.used) (put + r.put) (put_mid put (length is - put) is more)
go_lent j₀ piece was j used put is k h more j' r a =
    let long = k.long in
    subst (Going j₀ piece was j' (used + r.used) (put + r.put))
    (ap (λ (l : List ℕ). take put is ++ l)
    (sym (append-nil more) ∙ ap (λ (l : List ℕ). more ++ l) (sym (behind put is))))
    (go_turns j₀ piece was j used put is k (omega arith) more j' r
    (subst (λ (l : List ℕ). Advances j (drop used piece) l more j' r) (rest put is)
    (subst (λ (l : List ℕ). Advances j l (take (length is - put) (drop put is)) more j' r) (rest used piece) a)))

pub go_stops : (j₀ : Journal) (piece was : List ℕ) (j : Journal) (used put : ℕ) (is : List ℕ)
    → Going j₀ piece was j used put is → leb 80 (length is - put) ≡ false
    → used ≡ within standard (length was) (viewed j₀) piece
go_stops j₀ piece was j used put is k e =
    let h = leb-false 80 (length is - put) e in
    let long = k.long in
    sym
    (k.onward ∙ ap (λ (n : ℕ). used + n)
    (within_full standard (length was - put) (omega arith) (viewed j) (drop used piece)) ∙ omega arith)

pub go_ends : (j₀ : Journal) (piece was : List ℕ) (j : Journal) (used put : ℕ) (is : List ℕ)
    → Going j₀ piece was j used put is → length piece ≤ used → used ≡ within standard (length was) (viewed j₀) piece
unfolding within
go_ends j₀ piece was j used put is k h = sym (k.onward ∙ rw (drop_of_length-le piece {i = used} h) (omega arith))

-- a line is answered, and nothing of it is held any more
pub record Turned (j j' : Journal) (v : Shown) (t : Turn) : Type 0 where
  pub answered : Answered j'.station v t
  pub held : contents j'.held ≡ []
  pub left : j'.left ≡ j.left - 1

-- j₁ is the journal with its line taken out
pub turned_other : (j j₁ : Journal) (h : Bytes 80) (e : Option Entry) (s : Option Station) (v : Shown)
    → j₁ ≡ record { station = j.station; held = h; left = j.left - 1 } → contents h ≡ []
    → Answered s v (answer standard (reading j₁.station) e)
    → Turned j (record { station = s; held = j₁.held; left = j₁.left }) v (answer standard (reading j.station) e)
turned_other j j₁ h e s v i n a = record {
  answered = subst (λ (x : Journal). Answered s v (answer standard (reading x.station) e)) i a;
  held = ap (λ (x : Journal). contents x.held) i ∙ n;
  left = ap (λ (x : Journal). x.left) i;
}

-- ---- one turn: what a piece's next bytes were gathered to

module _ (j₀ : Journal) (piece was : List ℕ) (j : Journal) (used put : ℕ) (is : List ℕ)
    (k : Going j₀ piece was j used put is) (h : 80 ≤ length is - put) (v : Bytes 80) where
  -- the line is not ended
  module _ (m : Gathers j.left (contents j.held) (take (length piece - used) (drop used piece)) (contents v) None) where
    pub go_part : Going j₀ piece was (waits j piece was v) (length piece) put is
    go_part =
        let long = k.long in
        let few = k.feeds.few in
        let all : used + length (drop used piece) ≡ length piece = omega (arith, length-drop used piece) in
        let a =
        advance_part j (drop used piece) (drop put is) v
        (subst (λ (l : List ℕ). Gathers j.left (contents j.held) l (contents v) None) (rest used piece) m)
        k.feeds.goes in
        subst (λ (n : ℕ). Going j₀ piece was (waits j piece was v) n put is) all
        (subst (λ (n : ℕ). Going j₀ piece was (waits j piece was v) (used + length (drop used piece)) n is)
        (add-zero put)
        (subst (λ (l : List ℕ). Going j₀ piece was (waits j piece was v) (used + length (drop used piece)) (put + 0) l)
        (take-append-drop put is)
        (go_turns j₀ piece was j used put is k (omega arith) (drop put is) _ _ a)))

  -- it is, and its answer was written
  module _ (n : ℕ)
      (m : Gathers j.left (contents j.held) (take (length piece - used) (drop used piece)) (contents v) (Some n)) where
    pub go_line : (more : List ℕ) (j' : Journal) → contents j'.held ≡ [] → j'.left ≡ j.left - 1 → (p : ℕ)
        → Writes j'.station p (take (length is - put) (drop put is)) more
        (answer standard (reading j.station) (entry (contents v)))
        → Going j₀ piece was j' (used + n) (put + p) (put_mid put (length is - put) is more)
    go_line more j' e l p w =
        subst
        (λ (x : ℕ). Going j₀ piece was (record { station = j'.station; held = j'.held; left = x }) (used + n) (put + p)
        (put_mid put (length is - put) is more))
        (sym l)
        (go_lent j₀ piece was j used put is k h more _ _
        (advance_line j (take (length piece - used) (drop used piece))
        (take (length is - put) (drop put is)) v more j'.station j'.held e n p w m))

    some : (0 < j.left) × (0 < length (take (length piece - used) (drop used piece)) → 0 < n)
        × (n ≤ length (take (length piece - used) (drop used piece)))
    some = took_some j.left (take (length piece - used) (drop used piece)) n m.took

    -- a turn takes a byte at least
    pub go_less : used < length piece → length piece - (used + n) < length piece - used
    go_less u = less piece used n u some.1

    pub go_few : used + n ≤ length piece
    go_few =
        let a = some.2 in let b = ap length (rest used piece) ∙ length-drop used piece in let c = k.feeds.few in
        omega arith
