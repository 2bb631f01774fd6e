-- The end of the input: what is written then, and what the whole run is. Assumes nothing.
use Rattle.std.proofs.Common.{◌≡◌, refl, ap, sym, ◌∙◌, subst, false, List, [], ◌∷◌, ◌++◌, append-nil, ℕ, ◌<◌}
use Rattle.std.proofs.Common.{◌⊎◌, inl, inr, Option, Some, None, Result, Ok, Err, OnOk, length, take, drop}
use Rattle.std.proofs.Common.{take_at}
use Rattle.std.specs.Io.KnownBytes.{Appends, Consumes, IsAtEnd}
use Rattle.std.proofs.KnownBytes.{Appends-trans}
use Rattle.ranges.specs.Settings.{Settings, standard}
use Rattle.line_out.specs.Written.{over}
use Rattle.journal_lines.specs.declared.Journal.{Journal}
use Rattle.journal_lines.specs.Whole.{output}
use Rattle.journal_lines.specs.Pieces.{end, feed, start}
use Rattle.journal_lines.specs.Pieces as Pieces
use Rattle.journal_lines.specs.Parts.{viewed}
use Rattle.journal_lines.proofs.Joining.{feed_append, output_is}
use Rattle.journal.specs.declared.Failed.{Failed}
use Rattle.journal.specs.Program.{Moved, Reads, Serves, Whole}

-- ---- the whole run

-- where no line may be read any more, a byte more changes nothing and is not answered
spent : (k : Settings) (j : Pieces.Journal) → j.left ≡ 0 → (l : List ℕ) → feed k j l ≡ record { journal = j; put = [] }
unfolding feed
spent k j e [] = refl
spent k j e (b ∷ l) = ap (λ (n : ℕ). feed_on (Pieces.read k j n b)) e ∙ spent k j e l
  where
    feed_on : Pieces.Fed → Pieces.Fed
    feed_on f = let r = feed k f.journal l in record { journal = r.journal; put = f.put ++ r.put }

module _ (k : Settings) (bytes : List ℕ) where
  nothing_lost : (feed k start bytes).journal.left ≡ 0 → (more : List ℕ) → output k (bytes ++ more) ≡ output k bytes
  nothing_lost e more =
      let f = feed k start bytes in
      sym (output_is k (bytes ++ more))
      ∙ ap (λ (g : Pieces.Fed). g.put ++ end g.journal) (feed_append k start bytes more)
      ∙ ap (λ (g : Pieces.Fed). (f.put ++ g.put) ++ end g.journal) (spent k f.journal e more)
      ∙ ap (λ (l : List ℕ). l ++ end f.journal) (append-nil f.put)
      ∙ output_is k bytes

module _ (first : Journal) (b : viewed first ≡ start) (j : Journal) (r : Reads first j) where
  after : viewed j ≡ (feed standard start r.bytes).journal
  after = r.journal ∙ ap (λ (i : Pieces.Journal). (feed standard i r.bytes).journal) b

  -- it was given up before the end, or the end was written, or could not be
  pub served : (was is : List ℕ) (x : Result (Unit {0}) Failed) → OnOk x (is ≡ over (end (viewed j)) was)
      → Serves j is x
  served was is x o = record {
    bytes = r.bytes;
    journal = after;
    whole = ap (λ (i : Pieces.Journal). (feed standard start r.bytes).put ++ end i) after
        ∙ output_is standard r.bytes;
    spent = λ z. nothing_lost standard r.bytes (sym (ap (λ (i : Pieces.Journal). i.left) after) ∙ z);
    was = was;
    out = o;
  }

  -- all of the input was answered: it was read to its end, or no line may be read any more
  module _ (room : ℕ) (h : 0 < room) (i i' c c' c'' : Option (List ℕ)) (m : Moved first room i i' c c' j false)
      (a : Appends c' c'' (end (viewed j))) where
    its : viewed j ≡ (feed standard start m.bytes).journal
    its = m.journal ∙ ap (λ (i : Pieces.Journal). (feed standard i m.bytes).journal) b

    written : Appends c c'' (output standard m.bytes)
    written =
        subst (λ (l : List ℕ). Appends c c'' l)
        (ap (λ (i : Pieces.Journal). (feed standard i m.bytes).put ++ end (viewed j)) b
        ∙ ap (λ (i : Pieces.Journal). (feed standard start m.bytes).put ++ end i) its
        ∙ output_is standard m.bytes)
        (Appends-trans _ _ _ _ _ m.wrote a)

    whole_of : (x y : Option (List ℕ)) → Consumes x y m.bytes → (j.left ≡ 0) ⊎ IsAtEnd y → Whole x c c''
    whole_of None y k e = tt
    whole_of (Some l) None k e = absurd k
    whole_of (Some l) (Some rest) k (inl e) =
        subst (λ (o : List ℕ). Appends c c'' o)
        (sym (ap (output standard) k
        ∙ nothing_lost standard m.bytes (sym (ap (λ (i : Pieces.Journal). i.left) its) ∙ e) rest)) written
    whole_of (Some l) (Some rest) k (inr e) =
        subst (λ (o : List ℕ). Appends c c'' (output standard o))
        (sym (k ∙ ap (λ (t : List ℕ). m.bytes ++ t) e ∙ append-nil m.bytes)) written

    whole : Whole i c c''
    whole = whole_of i i' m.read (m.ends refl h)

  -- where the end was written too
  pub whole_written : (room : ℕ) → 0 < room → (i i' c c' c'' : Option (List ℕ)) → Moved first room i i' c c' j false
      → (n : ℕ) (was is : List ℕ) → n ≡ length (end (viewed j)) → is ≡ over (end (viewed j)) was
      → (x : Result (Unit {0}) Failed) → OnOk x (Appends c' c'' (take n is)) → OnOk x (Whole i c c'')
  whole_written room h i i' c c' c'' m n was is e o (Ok a) w =
      let t : take n is ≡ end (viewed j) =
      ap (take n) o ∙ take_at (end (viewed j)) (drop (length (end (viewed j))) was) n (sym e) in
      whole room h i i' c c' c'' m (subst (λ (l : List ℕ). Appends c' c'' l) t w)
  whole_written room h i i' c c' c'' m n was is e o (Err x) w = tt
