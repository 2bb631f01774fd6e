-- What a read answered, and what all reads come to. Assumes nothing.
use Rattle.std.proofs.Common.{◌≡◌, refl, ap, sym, ◌∙◌, subst, Bool, true, false, inl, inr, List, [], ◌++◌, ℕ}
use Rattle.std.proofs.Common.{zero, suc, ◌≤◌, ◌<◌, arith, ltb-true, ltb-false, length, take, Option, Result, Ok}
use Rattle.std.proofs.Common.{Err, IfOk, OnOk, take_all}
use Rattle.std.specs.declared.io.Error.{Error}
use Rattle.std.specs.Io.KnownBytes.{Appends, Consumes, ReadConsumes}
use Rattle.std.proofs.KnownBytes.{Appends-trans, Consumes-trans}
use Rattle.ranges.specs.Settings.{standard}
use Rattle.journal_lines.specs.declared.Journal.{Journal}
use Rattle.journal_lines.specs.Pieces.{feed}
use Rattle.journal_lines.specs.Pieces as Pieces
use Rattle.journal_lines.specs.Parts.{Goes, viewed}
use Rattle.journal_lines.proofs.Joining.{feed_append}
use Rattle.journal.specs.declared.Failed.{Failed}
use Rattle.journal.specs.Program.{Moved, Read, Reads, Took, came}
use Rattle.journal.proofs.Serving.{Appends-none}

-- ---- one read

-- nothing more was heard
as_before : (j j' : Journal) → Goes j → j' ≡ j → Reads j j'
unfolding feed
as_before j j' g e = record {
  bytes = [];
  journal = ap viewed e;
  goes = subst (λ (i : Journal). Goes i) (sym e) g;
}

-- the journal after some bytes more
onward : (j : Journal) (buffer : List ℕ) (j' : Journal) (r : Result Bool Failed) → Goes j → (got : Result ℕ Error)
    → Took j got buffer j' r → Reads j j'
unfolding feed
onward j buffer j' r g (Err e) t = as_before j j' g t.0
onward j buffer j' r g (Ok zero) t = as_before j j' g t.0
onward j buffer j' r g (Ok (suc n)) t =
    record { bytes = take t.0.up_to (take (suc n) buffer); journal = t.0.journal; goes = t.0.goes }

-- there is more to read: a line may still be read
some_left : (j : Journal) (buffer : List ℕ) (j' : Journal) (more : Bool) → more ≡ true → (got : Result ℕ Error)
    → Took j got buffer j' (Ok more) → 0 < j'.left
some_left j buffer j' more m (Err e) t = cc
some_left j buffer j' more m (Ok zero) t = cc
some_left j buffer j' more m (Ok (suc n)) t = ltb-true 0 j'.left (sym t.1 ∙ m)

-- nothing was given: nothing is answered
pub nothing : (c : Option (List ℕ)) (j : Journal) (got : Result ℕ Error) (buffer : List ℕ) (n : ℕ) → got ≡ Ok n → n ≡ 0
    → Appends c c (feed standard (viewed j) (came got buffer)).put
unfolding feed
nothing c j got buffer n e z =
    subst (λ (x : List ℕ). Appends c c (feed standard (viewed j) x).put)
    (sym (ap (λ (x : Result ℕ Error). came x buffer) e ∙ ap (λ (m : ℕ). take m buffer) z)) (Appends-none c)

-- what a read took from the input and put into the output
pub moves : (j : Journal) (got : Result ℕ Error) (buffer : List ℕ) (j' : Journal) (r : Result Bool Failed)
    → Took j got buffer j' r → (i i' : Option (List ℕ)) → ReadConsumes i i' got buffer → (c c' : Option (List ℕ))
    → OnOk r (Appends c c' (feed standard (viewed j) (came got buffer)).put)
    → IfOk r (λ more. Moved j (length buffer) i i' c c' j' more)
unfolding feed
moves j got buffer j' (Err e) t i i' k c c' a = tt
moves j (Err e) buffer j' (Ok more) t i i' k c c' a = cc
moves j (Ok zero) buffer j' (Ok more) t i i' k c c' a = record {
  bytes = [];
  read = k.0;
  wrote = a;
  journal = ap viewed t.0;
  ends = λ m h. inr (k.1 refl h);
}
moves j (Ok (suc n)) buffer j' (Ok more) t i i' k c c' a = record {
  bytes = take (suc n) buffer;
  read = k.0;
  wrote = a;
  journal = t.0.journal
      ∙ ap (λ (l : List ℕ). (feed standard (viewed j) l).journal)
      (take_all t.0.up_to (take (suc n) buffer) (let e = t.0.all in omega arith));
  ends = λ m h. inl (let e = ltb-false 0 j'.left (sym t.1 ∙ m) in omega arith);
}

-- ---- all reads

-- what stands between two reads
pub record Reading (j₀ : Journal) (buffer₀ out₀ : List ℕ) (i₀ c₀ : Option (List ℕ)) (buffer out : List ℕ)
    (i c : Option (List ℕ)) (j : Journal) : Type 0 where
  pub goes : Goes j
  pub some : 0 < j.left
  pub bytes : List ℕ
  pub journal : viewed j ≡ (feed standard (viewed j₀) bytes).journal
  pub buffers : length buffer ≡ length buffer₀
  pub outs : length out ≡ length out₀
  pub room : 80 ≤ length out₀
  pub read : Consumes i₀ i bytes
  pub wrote : Appends c₀ c (feed standard (viewed j₀) bytes).put

Consumes-none : (i : Option (List ℕ)) → Consumes i i []
Consumes-none Option.None = tt
Consumes-none (Option.Some l) = refl

pub read_begins : (j : Journal) (buffer out : List ℕ) (i c : Option (List ℕ)) → Goes j → 0 < j.left → 80 ≤ length out
    → Reading j buffer out i c buffer out i c j
unfolding feed
read_begins j buffer out i c g l r = record {
  goes = g;
  some = l;
  bytes = [];
  journal = refl;
  buffers = refl;
  outs = refl;
  room = r;
  read = Consumes-none i;
  wrote = Appends-none c;
}

module _ (j₀ : Journal) (buffer₀ out₀ : List ℕ) (i₀ c₀ : Option (List ℕ)) (buffer out : List ℕ)
    (i c : Option (List ℕ)) (j : Journal) (k : Reading j₀ buffer₀ out₀ i₀ c₀ buffer out i c j) where
  -- some bytes more
  then : (l : List ℕ) → (feed standard (viewed j) l).journal ≡ (feed standard (viewed j₀) (k.bytes ++ l)).journal
  then l =
      ap (λ (v : Pieces.Journal). (feed standard v l).journal) k.journal
      ∙ sym (ap (λ (f : Pieces.Fed). f.journal) (feed_append standard (viewed j₀) k.bytes l))

  then_put : (l : List ℕ) → (feed standard (viewed j₀) k.bytes).put ++ (feed standard (viewed j) l).put
      ≡ (feed standard (viewed j₀) (k.bytes ++ l)).put
  then_put l =
      ap (λ (v : Pieces.Journal). (feed standard (viewed j₀) k.bytes).put ++ (feed standard v l).put) k.journal
      ∙ sym (ap (λ (f : Pieces.Fed). f.put) (feed_append standard (viewed j₀) k.bytes l))

  module _ (j' : Journal) (i' c' : Option (List ℕ)) where
    pub read_turns : (more : Bool) → more ≡ true → (is outs : List ℕ) → Read j is j' (Ok more)
        → Moved j (length buffer) i i' c c' j' more
        → length is ≡ length buffer → length outs ≡ length out → Reading j₀ buffer₀ out₀ i₀ c₀ is outs i' c' j'
    read_turns more t is outs m n b f = record {
      goes = (onward j is j' (Ok more) k.goes m.got m.took).goes;
      some = some_left j is j' more t m.got m.took;
      bytes = k.bytes ++ n.bytes;
      journal = n.journal ∙ then n.bytes;
      buffers = b ∙ k.buffers;
      outs = f ∙ k.outs;
      room = k.room;
      read = Consumes-trans _ _ _ _ _ k.read n.read;
      wrote = subst (Appends c₀ c') (then_put n.bytes) (Appends-trans _ _ _ _ _ k.wrote n.wrote);
    }

    pub all_moved : (more : Bool) → more ≡ false → Moved j (length buffer) i i' c c' j' more
        → Moved j₀ (length buffer₀) i₀ i' c₀ c' j' false
    all_moved more t n = record {
      bytes = k.bytes ++ n.bytes;
      read = Consumes-trans _ _ _ _ _ k.read n.read;
      wrote = subst (Appends c₀ c') (then_put n.bytes) (Appends-trans _ _ _ _ _ k.wrote n.wrote);
      journal = n.journal ∙ then n.bytes;
      ends = λ e h. n.ends t (let l = k.buffers in omega arith);
    }

  pub read_reads : (j' : Journal) (is : List ℕ) (r : Result Bool Failed) → Read j is j' r → Reads j₀ j'
  read_reads j' is r m =
      let o = onward j is j' r k.goes m.got m.took in
      record { bytes = k.bytes ++ o.bytes; journal = o.journal ∙ then o.bytes; goes = o.goes }
