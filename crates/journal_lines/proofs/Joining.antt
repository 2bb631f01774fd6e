-- However an input is cut into pieces, what is written is the output of the whole input. Assumes nothing.
use mathlib.Core.Path.{◌≡◌, refl, ap, sym, ◌∙◌}
use mathlib.Core.Bool.{Bool, true, false}
use mathlib.Core.List.{List, [], ◌∷◌, ◌++◌, append_assoc, append-nil}
use mathlib.Core.Option.{Option, none, some}
use Prim.Native.Nat.{ℕ, zero, suc, ◌≤◌, ◌<◌}
use native.Mathlib.Omega.{arith}
use lib.Dec.{eqb, ltb}
use lib.ListN.{length, take, length-append}
use lib.Seq.{take_all, length-take-le, take-append-le}
use borrow.Author.Tests.{ltb-true, ltb-false, lt-ltb}
use Rattle.ranges.specs.Settings.{Settings}
use Rattle.station_model.specs.Station.{Station}
use Rattle.std.specs.Prelude.{None}
use Rattle.line_in.specs.Form.{entry}
use Rattle.line_out.specs.Shown.{line}
use Rattle.journal_lines.specs.Journal.{answer, bad}
use Rattle.journal_lines.specs.Whole.{Row, before, rows, answers, most, output}
use Rattle.journal_lines.specs.Pieces.{Journal, Fed, start, hold, byte, feed, end, written, joined, Joins}

-- ---- the lines of an input

-- a line that is not ended: no newline is in it
unfoldable pub Open : List ℕ → Type 0
Open [] = Unit {0}
Open (b ∷ l) = (eqb b 10 ≡ false) × Open l

open_none : Open []
unfolding Open
open_none = tt

rows_ended : (p : List ℕ) → Open p → (b : ℕ) → eqb b 10 ≡ true → (l : List ℕ)
    → rows (p ++ b ∷ l) ≡ record { bytes = p; ended = true } ∷ rows l
unfolding rows Open
rows_ended [] o b e l = rw e
rows_ended (x ∷ p) o b e l = rw o.0 (ap (before x) (rows_ended p o.1 b e l))

rows_open : (x : ℕ) (p : List ℕ) → Open (x ∷ p) → rows (x ∷ p) ≡ record { bytes = x ∷ p; ended = false } ∷ []
unfolding rows Open
rows_open x [] o = rw o.0
rows_open x (y ∷ p) o = rw o.0 (ap (before x) (rows_open y p o.1))

open_more : (p : List ℕ) (b : ℕ) → Open p → eqb b 10 ≡ false → Open (p ++ (b ∷ []))
unfolding Open
open_more [] b o e = (e, tt)
open_more (x ∷ p) b o e = (o.0, open_more p b o.1 e)

-- ---- what is held of a line: 80 bytes of it at most

hold_short : (p : List ℕ) (b : ℕ) → length p < 80 → hold (take 80 p) b ≡ take 80 (p ++ (b ∷ []))
hold_short p b h =
    rw (take_all 80 p (omega arith), lt-ltb (length p) 80 h)
    (sym (take_all 80 (p ++ (b ∷ [])) (let e = length-append p (b ∷ []) in omega arith)))

hold_long : (p : List ℕ) (b : ℕ) → 80 ≤ length p → hold (take 80 p) b ≡ take 80 (p ++ (b ∷ []))
hold_long p b h = rw (length-take-le 80 p h) (sym (take-append-le 80 p (b ∷ []) h))

pub hold_take : (p : List ℕ) (b : ℕ) → hold (take 80 p) b ≡ take 80 (p ++ (b ∷ []))
hold_take p b = go (ltb (length p) 80) refl
  where
    go : (c : Bool) → ltb (length p) 80 ≡ c → hold (take 80 p) b ≡ take 80 (p ++ (b ∷ []))
    go true e = hold_short p b (ltb-true (length p) 80 e)
    go false e = hold_long p b (ltb-false (length p) 80 e)

-- a longer line is bad, as what is held of it is
long_bad : (l : List ℕ) → 79 < length l → entry l ≡ None
unfolding entry
long_bad l h = rw (lt-ltb 79 (length l) h)

pub entry_take : (p : List ℕ) → entry (take 80 p) ≡ entry p
entry_take p = go (ltb (length p) 80) refl
  where
    go : (c : Bool) → ltb (length p) 80 ≡ c → entry (take 80 p) ≡ entry p
    go true e = let h = ltb-true (length p) 80 e in ap entry (take_all 80 p (omega arith))
    go false e =
        let h = ltb-false (length p) 80 e in
        let t = length-take-le 80 p h in
        long_bad (take 80 p) (omega arith) ∙ sym (long_bad p (omega arith))

-- ---- the pieces, joined

pub feed_append : (k : Settings) (j : Journal) (a b : List ℕ)
    → feed k j
    (a ++ b) ≡ record {
      journal = (feed k (feed k j a).journal b).journal;
      put = (feed k j a).put
          ++ (feed k (feed k j a).journal b).put;
    }
unfolding feed
feed_append k j [] b = refl
feed_append k j (x ∷ a) b =
    let h = feed_append k (byte k j x).journal a b in
    rw h
    (ap (λ (l : List ℕ). record { journal = (feed k (feed k (byte k j x).journal a).journal b).journal; put = l })
    (sym (append_assoc (byte k j x).put (feed k (byte k j x).journal a).put _)))

take-nil : (n : ℕ) → take {A = Row} n [] ≡ []
take-nil zero = refl
take-nil (suc n) = refl

module _ (k : Settings) where
  abbrev pub all_of : Journal → List ℕ → List ℕ
  all_of j l = (feed k j l).put ++ end (feed k j l).journal

  written_joined : (j : Journal) (ps : List (List ℕ)) → written k j ps ≡ all_of j (joined ps)
  unfolding written joined feed
  written_joined j [] = refl
  written_joined j (p ∷ ps) =
      ap (λ (l : List ℕ). (feed k j p).put ++ l) (written_joined (feed k j p).journal ps)
      ∙ sym (append_assoc (feed k j p).put (feed k (feed k j p).journal (joined ps)).put _)
      ∙ ap (λ (f : Fed). f.put ++ end f.journal) (sym (feed_append k j p (joined ps)))

  -- where no line may be read any more
  spent : (s : Option Station) (l : List ℕ) → all_of (record { station = s; held = []; left = 0 }) l ≡ []
  unfolding feed
  spent s [] = refl
  spent s (b ∷ l) = spent s l

  pub bad_said : (s : Option Station) → answer k s None ≡ bad s
  bad_said none = refl
  bad_said (some s) = refl

  -- the line that is held is p
  abbrev Reads : ℕ → Option Station → List ℕ → List ℕ → Type 0
  Reads n s p l = all_of (record { station = s; held = take 80 p; left = n }) l ≡ answers k s (take n (rows (p ++ l)))

  at_end : (n : ℕ) (s : Option Station) (p : List ℕ) → Open p → Reads (suc n) s p []
  unfolding feed rows answers
  at_end n s [] o = refl
  at_end n s (x ∷ p) o = rw (append-nil p, rows_open x p o, bad_said s, take-nil n) (sym (append-nil _))

  -- one byte
  turned : (j : Journal) (b : ℕ) (l : List ℕ) (f : Fed) → byte k j b ≡ f
      → all_of j (b ∷ l) ≡ f.put ++ all_of f.journal l
  unfolding feed
  turned j b l f e =
      append_assoc (byte k j b).put (feed k (byte k j b).journal l).put (end (feed k (byte k j b).journal l).journal)
      ∙ ap (λ (g : Fed). g.put ++ all_of g.journal l) e

  at_newline : (n : ℕ) (s : Option Station) (p : List ℕ) → Open p → (b : ℕ) → eqb b 10 ≡ true → (l : List ℕ)
      → ((t : Option Station) → Reads n t [] l) → Reads (suc n) s p (b ∷ l)
  unfolding answers
  at_newline n s p o b e l below =
      let t = answer k s (entry p) in
      turned (record { station = s; held = take 80 p; left = suc n }) b l
      (record { journal = record { station = t.station; held = []; left = n }; put = line t.shown })
      (rw (e, entry_take p))
      ∙ ap (λ (r : List ℕ). line t.shown ++ r) (below t.station)
      ∙ sym (ap (λ (w : List Row). answers k s (take (suc n) w)) (rows_ended p o b e l))

  at_byte : (n : ℕ) (s : Option Station) (p : List ℕ) (b : ℕ) → eqb b 10 ≡ false → (l : List ℕ)
      → Reads (suc n) s (p ++ (b ∷ [])) l → Reads (suc n) s p (b ∷ l)
  at_byte n s p b e l below =
      turned (record { station = s; held = take 80 p; left = suc n }) b l
      (record { journal = record { station = s; held = take 80 (p ++ (b ∷ [])); left = suc n }; put = [] })
      (rw (e, hold_take p b))
      ∙ below
      ∙ ap (λ (q : List ℕ). answers k s (take (suc n) (rows q))) (append_assoc p (b ∷ []) l)

  -- after a newline
  reads_on : (l : List ℕ) → ((m : ℕ) (t : Option Station) → Reads (suc m) t [] l) → (n : ℕ) (s : Option Station)
      → Reads n s [] l
  unfolding answers
  reads_on l below zero s = spent s l
  reads_on l below (suc n) s = below n s

  reads : (l : List ℕ) (n : ℕ) (s : Option Station) (p : List ℕ) → Open p → Reads (suc n) s p l
  reads [] n s p o = at_end n s p o
  reads (b ∷ l) n s p o = go (λ m t q r. reads l m t q r) (eqb b 10) refl
    where
      go : ((m : ℕ) (t : Option Station) (q : List ℕ) → Open q → Reads (suc m) t q l) → (c : Bool) → eqb b 10 ≡ c
          → Reads (suc n) s p (b ∷ l)
      go below true e = at_newline n s p o b e l (reads_on l (λ m t. below m t [] open_none) n)
      go below false e = at_byte n s p b e l (below n s (p ++ (b ∷ [])) (open_more p b o e))

  -- the whole input at once
  pub output_is : (input : List ℕ) → all_of start input ≡ output k input
  output_is input = reads_on input (λ m t. reads input m t [] open_none) most none

  pub whole_output : Joins k
  whole_output = record { whole = λ ps. written_joined start ps ∙ output_is (joined ps) }
