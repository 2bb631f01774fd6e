-- A piece of the input, line by line: what its bytes do, one after the other. Assumes nothing.
use mathlib.Core.Path.{◌≡◌, refl, ap, sym, ◌∙◌}
use mathlib.Core.Bool.{Bool, true, false, cond, true≢false, false≢true}
use mathlib.Core.List.{List, [], ◌∷◌, ◌++◌, append-nil}
use Prim.Native.Nat.{ℕ, suc, ◌+◌, ◌-◌, ◌≤◌, ◌<◌}
use native.Mathlib.Omega.{arith}
use native.Mathlib.Nat.{sub-zero}
use borrow.Author.Tests.{le-leb, lt-leb}
use lib.Dec.{eqb}
use lib.ListN.{length, take, drop}
use Rattle.ranges.specs.Settings.{Settings}
use Rattle.station_model.proofs.Lists.{by_cond}
use Rattle.journal_lines.specs.Pieces.{Journal, Fed, byte, ended, feed, holding, read, within}
use Rattle.journal_lines.specs.Parts.{has_newline, keeps, up_to_newline}

-- the journal with other bytes held
abbrev pub keeping : Journal → List ℕ → Journal
keeping j h = record { station = j.station; held = h; left = j.left }

-- a newline is not the first byte, and not behind it
other : (b : ℕ) (l : List ℕ) → has_newline (b ∷ l) ≡ false → (eqb b 10 ≡ false) × (has_newline l ≡ false)
unfolding has_newline
other b l q = go (eqb b 10) refl
  where
    go : (c : Bool) → eqb b 10 ≡ c → (eqb b 10 ≡ false) × (has_newline l ≡ false)
    go true w = absurd (true≢false (sym (rw w) ∙ q))
    go false w = (w, sym (rw w) ∙ q)

later : (b : ℕ) (l : List ℕ) → eqb b 10 ≡ false → has_newline (b ∷ l) ≡ true → has_newline l ≡ true
unfolding has_newline
later b l w q = sym (rw w) ∙ q

pub taken_few : (l : List ℕ) → up_to_newline l ≤ length l
unfolding up_to_newline
taken_few [] = omega arith
taken_few (b ∷ l) =
    by_cond (λ (n : ℕ). n ≤ suc (length l)) (eqb b 10) (λ q. omega arith) (λ q. (let h = taken_few l in omega arith))

pub taken_some : (l : List ℕ) → 0 < length l → 0 < up_to_newline l
unfolding up_to_newline
taken_some [] h = h
taken_some (b ∷ l) h = by_cond (λ (n : ℕ). 0 < n) (eqb b 10) (λ q. omega arith) (λ q. omega arith)

pub taken_part : (l : List ℕ) → has_newline l ≡ false → up_to_newline l ≡ length l
unfolding up_to_newline
taken_part [] q = refl
taken_part (b ∷ l) q = let o = other b l q in rw o.0 (ap suc (taken_part l o.1))

module _ (k : Settings) where
  -- ---- one byte

  byte_spent : (j : Journal) (b : ℕ) → j.left ≡ 0 → byte k j b ≡ record { journal = j; put = [] }
  byte_spent j b z = ap (λ (m : ℕ). read k j m b) z

  byte_newline : (j : Journal) (n b : ℕ) → j.left ≡ suc n → eqb b 10 ≡ true → byte k j b ≡ ended k j n
  byte_newline j n b e q = ap (λ (m : ℕ). read k j m b) e ∙ ap (λ (c : Bool). cond c (ended k j n) (holding j b)) q

  byte_other : (j : Journal) (n b : ℕ) → j.left ≡ suc n → eqb b 10 ≡ false → byte k j b ≡ holding j b
  byte_other j n b e q = ap (λ (m : ℕ). read k j m b) e ∙ ap (λ (c : Bool). cond c (ended k j n) (holding j b)) q

  after : Fed → List ℕ → Fed
  after f l = record { journal = (feed k f.journal l).journal; put = f.put ++ (feed k f.journal l).put }

  feed_cons : (j : Journal) (b : ℕ) (l : List ℕ) (f : Fed) → byte k j b ≡ f → feed k j (b ∷ l) ≡ after f l
  unfolding feed after
  feed_cons j b l f e = ap (λ (g : Fed). after g l) e

  within_cons : (room : ℕ) → 80 ≤ room → (j : Journal) (b : ℕ) (l : List ℕ) (f : Fed) → byte k j b ≡ f
      → within k room j (b ∷ l) ≡ suc (within k (room - length f.put) f.journal l)
  unfolding within
  within_cons room h j b l f e =
      rw (le-leb 80 room h) (ap (λ (g : Fed). suc (within k (room - length g.put) g.journal l)) e)

  within_quiet : (room : ℕ) → 80 ≤ room → (j j' : Journal) (b : ℕ) (l : List ℕ)
      → byte k j b ≡ record { journal = j'; put = [] } → within k room j (b ∷ l) ≡ suc (within k room j' l)
  within_quiet room h j j' b l e =
      within_cons room h j b l (record { journal = j'; put = [] }) e
      ∙ ap (λ (r : ℕ). suc (within k r j' l)) (sub-zero room)

  -- where there is no room for a line, no byte is taken
  pub within_full : (room : ℕ) → room < 80 → (j : Journal) (l : List ℕ) → within k room j l ≡ 0
  unfolding within
  within_full room h j [] = refl
  within_full room h j (b ∷ l) = rw (lt-leb 80 room h)

  -- where there is, one is
  pub within_some : (room : ℕ) → 80 ≤ room → (j : Journal) (l : List ℕ) → 0 < length l → 0 < within k room j l
  unfolding within
  within_some room h j [] g = g
  within_some room h j (b ∷ l) g = rw (le-leb 80 room h) (omega arith)

  -- ---- where no line may be read any more

  pub feed_spent : (j : Journal) → j.left ≡ 0 → (l : List ℕ) → feed k j l ≡ record { journal = j; put = [] }
  unfolding feed after
  feed_spent j z [] = refl
  feed_spent j z (b ∷ l) = feed_cons j b l (record { journal = j; put = [] }) (byte_spent j b z) ∙ feed_spent j z l

  pub within_spent : (j : Journal) → j.left ≡ 0 → (room : ℕ) → 80 ≤ room → (l : List ℕ) → within k room j l ≡ length l
  unfolding within
  within_spent j z room h [] = refl
  within_spent j z room h (b ∷ l) = within_quiet room h j j b l (byte_spent j b z) ∙ ap suc (within_spent j z room h l)

  -- ---- a line that is not ended

  pub feed_part : (j : Journal) (n : ℕ) → j.left ≡ suc n → (l : List ℕ) → has_newline l ≡ false
      → feed k j l ≡ record { journal = keeping j (keeps j.held l); put = [] }
  unfolding feed has_newline keeps after
  feed_part j n e [] q = refl
  feed_part j n e (b ∷ l) q =
      let o = other b l q in
      feed_cons j b l (holding j b) (byte_other j n b e o.0) ∙ feed_part (holding j b).journal n e l o.1 ∙ rw o.0

  pub within_part : (j : Journal) (n : ℕ) → j.left ≡ suc n → (room : ℕ) → 80 ≤ room → (l : List ℕ)
      → has_newline l ≡ false → within k room j l ≡ length l
  unfolding within
  within_part j n e room h [] q = refl
  within_part j n e room h (b ∷ l) q =
      let o = other b l q in
      within_quiet room h j (holding j b).journal b l (byte_other j n b e o.0)
      ∙ ap suc (within_part (holding j b).journal n e room h l o.1)

  -- ---- a line that is

  pub feed_line : (j : Journal) (n : ℕ) → j.left ≡ suc n → (l : List ℕ) → has_newline l ≡ true
      → feed k j (take (up_to_newline l) l) ≡ ended k (keeping j (keeps j.held l)) n
  unfolding feed has_newline keeps up_to_newline after
  feed_line j n e [] q = absurd (false≢true q)
  feed_line j n e (b ∷ l) q = go (eqb b 10) refl (λ j' e' q'. feed_line j' n e' l q')
    where
      go : (c : Bool) → eqb b 10 ≡ c
          →
          ((j' : Journal) → j'.left ≡ suc n → has_newline l ≡ true → feed k j' (take (up_to_newline l) l)
          ≡ ended k (keeping j' (keeps j'.held l)) n)
          → feed k j (take (up_to_newline (b ∷ l)) (b ∷ l)) ≡ ended k (keeping j (keeps j.held (b ∷ l))) n
      go true w below =
          rw w
          (feed_cons j b [] (ended k j n) (byte_newline j n b e w)
          ∙ ap (λ (r : List ℕ). record { journal = (ended k j n).journal; put = r }) (append-nil (ended k j n).put))
      go false w below =
          rw w
          (feed_cons j b (take (up_to_newline l) l) (holding j b) (byte_other j n b e w)
          ∙ below (holding j b).journal e (later b l w q))

  pub within_line : (j : Journal) (n : ℕ) → j.left ≡ suc n → (room : ℕ) → 80 ≤ room → (l : List ℕ)
      → has_newline l ≡ true
      →
      (let f = ended k (keeping j (keeps j.held l)) n in within k room j l
      ≡ up_to_newline l + within k (room - length f.put) f.journal (drop (up_to_newline l) l))
  unfolding has_newline keeps up_to_newline
  within_line j n e room h [] q = absurd (false≢true q)
  within_line j n e room h (b ∷ l) q = go (eqb b 10) refl (λ j' e' q'. within_line j' n e' room h l q')
    where
      On : Journal → List ℕ → Type 0
      On j' m =
          (let f = ended k (keeping j' (keeps j'.held m)) n in within k room j' m
          ≡ up_to_newline m + within k (room - length f.put) f.journal (drop (up_to_newline m) m))

      go : (c : Bool) → eqb b 10 ≡ c → ((j' : Journal) → j'.left ≡ suc n → has_newline l ≡ true → On j' l)
          → On j (b ∷ l)
      go true w below = rw w (within_cons room h j b l (ended k j n) (byte_newline j n b e w) ∙ omega arith)
      go false w below =
          rw w
          (within_quiet room h j (holding j b).journal b l (byte_other j n b e w)
          ∙ ap suc (below (holding j b).journal e (later b l w q)) ∙ omega arith)
