-- The loop that counts departures by their cause. Assumes nothing.
use mathlib.Core.Path.{◌≡◌, ap, sym, ◌∙◌}
use mathlib.Core.List.{List, [], ◌∷◌, ◌++◌}
use Prim.Native.Nat.{ℕ, ◌+◌, ◌^◌, ◌≤◌, ◌<◌}
use Rattle.std.proofs.Common.{add-zero, add_assoc}
use native.Mathlib.Numerals.{add-one}
use native.Mathlib.Omega.{arith}
use lib.ListN.{length, take, get_or}
use lib.Seq.{take-suc, length-take-le}
use Rattle.bank_model.specs.declared.Cause.{Cause}
use Rattle.bank_model.specs.declared.Cause.TheVariants.{Twin, Outscored, Aged, Replaced, Cleared}
use Rattle.bank_model.specs.declared.Departure.{Departure}
use Rattle.bank_model.specs.Departures.{most_left}
use Rattle.station_model.specs.declared.Counts.{Counts}
use Rattle.station_model.specs.Station.{ind, is_cause, of_cause, tallied}
use Rattle.station_model.specs.Counting.{count_of, with_count}
use Rattle.station_model.proofs.Books.{by_cause, cause_append}
use Rattle.station.specs.Parts.{AtMost}

-- one more by a cause
abbrev one_more : Counts → Cause → Counts
one_more c w = record {
  twins = c.twins + ind (is_cause Twin w);
  outscored = c.outscored + ind (is_cause Outscored w);
  aged = c.aged + ind (is_cause Aged w);
  replaced = c.replaced + ind (is_cause Replaced w);
  cleared = c.cleared + ind (is_cause Cleared w);
}

counted_one : (c : Counts) (w : Cause) → with_count c w (count_of w c + 1) ≡ one_more c w
counted_one c Twin = simp add-zero
counted_one c Outscored = simp add-zero
counted_one c Aged = simp add-zero
counted_one c Replaced = simp add-zero
counted_one c Cleared = simp add-zero

-- none left
pub tallied_none : (c : Counts) → tallied c [] ≡ c
unfolding of_cause
tallied_none c = simp add-zero

-- one more left
tallied_more : (c : Counts) (l : List Departure) (d : Departure)
    → one_more (tallied c l) d.cause ≡ tallied c (l ++ (d ∷ []))
unfolding of_cause
tallied_more c l d = simp (cause_append, add-zero, add_assoc)

-- the first i of them are counted, the next one's cause is w, and n left by it so far
module _ (was c : Counts) (left : List Departure) (i : ℕ) (e : c ≡ tallied was (take i left)) where
  pub counted_next : (z : Departure) (n : ℕ) → i < length left → n ≡ count_of (get_or left i z).cause c
      → with_count c (get_or left i z).cause (n + 1) ≡ tallied was (take (i + 1) left)
  counted_next z n h q =
      let w = (get_or left i z).cause in
      ap (λ (m : ℕ). with_count c w (m + 1)) q
      ∙ counted_one c w
      ∙ ap (λ (x : Counts). one_more x w) e
      ∙ tallied_more was (take i left) (get_or left i z)
      ∙ ap (tallied was) (sym (rw add-one (take-suc left i z h)))

  -- the counts stay far below the largest u64
  pub counted_small : (w : Cause) (n : ℕ) → i ≤ length left → length left ≤ most_left → AtMost 4294967296 was
      → n ≡ count_of w c → n + 1 < 2 ^ 64
  counted_small w n h m k q = rw q (go w)
    where
      go : (w : Cause) → count_of w c + 1 < 2 ^ 64
      go Twin = rw e (omega (arith, k.twins, by_cause (take i left), length-take-le i left h))
      go Outscored = rw e (omega (arith, k.outscored, by_cause (take i left), length-take-le i left h))
      go Aged = rw e (omega (arith, k.aged, by_cause (take i left), length-take-le i left h))
      go Replaced = rw e (omega (arith, k.replaced, by_cause (take i left), length-take-le i left h))
      go Cleared = rw e (omega (arith, k.cleared, by_cause (take i left), length-take-le i left h))
