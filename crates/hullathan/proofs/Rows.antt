-- The rows that a host reads: those that left, padded. Assumes nothing.
use mathlib.Core.Path.{◌≡◌, refl, ap, sym, ◌∙◌}
use mathlib.Core.List.{List, [], ◌∷◌, map}
use Prim.Native.Nat.{ℕ, zero, suc, ◌<◌}
use native.Mathlib.Omega.{arith}
use lib.ListN.{length, take}
use Rattle.std.specs.Prelude.{slice_index_or}
use Rattle.std.specs.Array.{AllOfLen}
use Rattle.std.proofs.lemmas.List.{length-map, length-take-le}
use Rattle.bank_model.specs.Departures.{most_left}
use Rattle.plain_tracker.specs.Plain.{carried, zeros}
use Rattle.plain.specs.declared.PlainDeparture.{PlainDeparture}
use Rattle.plain.specs.Plain.{plain_departure, no_departure}
use Rattle.rival.specs.declared.TimingHypothesis.{TimingHypothesis}
use Rattle.rival.specs.View.{view_hyp}
use Rattle.station.specs.declared.Answer.{Answer}
use Rattle.station.specs.declared.Outcome.{Outcome}
use Rattle.station.specs.declared.Station.{Station}
use Rattle.station.specs.View.{outcome}
use Rattle.station.specs.Parts.{Solid}
use Rattle.hullathan.specs.declared.PlainAnswer.{PlainAnswer}
use Rattle.hullathan.specs.declared.PlainRival.{PlainRival}
use Rattle.hullathan.specs.Parts.{Row}
use Rattle.hullathan.specs.Host.{code_number, no_rival, padded, rival_of, row_of}

module _ {A B : Type 0} (f : A → B) (z : B) where
  carried_padded : (l : List A) (n : ℕ) → carried f z n l ≡ padded z (length l) (map f (take n l))
  unfolding carried padded
  carried_padded [] zero = refl
  carried_padded [] (suc n) = refl
  carried_padded (x ∷ l) zero = ap (λ (r : List B). z ∷ r) (carried_padded l zero)
  carried_padded (x ∷ l) (suc n) = ap (λ (r : List B). f x ∷ r) (carried_padded l n)

  -- the first n of an array of k places
  pub array_padded : (l : List A) (n k : ℕ) → length l ≡ k → carried f z n l ≡ padded z k (map f (take n l))
  array_padded l n k h = carried_padded l n ∙ ap (λ (j : ℕ). padded z j (map f (take n l))) h

-- an array whose elements are all z
module _ {A : Type 0} (P : A → Type 0) (z : A) (f : (x : A) → P x → x ≡ z) where
  blank_list : (k : ℕ) (l : List A) → length l ≡ k → ((i : ℕ) (d : A) → i < k → P (slice_index_or l i d))
      → l ≡ padded z k []
  unfolding padded
  blank_list zero [] e h = refl
  blank_list zero (x ∷ l) e h = absurd (omega arith)
  blank_list (suc k) [] e h = absurd (omega arith)
  blank_list (suc k) (x ∷ l) e h =
      λ i. f x (h 0 x (omega arith)) i ∷ blank_list k l (omega arith) (λ j d b. h (suc j) d (omega arith)) i

  pub all_blank : (k : ℕ) (l : List A) → AllOfLen P l k → l ≡ padded z k []
  all_blank k l h = blank_list k l h.long h.at

-- an answer, number by number
pub row_made : (a : Answer) (s : Station) (code : ℕ) (left : List PlainDeparture) → code ≡ code_number a.code
    → left ≡ carried plain_departure no_departure a.gone.left_len a.gone.left → length a.gone.left ≡ most_left
    → Row a s (record {
      code = code;
      pad_code = zeros 3;
      dit_ms = s.primary.pair.lo;
      dah_ms = s.primary.pair.hi;
      pad_dah_ms = zeros 4;
      serial = s.serial;
      challengers = s.bank.challengers_len;
      left = left;
      left_len = a.gone.left_len;
    })
row_made a s code left e f h = record {
  code = e;
  pad = refl;
  dit = refl;
  dah = refl;
  pad_dah = refl;
  serial_is = refl;
  held = refl;
  left = f ∙ array_padded plain_departure no_departure a.gone.left a.gone.left_len most_left h;
  many = sym (length-take-le a.gone.left_len a.gone.left (omega (arith, a.gone.listed.few)));
}

-- and it is that of the outcome
pub row_is : (o : Outcome) (r : PlainAnswer) → Solid o.station → Row o.answer o.station r → r ≡ row_of (outcome o)
row_is o r s v =
    let few = s.bank.crew.few in
    let wide = s.bank.crew.long in
    let held : o.station.bank.challengers_len ≡ length (map view_hyp (take o.station.bank.challengers_len o.station.bank.challengers)) =
    sym (length-map (take o.station.bank.challengers_len o.station.bank.challengers) view_hyp
    ∙ length-take-le o.station.bank.challengers_len o.station.bank.challengers (omega arith)) in
    λ i. record {
      code = v.code i;
      pad_code = v.pad i;
      dit_ms = v.dit i;
      dah_ms = v.dah i;
      pad_dah_ms = v.pad_dah i;
      serial = v.serial_is i;
      challengers = (v.held ∙ held) i;
      left = v.left i;
      left_len = v.many i;
    }

-- ---- what is shown of a challenger
abbrev pub rival_in : TimingHypothesis → PlainRival
rival_in h = rival_of (view_hyp h)

map_twice : (l : List TimingHypothesis) → map rival_in l ≡ map rival_of (map view_hyp l)
map_twice [] = refl
map_twice (h ∷ l) = ap (λ (r : List PlainRival). rival_in h ∷ r) (map_twice l)

pub rivals_shown : (l : List TimingHypothesis) (n : ℕ) → length l ≡ 8
    → carried rival_in no_rival n l ≡ padded no_rival 8 (map rival_of (map view_hyp (take n l)))
rivals_shown l n h =
    array_padded rival_in no_rival l n 8 h ∙ ap (padded no_rival 8) (map_twice (take n l))
